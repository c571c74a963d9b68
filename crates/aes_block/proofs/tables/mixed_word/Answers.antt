use Rattle.std.proofs.Common.{arith}
use Rattle.aes_block.proofs.Entries.{mixed_columns-at}
use Rattle.aes_block.proofs.tables.mixed_word.Goals as goal

pub returns : goal.returns
returns c = mixed_columns-at c.args.x (omega arith)
