use Rattle.std.proofs.Common.{arith}
use Rattle.aes_block.proofs.Entries.{substitutions-at}
use Rattle.aes_block.proofs.tables.substitution.Goals as goal

pub returns : goal.returns
returns c = substitutions-at c.args.x (omega arith)
