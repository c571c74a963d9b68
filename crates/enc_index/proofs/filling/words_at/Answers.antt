use Rattle.std.proofs.Common.{ap}
use Rattle.spec_documents.specs.Hole.{text_value}
use Rattle.enc_index.proofs.FillTexts.{value_none}
use Rattle.enc_index.proofs.filling.words_at.Goals as goal

pub returns-in-None : goal.returns-in-None
returns-in-None c = ap text_value (value_none c.args.values.now c.args.index c.in-None.ensures.value)
