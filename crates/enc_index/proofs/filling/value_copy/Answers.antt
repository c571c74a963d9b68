use Rattle.enc_index.proofs.FillTexts.{value_none}
use Rattle.enc_index.proofs.filling.value_copy.Goals as goal

pub returns-in-None : goal.returns-in-None
returns-in-None c = value_none c.args.values.now c.args.index c.in-None.ensures.value
