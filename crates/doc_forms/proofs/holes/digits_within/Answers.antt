use Rattle.std.proofs.Common.{◌++◌, codes}
use Rattle.doc_forms.proofs.holes.digits_within.Goals as goal

pub returns-in-None : goal.returns-in-None
returns-in-None c = λ digits. c.in-None.ensures.cases (digits ++ codes "}")
