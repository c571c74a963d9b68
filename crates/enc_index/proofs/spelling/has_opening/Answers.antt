use Rattle.std.proofs.lemmas.Str.Pattern.{contains_text as contains_told}
use Rattle.spec_documents.specs.Hole.{hole_opening}
use Rattle.enc_index.proofs.Spellings.{contains_is}
use Rattle.enc_index.proofs.spelling.has_opening.Goals as goal

pub returns : goal.returns
returns c = contains_is c.contains.result hole_opening c.args.text.now (contains_told c.contains.result hole_opening c.args.text.now c.contains.ensures.cases)
