use Rattle.std.proofs.Common.{◌∙◌}
use Rattle.spec_documents.specs.Hole.{text_hole}
use Rattle.enc_index.proofs.FillTexts.{text_held}
use Rattle.enc_index.proofs.filling.value_text.Goals as goal

pub returns-in-Some : goal.returns-in-Some
returns-in-Some c = c.words_at.ensures ∙ text_held (text_hole c.args.text.now) c.args.values.now c.args.text.now c.in-Some.index c.requires c.in-Some.ensures
