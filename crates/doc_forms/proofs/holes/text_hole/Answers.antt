use Rattle.std.proofs.Common.{option_map, ap, sym, ◌∙◌}
use Rattle.doc_forms.specs.Capped.{capped}
use Rattle.doc_forms.proofs.HoleForms.{hole_digits, not_hole}
use Rattle.doc_forms.proofs.holes.text_hole.Goals as goal

pub returns-in-Some : goal.returns-in-Some
returns-in-Some c = c.number_of.ensures ∙ ap (option_map capped) (sym (hole_digits c.args.text.now c.in-Some.digits.now c.in-Some.ensures))

pub returns-in-None : goal.returns-in-None
returns-in-None c = sym (ap (option_map capped) (not_hole c.args.text.now c.in-None.ensures))
