use Rattle.std.proofs.Common.{sym, ap, ◌∙◌, Some}
use Rattle.spec_documents.specs.Fields.{field_list}
use Rattle.spec_documents.proofs.FieldLemmas.{fields-field_list}
use Rattle.spec_messages.specs.Fault.{first_unknown, is_known}
use Rattle.n32_values.specs.View.{tree_of}
use Rattle.block_forms.proofs.Loops.{known_at, unknown_at}
use Rattle.block_forms.proofs.parts.first_unknown.Goals as goal

pub loop-i-init : goal.loop-i-init
loop-i-init c = ap first_unknown (fields-field_list c.args.map.now)

pub loop-i-preserved : goal.loop-i-preserved
loop-i-preserved c =
    sym (known_at (field_list c.args.map.now) c.loop-i.i c.entry.result.0.now (tree_of c.entry.result.1.now) c.entry.ensures (ap is_known (sym c.as_str-name.ensures) ∙ (sym c.is_known.ensures ∙ c.if-not-is_known.false))) ∙ c.loop-i.invariant

pub returns-then-not-is_known : goal.returns-then-not-is_known
returns-then-not-is_known c =
    ap Some c.as_str-name.ensures ∙ (sym (unknown_at (field_list c.args.map.now) c.loop-i.i c.entry.result.0.now (tree_of c.entry.result.1.now) c.entry.ensures (ap is_known (sym c.as_str-name.ensures) ∙ (sym c.is_known.ensures ∙ c.if-not-is_known.true))) ∙ c.loop-i.invariant)
