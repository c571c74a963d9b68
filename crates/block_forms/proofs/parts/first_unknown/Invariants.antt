use Rattle.std.proofs.Common.{◌≡◌, drop}
use Rattle.spec_documents.specs.Fields.{fields, field_list}
use Rattle.spec_messages.specs.Fault.{first_unknown}
use Rattle.block_forms.proofs.parts.first_unknown.Given as goal

abbrev pub invariant-loop-i : goal.invariant-loop-i
invariant-loop-i l = first_unknown (fields (drop l.i (field_list l.map))) ≡ first_unknown l.map
