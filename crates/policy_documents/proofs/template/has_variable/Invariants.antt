use Rattle.std.proofs.Common.{◌≡◌, map, drop}
use Rattle.std.specs.List.{list_any}
use Rattle.std.specs.Str.{bytes_eq}
use Rattle.spec_messages.specs.PolicyDocument.{variable_names}
use Rattle.policy_documents.specs.View.{pattern_view}
use Rattle.policy_documents.proofs.template.has_variable.Given as goal

abbrev pub invariant-loop-i : goal.invariant-loop-i
invariant-loop-i l = list_any (bytes_eq l.name) (variable_names (map pattern_view (drop l.i l.patterns))) ≡ list_any (bytes_eq l.name) (variable_names (map pattern_view (drop l.fn.first l.patterns)))
