use Rattle.std.proofs.Common.{◌≡◌, map, drop}
use Rattle.spec_messages.specs.PolicyDocument.{variable_names, are_distinct}
use Rattle.policy_documents.specs.View.{pattern_view}
use Rattle.policy_documents.proofs.template.are_distinct.Given as goal

abbrev pub invariant-loop-i : goal.invariant-loop-i
invariant-loop-i l = are_distinct (variable_names (map pattern_view (drop l.i l.patterns))) ≡ are_distinct (variable_names (map pattern_view l.patterns))
