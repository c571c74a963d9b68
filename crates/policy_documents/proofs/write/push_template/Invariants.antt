use Rattle.std.proofs.Common.{◌≡◌, ◌++◌, map, drop, string_bytes}
use Rattle.spec_messages.specs.PolicyDocument.{template_text}
use Rattle.policy_documents.specs.View.{pattern_view}
use Rattle.policy_documents.proofs.write.push_template.Given as goal

abbrev pub invariant-loop-i : goal.invariant-loop-i
invariant-loop-i l = string_bytes l.out ++ template_text (map pattern_view (drop l.i l.patterns)) ≡ string_bytes l.initial.out ++ template_text (map pattern_view l.patterns)
