use Rattle.std.proofs.Common.{◌≡◌, map, drop, find}
use Rattle.spec_messages.specs.Policy.{variables_changed}
use Rattle.http_message.specs.Reading.{part_view}
use Rattle.policy_documents.specs.View.{pattern_view}
use Rattle.message_differences.specs.Fixed.{fixed_by}
use Rattle.message_differences.proofs.line.first_variable.Given as goal

abbrev pub invariant-loop-i : goal.invariant-loop-i
invariant-loop-i l = find (fixed_by l.change) (variables_changed (map pattern_view (drop l.i l.patterns)) l.i (map part_view l.before) (map part_view l.after)) ≡ find (fixed_by l.change) (variables_changed (map pattern_view l.patterns) 0 (map part_view l.before) (map part_view l.after))
