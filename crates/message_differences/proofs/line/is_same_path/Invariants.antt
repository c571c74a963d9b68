use Rattle.std.proofs.Common.{◌≡◌, map, drop, length}
use Rattle.spec_messages.specs.Policy.{same_path}
use Rattle.http_message.specs.Reading.{part_view}
use Rattle.policy_documents.specs.View.{pattern_view}
use Rattle.message_differences.proofs.line.is_same_path.Given as goal

abbrev pub invariant-loop-i : goal.invariant-loop-i
invariant-loop-i l = record {
  long : length l.before ≡ length l.after;
  same : same_path (map pattern_view l.patterns) l.i (map part_view (drop l.i l.before)) (map part_view (drop l.i l.after)) ≡ same_path (map pattern_view l.patterns) 0 (map part_view l.before) (map part_view l.after);
}
