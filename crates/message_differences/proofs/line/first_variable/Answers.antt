use Rattle.std.proofs.Common.{option_map, map, sym, ap, ◌∙◌}
use Rattle.http_message.specs.Reading.{part_view}
use Rattle.policy_documents.specs.View.{pattern_view}
use Rattle.policy_tables.specs.View.{address_view}
use Rattle.message_differences.specs.Fixed.{fixed_by}
use Rattle.message_differences.proofs.FindLemmas.{get_at, copied_view}
use Rattle.message_differences.proofs.LineLemmas.{variables_found, variables_none}
use Rattle.message_differences.proofs.line.first_variable.Goals as goal

pub returns-in-Some : goal.returns-in-Some
returns-in-Some c =
    variables_found (fixed_by c.args.change.now) pattern_view c.args.patterns.now c.loop-i.i c.index-patterns-i.result (map part_view c.args.before.now) (map part_view c.args.after.now) _ _ (address_view c.in-Some.address) _
    (get_at c.args.patterns.now c.loop-i.i c.index-patterns-i.result c.loop-i-test.true c.index-patterns-i.is)
    (copied_view part_view c.args.before.now c.loop-i.i c.get.result c.get.ensures.value) (copied_view part_view c.args.after.now c.loop-i.i c.get-in-loop-i.result c.get-in-loop-i.ensures.value)
    (sym c.in_ok-fixed.ensures ∙ ap (option_map address_view) c.in-Some.is) c.loop-i.invariant

pub loop-i-preserved : goal.loop-i-preserved
loop-i-preserved c =
    variables_none (fixed_by c.args.change.now) pattern_view c.args.patterns.now c.loop-i.i c.index-patterns-i.result (map part_view c.args.before.now) (map part_view c.args.after.now) _ _ _
    (get_at c.args.patterns.now c.loop-i.i c.index-patterns-i.result c.loop-i-test.true c.index-patterns-i.is)
    (copied_view part_view c.args.before.now c.loop-i.i c.get.result c.get.ensures.value) (copied_view part_view c.args.after.now c.loop-i.i c.get-in-loop-i.result c.get-in-loop-i.ensures.value)
    (sym c.in_ok-fixed.ensures ∙ ap (option_map address_view) c.in_default.is) c.loop-i.invariant
