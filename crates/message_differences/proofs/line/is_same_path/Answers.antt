use Rattle.std.proofs.Common.{rules, ◌≡◌, true, false, map, sym, ◌∙◌, arith}
use Rattle.http_message.specs.Reading.{part_view}
use Rattle.policy_documents.specs.View.{pattern_view}
use Rattle.message_differences.proofs.LineLemmas.{paths_apart, paths_here, paths_later}
use Rattle.message_differences.proofs.line.is_same_path.Goals as goal

pub returns-then-len : goal.returns-then-len
returns-then-len c = sym (paths_apart part_view (map pattern_view c.args.patterns.now) 0 c.args.before.now c.args.after.now (λ e. omega (arith, c.if-len.true, c.len.ensures, c.len-2.ensures, e)))

pub returns-then-not-is_same_segment : goal.returns-then-not-is_same_segment
returns-then-not-is_same_segment c =
    let apart : c.is_same_segment.result ≡ false = search rules in
    paths_here part_view (map pattern_view c.args.patterns.now) c.args.before.now c.args.after.now c.loop-i.i c.item.result.now c.item-in-loop-i.result.now _ c.item.ensures c.item-in-loop-i.ensures c.loop-i.invariant.same (sym c.is_same_segment.ensures ∙ apart)

pub loop-i-preserved : goal.loop-i-preserved
loop-i-preserved c =
    let same : c.is_same_segment.result ≡ true = search rules in record {
      long = c.loop-i.invariant.long;
      same = paths_later part_view (map pattern_view c.args.patterns.now) c.args.before.now c.args.after.now c.loop-i.i c.item.result.now c.item-in-loop-i.result.now _ c.item.ensures c.item-in-loop-i.ensures c.loop-i.invariant.same (sym c.is_same_segment.ensures ∙ same);
    }
