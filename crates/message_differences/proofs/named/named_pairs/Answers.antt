use Rattle.std.proofs.Common.{map, ap, ◌∙◌}
use Rattle.http_message.specs.Reading.{pair_view}
use Rattle.message_differences.specs.Named.{named_view}
use Rattle.message_differences.proofs.FindLemmas.{view_more}
use Rattle.message_differences.proofs.named.named_pairs.Goals as goal

pub loop-i-preserved : goal.loop-i-preserved
loop-i-preserved c =
    ap (map named_view) c.in_ok-push.ensures.items
    ∙ view_more named_view pair_view (λ p. (p.name, p.value)) c.loop-i.list.items c.args.pairs.now c.loop-i.i c.named_pair.result c.item.result.now c.loop-i.invariant c.item.ensures c.named_pair.ensures
