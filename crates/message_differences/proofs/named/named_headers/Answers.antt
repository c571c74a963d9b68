use Rattle.std.proofs.Common.{Some, map, ap, ◌∙◌}
use Rattle.http_message.specs.Reading.{header_view}
use Rattle.message_differences.specs.Named.{named_view}
use Rattle.message_differences.proofs.FindLemmas.{view_more}
use Rattle.message_differences.proofs.named.named_headers.Goals as goal

pub loop-i-preserved : goal.loop-i-preserved
loop-i-preserved c =
    ap (map named_view) c.in_ok-push.ensures.items
    ∙ view_more named_view header_view (λ h. (h.name, Some h.value)) c.loop-i.list.items c.args.headers.now c.loop-i.i c.named_header.result c.item.result.now c.loop-i.invariant c.item.ensures c.named_header.ensures
