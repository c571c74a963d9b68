use Rattle.std.proofs.Common.{Some, sym, ap, ◌∙◌}
use Rattle.spec_messages.specs.Policy.{header_at}
use Rattle.http_message.specs.Reading.{header_view}
use Rattle.sealing_check.specs.Rules.{header_test}
use Rattle.sealing_check.specs.Found.{header_site}
use Rattle.sealing_check.proofs.FirstOfList.{first_here, first_later}
use Rattle.sealing_check.proofs.parts.clear_header.Goals as goal

pub loop-i-preserved : goal.loop-i-preserved
loop-i-preserved c = first_later header_view (header_test c.args.sealed.now) header_site c.args.headers.now c.loop-i.i c.item-header.result.now _ c.item-header.ensures c.loop-i.invariant (sym c.is_header_clear.ensures ∙ c.if-is_header_clear.false)

pub returns-then-is_header_clear : goal.returns-then-is_header_clear
returns-then-is_header_clear c = ap (λ n. Some (header_at n)) c.in_ok-name.ensures ∙ first_here header_view (header_test c.args.sealed.now) header_site c.args.headers.now c.loop-i.i c.item-header.result.now _ c.item-header.ensures c.loop-i.invariant (sym c.is_header_clear.ensures ∙ c.if-is_header_clear.true)
