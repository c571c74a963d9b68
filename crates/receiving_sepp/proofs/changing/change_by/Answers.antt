use Rattle.std.proofs.Common.{◌≡◌, length, Result, Ok, sym, ap, arith, ◌∙◌}
use Rattle.spec_messages.specs.Message.{Message}
use Rattle.http_message.specs.Reading.{message_view}
use Rattle.http_message.specs.declared.message.Message as read
use Rattle.context_records.specs.View.{context_view}
use Rattle.spec_exchange.specs.AcceptRefusals.{Refusal}
use Rattle.receiving_sepp.specs.Groups.{terms_by}
use Rattle.receiving_sepp.specs.Views.{listed_view, rebuilt_view}
use Rattle.receiving_sepp.proofs.Leaving.{unchanged, no_items}
use Rattle.receiving_sepp.proofs.Verified.{under_any}
use Rattle.receiving_sepp.proofs.changing.change_by.Goals as goal

pub returns-then-len-eq0-clause-answer : goal.returns-then-len-eq0-clause-answer
returns-then-len-eq0-clause-answer g c =
    let none : length c.args.list.now ≡ 0 = omega arith in
    under_any _ _ _ _ λ v.
    unchanged (terms_by (context_view c.args.context.now) (listed_view c.args.list.now c.args.outline.now) c.args.revealed.mapping (length c.args.revealed.rebuilt.values)) v (rebuilt_view c.args.revealed.rebuilt) c.args.list.now c.requires (no_items c.args.list.now none)
    ∙ ap (λ (m : read.Message). let r : Result Message Refusal = Ok (message_view m) in r) (sym c.content_of.ensures)

pub returns-in_default-clause-answer : goal.returns-in_default-clause-answer
returns-in_default-clause-answer g c = under_any _ _ _ _ λ v. tt
