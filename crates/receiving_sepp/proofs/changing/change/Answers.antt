use Rattle.std.proofs.Common.{◌≡◌, [], length, Option, Result, Ok, sym, ap, ◌∙◌}
use Rattle.std.specs.Prelude.{List, unwrap_or}
use Rattle.spec_documents.specs.Tree.{Tree}
use Rattle.spec_messages.specs.Message.{Message}
use Rattle.http_message.specs.Reading.{message_view}
use Rattle.http_message.specs.declared.message.Message as read
use Rattle.prins_document.specs.View.{entries_of}
use Rattle.context_records.specs.View.{context_view}
use Rattle.spec_exchange.specs.AcceptRefusals.{Refusal}
use Rattle.receiving_sepp.specs.Groups.{terms_by}
use Rattle.receiving_sepp.specs.Views.{outline_view, rebuilt_view}
use Rattle.receiving_sepp.proofs.Leaving.{unchanged}
use Rattle.receiving_sepp.proofs.Verified.{under_any}
use Rattle.receiving_sepp.proofs.changing.change.Goals as goal

pub returns-in-None-clause-answer : goal.returns-in-None-clause-answer
returns-in-None-clause-answer g c =
    let t = c.args.document.now in
    let none : unwrap_or (entries_of t) [] ≡ [] = ap (λ (o : Option (List Tree)). unwrap_or o []) (sym c.in-None.ensures) in
    under_any _ _ _ _ λ v.
    unchanged (terms_by (context_view c.args.context.now) (outline_view t c.args.outline.now) c.args.revealed.mapping (length c.args.revealed.rebuilt.values)) v (rebuilt_view c.args.revealed.rebuilt) (unwrap_or (entries_of t) []) c.requires none
    ∙ ap (λ (m : read.Message). let r : Result Message Refusal = Ok (message_view m) in r) (sym c.content_of.ensures)
