-- What was answered to a message has the forms that its way asks, by what the types of the program give.
use Rattle.std.proofs.Common.{◌≡◌, ℕ, ◌≤◌, List, [], ◌∷◌, true, ◌||◌, Some, Ok, refl, codes}
use Rattle.std.proofs.lemmas.Bool.{and_parts, or_left}
use Rattle.std.specs.Prelude.{bytes_eq, nat_le, length}
use Rattle.spec_documents.specs.Text.{is_identity}
use Rattle.spec_messages.specs.Message.{Message, Kind, of_request, of_response, kind_of, is_whole, body_depth}
use Rattle.spec_messages.specs.Block.{is_ordered_body}
use Rattle.spec_records.specs.Keys.{send_key}
use Rattle.spec_records.specs.Records.{KeySet, Context, Record, open_context, keys}
use Rattle.spec_records.specs.RecordDocument.{are_ipx, IsOneKey, IsKeySet}
use Rattle.spec_exchange.specs.Calls.{Outgoing, Sealed, kind_of_outgoing, protected, authorized}
use Rattle.spec_exchange.specs.Untouched.{HasNames, AnswersId, AreValues, shipment}
use Rattle.spec_exchange.proofs.UntouchedLemmas.{protected-answered, id-fits}
use Rattle.paired_sepps.specs.Untouched.{IsBodyDocument}
use Rattle.paired_sepps.proofs.Shipped.{sealed_values}

sending_key : (kind : Kind) (k : KeySet) → IsKeySet k → IsOneKey (send_key kind k)
sending_key of_request k is = is.send_request
sending_key of_response k is = is.send_response

module _ (records : List Record) (node : List ℕ) (id : ℕ) (o : Outgoing) (m : Message) (s : Sealed) (x : Context) (k : KeySet) where
  pub answered_values : is_whole m ≡ true → is_ordered_body m.body ≡ true → body_depth m.body ≤ 64 → kind_of m ≡ kind_of_outgoing o → AnswersId o
      → protected records node id o m ≡ Ok s → open_context node id records ≡ Some x → keys node id records ≡ Some k
      → IsBodyDocument m.body → HasNames x → IsKeySet k → AreValues (shipment x k o m s)
  answered_values whole ordered shallow kind answers e is_open has_keys body names are =
      let p = protected-answered records node id o m s x k e is_open has_keys in
      sealed_values (shipment x k o m s)
      (record { whole = whole; ordered = ordered; shallow = shallow; kind = kind; limits = p.limits; mapped = p.mapped; fits = id-fits o s.seq p.fits answers })
      body names (sending_key (kind_of_outgoing o) k are)
