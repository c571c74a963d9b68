-- What is delivered is patched from what was opened, and patching commutes with filling for it.
use Rattle.std.proofs.Common.{◌≡◌, ℕ, List, false, Option, Result, Ok, Err, IsTrue, refl, sym, ap, subst, ◌∙◌}
use Rattle.std.specs.Prelude.{IfOk}
use Rattle.spec_documents.specs.Tree.{Tree, is_ordered}
use Rattle.spec_records.specs.Records.{Record}
use Rattle.spec_sealing.specs.Received.{Received, received}
use Rattle.context_store.specs.Stores.{Stored}
use Rattle.context_store.specs.declared.call_faults.CallFault.{CallFault}
use Rattle.context_store.specs.Changes.{with_room, is_of_keeper}
use Rattle.spec_exchange.specs.Outside.{Cause, Read, with_put}
use Rattle.spec_exchange.specs.ReceivingRefusals.{NoRoom}
use Rattle.spec_exchange.specs.AcceptRefusals.{Refusal, Receiving}
use Rattle.spec_exchange.specs.EntryChecks.{Verifying}
use Rattle.spec_exchange.specs.Screens.{Passes}
use Rattle.spec_exchange.specs.Stages.{Delivery}
use Rattle.spec_exchange.specs.Accepting.{first_failed}
use Rattle.spec_exchange.specs.AcceptDelivered.{IsDelivered, Commutes}
use Rattle.spec_exchange.specs.Calls.{delivered_record}
use Rattle.spec_exchange.proofs.ChainLemmas.{puts-ok}
use Rattle.entry_checks.specs.Verifiers.{Meaning, UnderVerifier}
use Rattle.receiving_sepp.specs.Outcome.{Delivers, IsOrdered, IsPatched}
use Rattle.receiving_sepp.specs.declared.delivery.Delivered.{Delivered}
use Rattle.receiving_sepp.specs.declared.refused.Refused.{Refused}
use Rattle.receiving_sepp.proofs.Verified.{under_on}

module _
    (opened_and_changed : (passes : Passes) (v : Verifying) (records : List Record) (node : List ℕ) (t : Tree) (y : Delivery) → ((d : Received) → received t ≡ Ok d → IsTrue (is_ordered d.block)) → first_failed passes v records node t ≡ Ok y → IsDelivered passes v records node t y)
    (commutes : (passes : Passes) (v : Verifying) (records : List Record) (node : List ℕ) (t : Tree) (y : Delivery) (h : IsDelivered passes v records node t y) → Commutes h)
    (passes : Passes) (mid now : Option (List (List ℕ))) (read new : Stored) (node : List ℕ) (t : Tree) (d : Delivery) where
  patched : (v : Verifying) (x : Delivered) → Delivers mid now read new d (Ok x) → IsOrdered read.records node t → first_failed passes v read.records node t ≡ with_room (Receiving NoRoom) read.records d → IsPatched passes v new node t x
  patched v x h order is =
      let y = h.comes.answer.0 in
      let put = puts-ok Read (with_room (Receiving NoRoom) read.records d) h.choice delivered_record y h.comes.answer.1 in
      let fresh = h.comes.still (subst (λ (r : Result Delivery (Cause Refusal)). is_of_keeper r ≡ false) (sym h.comes.answer.1) refl) in
      let behind = opened_and_changed passes v read.records node t y order.block (is ∙ put.0) in
      record {
        records = read.records;
        delivery = y;
        shows = h.comes.answer.2;
        more = h.comes.change.kept fresh ∙ ap (with_put read.records) put.1;
        behind = behind;
        ordered = order.values behind.parts behind.keyed behind.plain behind.form behind.has_keys behind.is_opened;
        commutes = commutes passes v read.records node t y behind;
      }

  pub delivers_patched : (meaning : Option Meaning) (before after_ : ℕ) (result : Result Delivered (CallFault Refused)) → Delivers mid now read new d result → IsOrdered read.records node t
      → UnderVerifier meaning before after_ (λ v. first_failed passes v read.records node t ≡ with_room (Receiving NoRoom) read.records d) → IfOk result (λ x. UnderVerifier meaning before after_ (λ v. IsPatched passes v new node t x))
  delivers_patched meaning before after_ (Ok x) h order u = under_on meaning before after_ _ _ (λ v is. patched v x h order is) u
  delivers_patched meaning before after_ (Err e) h order u = tt
