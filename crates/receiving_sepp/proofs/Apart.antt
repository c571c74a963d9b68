-- Accepting over the records of the document's context alone comes to the same, and puts a record of this context.
use Rattle.std.proofs.Common.{◌≡◌, ℕ, List, true, Option, Result, Ok, Err, refl, sym, ap, subst, ◌∙◌}
use Rattle.std.specs.Prelude.{bytes_eq}
use Rattle.std.proofs.lemmas.Bool.{and_from, eq-eqb}
use Rattle.std.proofs.lemmas.Slice.Eq.{bytes_eq-Decides}
use Rattle.spec_documents.specs.Tree.{Tree}
use Rattle.spec_records.specs.Records.{Record, own}
use Rattle.spec_sealing.specs.Received.{Received, received}
use Rattle.context_store.specs.Stores.{Stored}
use Rattle.context_store.specs.Changes.{ComesTo, CallBy, AddsOwn}
use Rattle.context_store.proofs.Calls.{not_refused, adds_own, adds_nothing}
use Rattle.context_store.specs.declared.call_faults.CallFault.{CallFault}
use Rattle.context_store.specs.declared.call_faults.CallFault.TheVariants as answer
use Rattle.spec_exchange.specs.AcceptRefusals.{Refusal, Receiving}
use Rattle.spec_exchange.specs.ReceivingRefusals.{NoRoom}
use Rattle.spec_exchange.specs.Outside.{Reading, Read, ReadFails, BadRecord, Putting, Own, puts, behind_reading, or_refusal}
use Rattle.spec_exchange.specs.Stages.{Delivery}
use Rattle.spec_exchange.specs.EntryChecks.{Verifying}
use Rattle.spec_exchange.specs.Screens.{Passes}
use Rattle.spec_exchange.specs.Accepting.{first_failed}
use Rattle.spec_exchange.specs.Calls.{delivered_record, accepted}
use Rattle.spec_exchange.specs.Isolation.{unnumbered_result, received_id, is_id}
use Rattle.spec_exchange.proofs.AcceptLemmas.{accepted-passed}
use Rattle.spec_exchange.proofs.IsolationLemmas.{document_apart, is_id-at}
use Rattle.entry_checks.specs.Verifiers.{Meaning, UnderVerifier, verifying}
use Rattle.receiving_sepp.specs.Outcome.{Accepts, Answers}
use Rattle.receiving_sepp.specs.Apart.{IsFull, AnswersAlike, AcceptsApart, is_for}
use Rattle.receiving_sepp.specs.Views.{refused_view}
use Rattle.receiving_sepp.specs.declared.delivery.Delivered.{Delivered}
use Rattle.receiving_sepp.specs.declared.refused.Refused.{Refused}
use Rattle.receiving_sepp.specs.declared.refused.Refused.TheVariants.{Limit}
use Rattle.receiving_sepp.proofs.Verified.{under_on}

-- ---- the answer

module _ (result : Result Delivered (CallFault Refused)) (held now : Option (List (List ℕ))) (records : List Record) (new : Stored) where
  -- where the checks come to the same, but for a replay's number, the call does
  checks_alike : (p : Putting) (r s : Result Delivery Refusal) → unnumbered_result r ≡ unnumbered_result s → ComesTo (Answers result) held now records new (or_refusal r (λ d. puts p (delivered_record d) d)) → ComesTo (AnswersAlike result) held now records new (or_refusal s (λ d. puts p (delivered_record d) d))
  checks_alike p (Ok x) (Ok y) e c =
      let same : x ≡ y = cc in
      subst (λ z. ComesTo (AnswersAlike result) held now records new (puts p (delivered_record z) z)) same (record { answer = (_, refl, c.answer); change = c.change; still = c.still })
  checks_alike p (Err d) (Err f) e c = record { answer = (Err (Own d), cc, c.answer); change = c.change; still = c.still }
  checks_alike p (Ok x) (Err f) e c = cc
  checks_alike p (Err d) (Ok y) e c = cc

  call_alike : (reading : Reading) (p : Putting) (r s : Result Delivery Refusal) → (Answers result (Err (Own (Receiving NoRoom))) → ⊥) → ((r ≡ Err (Receiving NoRoom) → ⊥) → unnumbered_result r ≡ unnumbered_result s)
      → ComesTo (Answers result) held now records new (behind_reading reading (or_refusal r (λ d. puts p (delivered_record d) d))) → ComesTo (AnswersAlike result) held now records new (behind_reading reading (or_refusal s (λ d. puts p (delivered_record d) d)))
  call_alike Read p r s other e c = checks_alike p r s (e (not_refused delivered_record (Answers result) held now records new p r (Receiving NoRoom) other c)) c
  call_alike ReadFails p r s other e c = record { answer = (_, refl, c.answer); change = c.change; still = c.still }
  call_alike (BadRecord k) p r s other e c = record { answer = (_, refl, c.answer); change = c.change; still = c.still }

-- the id that a document names
named : (t : Tree) (d : Received) → received t ≡ Ok d → is_id (received_id (received t)) d.context ≡ true
named t d e = is_id-at (received_id (received t)) d.context d.context (ap received_id e) ∙ eq-eqb d.context d.context refl

by_own : (passes : Passes) (v : Verifying) (held now : Option (List (List ℕ))) (old new : Stored) (node : List ℕ) (t : Tree) (d : Received) (result : Result Delivered (CallFault Refused)) → received t ≡ Ok d → (Answers result (Err (Own (Receiving NoRoom))) → ⊥)
    → CallBy (λ f records. accepted passes (record { keeper = f; verifier = v }) records node t) (Answers result) held now old new
    → CallBy (λ f records. accepted passes (record { keeper = f; verifier = v }) (own node d.context records) node t) (AnswersAlike result) held now old new
by_own passes v held now old new node t d result e other h =
    let r : Result Delivery Refusal = first_failed passes v h.records node t in
    let s : Result Delivery Refusal = first_failed passes v (own node d.context h.records) node t in
    record {
      choice = h.choice;
      records = h.records;
      chosen = h.chosen;
      few = h.few;
      comes = call_alike result held now h.records new h.choice.reading h.choice.putting r s other (λ differs. document_apart passes v h.records node d.context t (named t d e) (λ full. differs)) h.comes;
    }

is_limit : (f : Refused) → refused_view f ≡ Receiving NoRoom → f ≡ Limit
is_limit Limit e = refl
is_limit _ e = cc

accepts_apart : (passes : Passes) (v : Verifying) (held now : Option (List (List ℕ))) (old new : Stored) (node : List ℕ) (t : Tree) (d : Received) (result : Result Delivered (CallFault Refused)) → received t ≡ Ok d → (IsFull result → ⊥)
    → Accepts passes v held now old new node t result → AcceptsApart passes v held now old new node d.context t result
accepts_apart passes v held now old new node t d (Ok x) e other h = by_own passes v held now old new node t d (Ok x) e (λ a. let is = a.1 in cc) h
accepts_apart passes v held now old new node t d (Err (answer.Refused f)) e other h =
    by_own passes v held now old new node t d (Err (answer.Refused f)) e (λ a. let same : refused_view f ≡ Receiving NoRoom = cc in other (ap (λ z. Err (answer.Refused z)) (is_limit f same))) h
accepts_apart passes v held now old new node t d (Err (answer.Journal k)) e other h = by_own passes v held now old new node t d (Err (answer.Journal k)) e (λ a. cc) h
accepts_apart passes v held now old new node t d (Err answer.Keeper) e other h = by_own passes v held now old new node t d (Err answer.Keeper) e (λ a. cc) h
accepts_apart passes v held now old new node t d (Err answer.NoMemory) e other h = tt

pub apart : (passes : Passes) (meaning : Option Meaning) (before after_ : ℕ) (held now : Option (List (List ℕ))) (old new : Stored) (node : List ℕ) (t : Tree) (result : Result Delivered (CallFault Refused)) → (d : Received) → received t ≡ Ok d → (IsFull result → ⊥)
    → UnderVerifier meaning before after_ (λ v. Accepts passes v held now old new node t result) → UnderVerifier meaning before after_ (λ v. AcceptsApart passes v held now old new node d.context t result)
apart passes meaning before after_ held now old new node t result d e other u =
    under_on meaning before after_ (λ v. Accepts passes v held now old new node t result) (λ v. AcceptsApart passes v held now old new node d.context t result)
    (λ v h. accepts_apart passes v held now old new node t d result e other h) u

-- ---- the record that is put

is_own : (passes : Passes) (v : Verifying) (records : List Record) (node : List ℕ) (t : Tree) (y : Delivery) → first_failed passes v records node t ≡ Ok y → is_for node t (delivered_record y) ≡ true
is_own passes v records node t y e =
    let passed = accepted-passed passes v records node t y e in
    and_from (bytes_eq node y.node) _ ((bytes_eq-Decides node y.node).1 (sym passed.new.node_is))
    (is_id-at (received_id (received t)) passed.parts.context y.id (ap received_id passed.form) ∙ eq-eqb passed.parts.context y.id (sym passed.id_is))

own_put : (passes : Passes) (v : Verifying) (held now : Option (List (List ℕ))) (old new : Stored) (node : List ℕ) (t : Tree) (result : Result Delivered (CallFault Refused)) → Accepts passes v held now old new node t result → AddsOwn (is_for node t) held now old new
own_put passes v held now old new node t (Err answer.NoMemory) h = adds_nothing (is_for node t) held now old new h
own_put passes v held now old new node t result h = adds_own (is_for node t) (λ records. first_failed passes v records node t) delivered_record (Answers result) held now old new (λ records y is. is_own passes v records node t y is) h

pub own_added : (passes : Passes) (meaning : Option Meaning) (before after_ : ℕ) (held now : Option (List (List ℕ))) (old new : Stored) (node : List ℕ) (t : Tree) (result : Result Delivered (CallFault Refused))
    → UnderVerifier meaning before after_ (λ v. Accepts passes v held now old new node t result) → AddsOwn (is_for node t) held now old new
own_added passes meaning before after_ held now old new node t result u = own_put passes (verifying meaning u.saying) held now old new node t result u.comes
