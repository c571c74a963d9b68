-- An answer that the verifier failed comes only where its count rose, and one that the keeper failed only where every check holds.
use Rattle.std.proofs.Common.{◌≡◌, ℕ, List, true, Option, Result, Err, ap, subst, ◌∙◌}
use Rattle.std.specs.Prelude.{IsOk}
use Rattle.spec_documents.specs.Tree.{Tree}
use Rattle.spec_records.specs.Records.{Record}
use Rattle.n32_outside.specs.Causes.{Rose}
use Rattle.context_store.specs.Stores.{Stored}
use Rattle.context_store.specs.declared.call_faults.CallFault.{CallFault}
use Rattle.context_store.specs.declared.call_faults.CallFault.TheVariants.{Keeper}
use Rattle.spec_exchange.specs.AcceptRefusals.{Refusal, OfEntry}
use Rattle.spec_exchange.specs.EntryRefusals.{VerifierFailed}
use Rattle.spec_exchange.specs.EntryChecks.{Claim, Fails, Verifying}
use Rattle.spec_exchange.specs.Screens.{Passes}
use Rattle.spec_exchange.specs.Stages.{Delivery}
use Rattle.spec_exchange.specs.Accepting.{first_failed}
use Rattle.entry_checks.specs.Verifiers.{Meaning, UnderVerifier, verifying}
use Rattle.entry_checks.specs.Views.{why_view}
use Rattle.entry_checks.specs.declared.refused.EntryWhy.{EntryWhy}
use Rattle.receiving_sepp.specs.Outcome.{Accepts, IsOfVerifier}
use Rattle.receiving_sepp.specs.declared.delivery.Delivered.{Delivered}
use Rattle.receiving_sepp.specs.declared.refused.Refused.{Refused}
use Rattle.receiving_sepp.proofs.Calls.{entry_refused, all_hold}
use Rattle.receiving_sepp.proofs.Verified.{under_on, rose_at}

pub verifier_rose : ((passes : Passes) (v : Verifying) (records : List Record) (node : List ℕ) (t : Tree) (number : ℕ) → first_failed passes v records node t ≡ Err (OfEntry number VerifierFailed) → (claim : Claim) × (v number claim ≡ Fails))
    → (passes : Passes) (meaning : Option Meaning) (before after_ : ℕ) (held now : Option (List (List ℕ))) (old new : Stored) (node : List ℕ) (t : Tree) (result : Result Delivered (CallFault Refused))
    → IsOfVerifier result → UnderVerifier meaning before after_ (λ v. Accepts passes v held now old new node t result) → Rose before after_
verifier_rose law passes meaning before after_ held now old new node t result f u =
    let v = verifying meaning u.saying in
    let h = subst (λ (r : Result Delivered (CallFault Refused)). Accepts passes v held now old new node t r) f.is u.comes in
    let x = entry_refused passes v held now old new node t f.refused h in
    let is = ap (λ (w : EntryWhy). let r : Result Delivery Refusal = Err (OfEntry f.refused.entry (why_view w)) in r) f.verifier in
    let fails = law passes v x.0 node t f.refused.entry (x.1 ∙ is) in
    rose_at meaning u.saying before after_ f.refused.entry fails.0 u.failed fails.1

-- where the keeper of a fresh store failed every check holds
pub last_hold : (passes : Passes) (meaning : Option Meaning) (before after_ : ℕ) (held now : Option (List (List ℕ))) (old new : Stored) (node : List ℕ) (t : Tree) (result : Result Delivered (CallFault Refused))
    → result ≡ Err Keeper → old.fresh ≡ true → UnderVerifier meaning before after_ (λ v. Accepts passes v held now old new node t result) → UnderVerifier meaning before after_ (λ v. IsOk (first_failed passes v old.records node t))
last_hold passes meaning before after_ held now old new node t result is f u =
    under_on meaning before after_ (λ v. Accepts passes v held now old new node t result) (λ v. IsOk (first_failed passes v old.records node t))
    (λ v h. all_hold passes v held now old new node t (subst (λ (r : Result Delivered (CallFault Refused)). Accepts passes v held now old new node t r) is h) f) u
