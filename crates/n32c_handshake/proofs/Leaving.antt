-- What a finish comes to, and the starts that it leaves, from what its parts come to.
use Rattle.std.proofs.Common.{◌≡◌, ⊎_elim, ℕ, Bool, List, [], false, Option, None, Some, Result, Ok, Err, refl, sym, ap, subst, ◌∙◌}
use Rattle.std.specs.List.{remove}
use Rattle.spec_documents.specs.Tree.{Tree}
use Rattle.spec_documents.specs.Gives.{Tells}
use Rattle.spec_records.specs.Records.{Context, Opened}
use Rattle.spec_messages.specs.Limits.{many_records}
use Rattle.spec_exchange.specs.Outside.{Read, ReadFails, BadRecord, Putting, Kept, Lost, KeptUntold, Own, puts, or_refusal}
use Rattle.spec_handshake.specs.Documents.{document_of}
use Rattle.spec_handshake.specs.Refusals.{Refusal, Beyond}
use Rattle.spec_handshake.specs.Starts.{Start, without_first}
use Rattle.spec_handshake.specs.Calls as spec
use Rattle.n32_outside.specs.Contents.{Stays}
use Rattle.context_store.specs.Stores.{Stored, NamesBad}
use Rattle.context_store.specs.declared.faults.OpenFault.{OpenFault}
use Rattle.context_store.specs.declared.faults.OpenFault.TheVariants as opening
use Rattle.context_store.specs.declared.call_faults.CheckFault.{CheckFault}
use Rattle.context_store.specs.declared.call_faults.CheckFault.TheVariants as checking
use Rattle.context_store.specs.declared.call_faults.CallFault.{CallFault}
use Rattle.context_store.specs.declared.call_faults.CallFault.TheVariants as faults
use Rattle.context_store.specs.CallFaults.{of_check, of_opening}
use Rattle.context_store.specs.Changes.{ComesTo}
use Rattle.n32c_handshake.specs.declared.finishing.Finished.{Finished}
use Rattle.n32c_handshake.specs.declared.refusal.HandRefusal.{HandRefusal}
use Rattle.n32c_handshake.specs.declared.refusal.HandRefusal.TheVariants as refusals
use Rattle.n32c_handshake.specs.Faults.{refusal_view, told}
use Rattle.n32c_handshake.specs.Outcome.{Answers, Keeps, if_room}
use Rattle.n32c_handshake.specs.Progress.{IsFinished, FinishBy, Finishes, after_put_starts}
use Rattle.n32c_handshake.specs.Progress as progress
use Rattle.context_store.proofs.Calls.{IsRead, chosen_read, chosen_bad, chosen_none}
use Rattle.n32c_handshake.proofs.Calls.{after_put, roomy, full}

-- the start waits for the document that this is
abbrev pub awaits : List ℕ → Tree → Start → Bool
awaits node t = spec.waits_for_read node (document_of t)

-- ---- the store isn't read

pub unread : (held now : Option (List (List ℕ))) (old new : Stored) (starts : List Start) (node plmn : List ℕ) (t : Tree) (fault : OpenFault)
    → Stays held now → old.fresh ≡ false → new.fresh ≡ false → NamesBad held fault → Finishes held now old new starts starts node plmn t (Err (of_opening fault))
unread held now old new starts node plmn t (opening.Journal number) stays before after first = record {
  call = record {
    choice = record { reading = BadRecord number; putting = Kept };
    records = [];
    chosen = chosen_bad held old Kept number before first;
    few = λ f. cc;
    comes = record { answer = refl; change = record { told = stays; kept = λ f. cc }; still = λ e. cc };
  };
  waits = refl;
}
unread held now old new starts node plmn t opening.Keeper stays before after first = record {
  call = record {
    choice = record { reading = ReadFails; putting = Kept };
    records = [];
    chosen = chosen_none held old Kept before;
    few = λ f. cc;
    comes = record { answer = refl; change = record { told = stays; kept = λ f. cc }; still = λ e. cc };
  };
  waits = refl;
}
unread held now old new starts node plmn t opening.NoMemory stays before after first = (record { told = stays; kept = λ f. cc }, refl)

-- ---- over the records that were read

by_put : (held mid now : Option (List (List ℕ))) (old read new : Stored) (starts left : List Start) (node plmn : List ℕ) (t : Tree) (r : Result Finished (CallFault HandRefusal)) (p : Putting) (w : Result spec.Finished Refusal)
    → IsRead held mid old read → spec.finishes read.records starts node plmn t ≡ w → ComesTo (Answers IsFinished r) held now read.records new (or_refusal w (spec.put_finished p))
    → left ≡ spec.starts_left (awaits node t) starts (or_refusal w (spec.put_finished p)).result → FinishBy held now old new starts left node plmn t r
by_put held mid now old read new starts left node plmn t r p w is_read is comes waits = record {
  call = record {
    choice = record { reading = Read; putting = p };
    records = read.records;
    chosen = chosen_read held mid old read p is_read;
    few = λ f. is_read.few;
    comes = subst (λ z. ComesTo (Answers IsFinished r) held now read.records new (or_refusal z (spec.put_finished p))) (sym is) comes;
  };
  waits = waits ∙ ap (λ z. spec.starts_left (awaits node t) starts (or_refusal z (spec.put_finished p)).result) (sym is);
}

-- a check refuses
by_refusal : (held now : Option (List (List ℕ))) (old new : Stored) (starts left : List Start) (node plmn : List ℕ) (t : Tree) (fault : CallFault HandRefusal) (e : Refusal)
    → IsRead held now old new → spec.finishes new.records starts node plmn t ≡ Err e → Answers IsFinished (Err fault) (Err (Own e))
    → left ≡ progress.left (awaits node t) starts (Some e) → FinishBy held now old new starts left node plmn t (Err fault)
by_refusal held now old new starts left node plmn t fault e is_read is answer waits =
    by_put held now now old new new starts left node plmn t (Err fault) Kept (Err e) is_read is
    (record { answer = answer; change = record { told = is_read.told; kept = λ f. refl }; still = λ z. is_read.fresh }) waits

pub refused : (held now : Option (List (List ℕ))) (old new : Stored) (starts left : List Start) (node plmn : List ℕ) (t : Tree) (fault : CheckFault HandRefusal)
    → IsRead held now old new → Tells (told fault) (spec.finishes new.records starts node plmn t) → left ≡ progress.left (awaits node t) starts (told fault) → Finishes held now old new starts left node plmn t (Err (of_check fault))
refused held now old new starts left node plmn t checking.NoMemory is_read is waits = (record { told = is_read.told; kept = is_read.same }, waits)
refused held now old new starts left node plmn t (checking.Refused e) is_read is waits = by_refusal held now old new starts left node plmn t (faults.Refused e) (refusal_view e) is_read is refl waits

-- a result without a record
pub given : (held now : Option (List (List ℕ))) (old new : Stored) (starts left : List Start) (node plmn : List ℕ) (t : Tree) (v : Finished) (x : spec.Finished)
    → IsRead held now old new → spec.finishes new.records starts node plmn t ≡ Ok x → spec.put_finished Kept x ≡ record { result = Ok x; put = None } → IsFinished v x
    → left ≡ spec.starts_left (awaits node t) starts (Ok x) → Finishes held now old new starts left node plmn t (Ok v)
given held now old new starts left node plmn t v x is_read is gives seen waits =
    by_put held now now old new new starts left node plmn t (Ok v) Kept (Ok x) is_read is
    (subst (λ o. ComesTo (Answers IsFinished (Ok v)) held now new.records new o) (sym gives)
    (record { answer = (x, refl, seen); change = record { told = is_read.told; kept = λ f. refl }; still = λ z. is_read.fresh }))
    (waits ∙ ap (λ o. spec.starts_left (awaits node t) starts o.result) (sym gives))

-- ---- the put

pub put : (held mid now : Option (List (List ℕ))) (old read new : Stored) (starts left : List Start) (node plmn : List ℕ) (t : Tree) (v : Finished) (x : Context) (at : ℕ) (kept : Result (Unit {0}) (CallFault HandRefusal))
    → IsRead held mid old read → spec.finishes read.records starts node plmn t ≡ if_room read.records (spec.OpenedAs x) → IsFinished v (spec.OpenedAs x) → Keeps mid now read new (Opened x) kept
    → remove starts at ≡ without_first (awaits node t) starts → left ≡ after_put_starts at starts kept → Finishes held now old new starts left node plmn t (after_put v kept)
put held mid now old read new starts left node plmn t v x at (Ok u) is_read is seen k without waits =
    by_put held mid now old read new starts left node plmn t (Ok v) Kept (Ok (spec.OpenedAs x)) is_read (is ∙ roomy read.records (spec.OpenedAs x) k.room)
    (subst (λ z. ComesTo (Answers IsFinished (Ok v)) z now read.records new (puts Kept (Opened x) (spec.OpenedAs x))) is_read.told
    (record { answer = (spec.OpenedAs x, refl, seen); change = record { told = (k.gains, k.reads); kept = λ f. k.more }; still = λ z. k.fresh }))
    (waits ∙ without)
put held mid now old read new starts left node plmn t v x at (Err (faults.Refused refusals.Limit)) is_read is seen k without waits =
    by_put held mid now old read new starts left node plmn t (Err (faults.Refused refusals.Limit)) Kept (Err (Beyond many_records)) is_read (is ∙ full read.records (spec.OpenedAs x) k.0)
    (record { answer = refl; change = record { told = k.1.told ∙ is_read.told; kept = λ f. ap (λ z. z.records) k.1.same }; still = λ z. ap (λ y. y.fresh) k.1.same ∙ is_read.fresh })
    waits
put held mid now old read new starts left node plmn t v x at (Err faults.Keeper) is_read is seen k without waits =
    subst (λ z. FinishBy z now old new starts left node plmn t (Err faults.Keeper)) is_read.told
    (⊎_elim
    (λ stays. by_put mid mid now old read new starts left node plmn t (Err faults.Keeper) Lost (Ok (spec.OpenedAs x)) (record { told = refl; holds = is_read.holds; few = is_read.few; fresh = is_read.fresh; same = is_read.same }) (is ∙ roomy read.records (spec.OpenedAs x) k.room)
    (record { answer = refl; change = record { told = stays; kept = λ f. cc }; still = λ z. cc })
    (waits ∙ without))
    (λ gains. by_put mid mid now old read new starts left node plmn t (Err faults.Keeper) KeptUntold (Ok (spec.OpenedAs x)) (record { told = refl; holds = is_read.holds; few = is_read.few; fresh = is_read.fresh; same = is_read.same }) (is ∙ roomy read.records (spec.OpenedAs x) k.room)
    (record { answer = refl; change = record { told = (gains, k.reads); kept = λ f. cc }; still = λ z. cc })
    (waits ∙ without))
    k.either)
put held mid now old read new starts left node plmn t v x at (Err faults.NoMemory) is_read is seen k without waits = (record { told = k.told ∙ is_read.told; kept = λ f. k.same ∙ is_read.same f }, waits)
put held mid now old read new starts left node plmn t v x at (Err e) is_read is seen k without waits = absurd k
