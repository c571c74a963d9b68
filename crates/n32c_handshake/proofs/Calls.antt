-- What a call comes to, from what its parts come to.
use Rattle.std.proofs.Common.{◌≡◌, ⊎_elim, ℕ, ◌<◌, ◌≤◌, List, [], length, false, Option, None, Result, Ok, Err, refl, sym, ap, subst, ◌∙◌}
use Rattle.std.specs.Prelude.{is_ok, IsOk}
use Rattle.std.proofs.lemmas.Bool.{lt-leb, le-leb}
use Rattle.spec_documents.specs.Chain.{◌>>=◌}
use Rattle.spec_documents.specs.Gives.{Tells}
use Rattle.spec_records.specs.Records.{Record, record_limit}
use Rattle.spec_messages.specs.Limits.{many_records}
use Rattle.spec_exchange.specs.Outside.{Choice, Read, ReadFails, BadRecord, Putting, Kept, Lost, KeptUntold, Own, Outcome, puts, behind_reading, or_refusal}
use Rattle.spec_handshake.specs.Refusals.{Refusal, Beyond}
use Rattle.n32_outside.specs.Contents.{Stays}
use Rattle.context_store.specs.Stores.{Stored, NamesBad}
use Rattle.context_store.specs.declared.faults.OpenFault.{OpenFault}
use Rattle.context_store.specs.declared.faults.OpenFault.TheVariants as opening
use Rattle.context_store.specs.declared.call_faults.CheckFault.{CheckFault}
use Rattle.context_store.specs.declared.call_faults.CheckFault.TheVariants as checking
use Rattle.context_store.specs.declared.call_faults.CallFault.{CallFault}
use Rattle.context_store.specs.declared.call_faults.CallFault.TheVariants as faults
use Rattle.context_store.specs.CallFaults.{of_check, of_opening}
use Rattle.context_store.specs.Changes.{ComesTo, CallBy}
use Rattle.context_store.proofs.Calls.{IsRead, chosen_read, chosen_bad, chosen_none}
use Rattle.n32c_handshake.specs.declared.refusal.HandRefusal.{HandRefusal}
use Rattle.n32c_handshake.specs.declared.refusal.HandRefusal.TheVariants as refusals
use Rattle.n32c_handshake.specs.Faults.{refusal_view, told}
use Rattle.n32c_handshake.specs.Outcome.{Answers, Comes, Keeps, if_room}

-- a call that checks over the records, once they are read, and gives its result with or without a put
abbrev pub called : {X T : Type 0} → (List Record → Result X Refusal) → (Putting → X → Outcome Refusal T) → Choice → List Record → Outcome Refusal T
called checks give f records = behind_reading f.reading (or_refusal (checks records) (give f.putting))

-- ---- the store isn't read

pub unread : {V X T : Type 0} (Is : V → T → Type 0) (checks : List Record → Result X Refusal) (give : Putting → X → Outcome Refusal T) (held now : Option (List (List ℕ))) (old new : Stored) (fault : OpenFault)
    → Stays held now → old.fresh ≡ false → new.fresh ≡ false → NamesBad held fault → Comes Is (called checks give) held now old new (Err (of_opening fault))
unread Is checks give held now old new (opening.Journal number) stays before after first = record {
  choice = record { reading = BadRecord number; putting = Kept };
  records = [];
  chosen = chosen_bad held old Kept number before first;
  few = λ f. cc;
  comes = record { answer = refl; change = record { told = stays; kept = λ f. cc }; still = λ e. cc };
}
unread Is checks give held now old new opening.Keeper stays before after first = record {
  choice = record { reading = ReadFails; putting = Kept };
  records = [];
  chosen = chosen_none held old Kept before;
  few = λ f. cc;
  comes = record { answer = refl; change = record { told = stays; kept = λ f. cc }; still = λ e. cc };
}
unread Is checks give held now old new opening.NoMemory stays before after first = record { told = stays; kept = λ f. cc }

-- ---- over the records that were read

-- under any choice of a put, once the checks' result is known
by_put : {V X T : Type 0} (Is : V → T → Type 0) (checks : List Record → Result X Refusal) (give : Putting → X → Outcome Refusal T) (held mid now : Option (List (List ℕ))) (old read new : Stored) (r : Result V (CallFault HandRefusal)) (p : Putting) (w : Result X Refusal)
    → IsRead held mid old read → checks read.records ≡ w → ComesTo (Answers Is r) held now read.records new (or_refusal w (give p)) → CallBy (called checks give) (Answers Is r) held now old new
by_put Is checks give held mid now old read new r p w is_read is comes = record {
  choice = record { reading = Read; putting = p };
  records = read.records;
  chosen = chosen_read held mid old read p is_read;
  few = λ f. is_read.few;
  comes = subst (λ z. ComesTo (Answers Is r) held now read.records new (or_refusal z (give p))) (sym is) comes;
}

-- a check refuses
by_refusal : {V X T : Type 0} (Is : V → T → Type 0) (checks : List Record → Result X Refusal) (give : Putting → X → Outcome Refusal T) (held now : Option (List (List ℕ))) (old new : Stored) (r : Result V (CallFault HandRefusal)) (e : Refusal)
    → IsRead held now old new → checks new.records ≡ Err e → Answers Is r (Err (Own e)) → CallBy (called checks give) (Answers Is r) held now old new
by_refusal Is checks give held now old new r e is_read is answer =
    by_put Is checks give held now now old new new r Kept (Err e) is_read is
    (record { answer = answer; change = record { told = is_read.told; kept = λ f. refl }; still = λ z. is_read.fresh })

pub refused : {V X T : Type 0} (Is : V → T → Type 0) (checks : List Record → Result X Refusal) (give : Putting → X → Outcome Refusal T) (held now : Option (List (List ℕ))) (old new : Stored) (fault : CheckFault HandRefusal)
    → IsRead held now old new → Tells (told fault) (checks new.records) → Comes Is (called checks give) held now old new (Err (of_check fault))
refused Is checks give held now old new checking.NoMemory is_read is = record { told = is_read.told; kept = is_read.same }
refused Is checks give held now old new (checking.Refused e) is_read is = by_refusal Is checks give held now old new (Err (faults.Refused e)) (refusal_view e) is_read is refl

-- a result without a record
pub given : {V X T : Type 0} (Is : V → T → Type 0) (checks : List Record → Result X Refusal) (give : Putting → X → Outcome Refusal T) (held now : Option (List (List ℕ))) (old new : Stored) (v : V) (x : X) (t : T)
    → IsRead held now old new → checks new.records ≡ Ok x → give Kept x ≡ record { result = Ok t; put = None } → Is v t → Comes Is (called checks give) held now old new (Ok v)
given Is checks give held now old new v x t is_read is gives seen =
    by_put Is checks give held now now old new new (Ok v) Kept (Ok x) is_read is
    (subst (λ o. ComesTo (Answers Is (Ok v)) held now new.records new o) (sym gives)
    (record { answer = (t, refl, seen); change = record { told = is_read.told; kept = λ f. refl }; still = λ z. is_read.fresh }))

-- ---- the put

pub roomy : {X : Type 0} (records : List Record) (x : X) → length records < record_limit → if_room records x ≡ Ok x
unfolding ◌>>=◌
roomy records x lt = rw (lt-leb record_limit (length records) lt) refl

pub full : {X : Type 0} (records : List Record) (x : X) → record_limit ≤ length records → if_room records x ≡ Err (Beyond many_records)
unfolding ◌>>=◌
full records x le = rw (le-leb record_limit (length records) le) refl

-- the answer of a call that put its record, and of one that could not
abbrev pub after_put : {V : Type 0} → V → Result (Unit {0}) (CallFault HandRefusal) → Result V (CallFault HandRefusal)
after_put v (Ok u) = Ok v
after_put v (Err e) = Err e

pub put : {V X T : Type 0} (Is : V → T → Type 0) (checks : List Record → Result X Refusal) (give : Putting → X → Outcome Refusal T) (held mid now : Option (List (List ℕ))) (old read new : Stored) (v : V) (x : X) (r : Record) (t : T) (kept : Result (Unit {0}) (CallFault HandRefusal))
    → IsRead held mid old read → checks read.records ≡ if_room read.records x → ((p : Putting) → give p x ≡ puts p r t) → Is v t → Keeps mid now read new r kept → Comes Is (called checks give) held now old new (after_put v kept)
put Is checks give held mid now old read new v x r t (Ok u) is_read is gives seen k =
    by_put Is checks give held mid now old read new (Ok v) Kept (Ok x) is_read (is ∙ roomy read.records x k.room)
    (subst (λ o. ComesTo (Answers Is (Ok v)) held now read.records new o) (sym (gives Kept))
    (subst (λ z. ComesTo (Answers Is (Ok v)) z now read.records new (puts Kept r t)) is_read.told
    (record { answer = (t, refl, seen); change = record { told = (k.gains, k.reads); kept = λ f. k.more }; still = λ z. k.fresh })))
put Is checks give held mid now old read new v x r t (Err (faults.Refused refusals.Limit)) is_read is gives seen k =
    by_put Is checks give held mid now old read new (Err (faults.Refused refusals.Limit)) Kept (Err (Beyond many_records)) is_read (is ∙ full read.records x k.0)
    (record { answer = refl; change = record { told = k.1.told ∙ is_read.told; kept = λ f. ap (λ z. z.records) k.1.same }; still = λ z. ap (λ y. y.fresh) k.1.same ∙ is_read.fresh })
put Is checks give held mid now old read new v x r t (Err faults.Keeper) is_read is gives seen k =
    subst (λ z. CallBy (called checks give) (Answers Is (Err faults.Keeper)) z now old new) is_read.told
    (⊎_elim
    (λ stays. by_put Is checks give mid mid now old read new (Err faults.Keeper) Lost (Ok x) (record { told = refl; holds = is_read.holds; few = is_read.few; fresh = is_read.fresh; same = is_read.same }) (is ∙ roomy read.records x k.room)
    (subst (λ o. ComesTo (Answers Is (Err faults.Keeper)) mid now read.records new o) (sym (gives Lost))
    (record { answer = refl; change = record { told = stays; kept = λ f. cc }; still = λ z. cc })))
    (λ gains. by_put Is checks give mid mid now old read new (Err faults.Keeper) KeptUntold (Ok x) (record { told = refl; holds = is_read.holds; few = is_read.few; fresh = is_read.fresh; same = is_read.same }) (is ∙ roomy read.records x k.room)
    (subst (λ o. ComesTo (Answers Is (Err faults.Keeper)) mid now read.records new o) (sym (gives KeptUntold))
    (record { answer = refl; change = record { told = (gains, k.reads); kept = λ f. cc }; still = λ z. cc })))
    k.either)
put Is checks give held mid now old read new v x r t (Err faults.NoMemory) is_read is gives seen k = record { told = k.told ∙ is_read.told; kept = λ f. k.same ∙ is_read.same f }
put Is checks give held mid now old read new v x r t (Err e) is_read is gives seen k = absurd k

-- after a fault of the put every other check held
pub passed : {X : Type 0} (checks : List Record → Result X Refusal) (records : List Record) (x : X) → length records < record_limit → checks records ≡ if_room records x → IsOk (checks records)
passed checks records x lt is = ap is_ok (is ∙ roomy records x lt)

pub passed_put : {X : Type 0} (checks : List Record → Result X Refusal) (mid now : Option (List (List ℕ))) (old read new : Stored) (x : X) (r : Record) (kept : Result (Unit {0}) (CallFault HandRefusal))
    → checks read.records ≡ if_room read.records x → Keeps mid now read new r kept → kept ≡ Err faults.Keeper → read ≡ old → IsOk (checks old.records)
passed_put checks mid now old read new x r (Ok u) is k e same = cc
passed_put checks mid now old read new x r (Err faults.Keeper) is k e same = subst (λ z. IsOk (checks z.records)) same (passed checks read.records x k.room is)
passed_put checks mid now old read new x r (Err (faults.Refused refusals.Limit)) is k e same = cc
passed_put checks mid now old read new x r (Err faults.NoMemory) is k e same = cc
passed_put checks mid now old read new x r (Err e') is k e same = absurd k
