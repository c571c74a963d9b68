-- What the checks of a call come to, from the value that each of their parts gives.
use Rattle.std.proofs.Common.{◌≡◌, ◌<◌, ℕ, ◌+◌, [], ◌∷◌, length, option_map, arith, Bool, true, false, List, map, drop, slice_get, find, Option, None, Some, Result, Ok, refl, ap, ◌∙◌}
use Rattle.n32_values.proofs.Trees.{drop_at}
use Rattle.spec_documents.specs.Chain.{◌>>=◌}
use Rattle.spec_messages.specs.Message.{wanted, onto_read}
use Rattle.spec_documents.specs.Tree.{Tree}
use Rattle.spec_records.specs.Records.{Context, Record, open_context}
use Rattle.spec_handshake.specs.Documents.{Document, provider_of, providers}
use Rattle.spec_handshake.specs.Refusals.{Refusal, ContextNotFound}
use Rattle.spec_handshake.specs.Calls.{Closing, closes, room_for_record}
use Rattle.n32c_handshake.specs.Outcome.{if_room}

-- ---- the end of a context

abbrev closing_from : List Record → ℕ → (ℕ → Document) → Option Context → Result Closing Refusal
closing_from records id made o = do
  x ← wanted o ContextNotFound
  _ ← room_for_record records
  Ok (record { id = id; document = made x.peer })

closed_by : (records : List Record) (id : ℕ) (made : ℕ → Document) (o : Option Context) (x : Context) → Some x ≡ o → closing_from records id made o ≡ if_room records (record { id = id; document = made x.peer })
unfolding ◌>>=◌
closed_by records id made (Some y) x e = let same : y ≡ x = cc in ap (λ (z : Context). closing_from records id made (Some z)) same
closed_by records id made None x e = cc

pub closed : (records : List Record) (node : List ℕ) (id : ℕ) (made : ℕ → Document) (x : Context) → Some x ≡ open_context node id records → closes records node id made ≡ if_room records (record { id = id; document = made x.peer })
closed records node id made x e = closed_by records id made (open_context node id records) x e

-- ---- the first item that passes

pub found_here : {X B : Type 0} (view : X → B) (f : B → Bool) (xs : List X) (i : ℕ) (x : X) (all : Option B) → slice_get xs i ≡ Some x → find f (map view (drop i xs)) ≡ all → f (view x) ≡ true → Some (view x) ≡ all
found_here view f xs i x all here h e = let told = rw (drop_at xs i x here) at h in rw e at told

pub found_later : {X B : Type 0} (view : X → B) (f : B → Bool) (xs : List X) (i : ℕ) (x : X) (all : Option B) → slice_get xs i ≡ Some x → find f (map view (drop i xs)) ≡ all → f (view x) ≡ false → find f (map view (drop (i + 1) xs)) ≡ all
found_later view f xs i x all here h e = let told = rw (drop_at xs i x here) at h in rw e at told

-- ---- the list of one intermediary

onto_none : (o : Option (List ℕ)) → onto_read o (Some []) ≡ option_map (λ s. s ∷ []) o
onto_none None = refl
onto_none (Some s) = refl

pub one_listed : (ts : List Tree) (t : Tree) → (length ts ≡ 0 → ⊥) → (1 < length ts → ⊥) → slice_get ts 0 ≡ Some t → providers ts ≡ option_map (λ s. s ∷ []) (provider_of t)
one_listed [] t some few e = absurd (some refl)
one_listed (u ∷ []) t some few e = let same : u ≡ t = cc in onto_none (provider_of u) ∙ ap (λ v. option_map (λ s. s ∷ []) (provider_of v)) same
one_listed (u ∷ v ∷ ts) t some few e = absurd (few (omega arith))
