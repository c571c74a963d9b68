-- Records that are kept in step with those of a keeper.
use Rattle.std.proofs.Common.{◌≡◌, ◌⊎◌, ℕ, zero, suc, ◌+◌, ◌<◌, ◌≤◌, ⊎_elim, length, List, [], ◌∷◌, ◌++◌, take, slice_get, Option, Some, None, IfSome, Ok, sym, ◌∙◌, subst, arith, inl, inr}
use Rattle.n32_values.proofs.Trees.{take_at}
use Rattle.n32_outside.specs.Contents.{Stays, Gains, Loads}
use Rattle.spec_records.specs.Records.{Record, record_limit}
use Rattle.context_records.specs.Reading.{ReadsRecord}
use Rattle.context_store.specs.Stores.{AreRecords, Holds, HasNoBad, IsNoRecord, IsFirstBad, NamesBad, RefusesText}
use Rattle.context_store.specs.declared.faults.OpenFault.{OpenFault}
use Rattle.context_store.specs.declared.faults.OpenFault.TheVariants.{Journal, Keeper, NoMemory}

are_more : (bs : List (List ℕ)) (rs : List Record) (b : List ℕ) (r : Record) → AreRecords bs rs → ReadsRecord b r → AreRecords (bs ++ b ∷ []) (rs ++ r ∷ [])
are_more [] [] b r all one = (one, tt)
are_more [] (q ∷ rs) b r all one = absurd all
are_more (c ∷ bs) [] b r all one = absurd all
are_more (c ∷ bs) (q ∷ rs) b r all one = (all.0, are_more bs rs b r all.1 one)

-- ---- a put

pub holds_more : (held held' : Option (List (List ℕ))) (rs : List Record) (b : List ℕ) (r : Record) → Holds held rs → Gains held held' b → ReadsRecord b r → Holds held' (rs ++ r ∷ [])
holds_more None held' rs b r holds gains one = subst (λ (o : Option (List (List ℕ))). Holds o (rs ++ r ∷ [])) (sym gains) tt
holds_more (Some bs) held' rs b r holds gains one = subst (λ (o : Option (List (List ℕ))). Holds o (rs ++ r ∷ [])) (sym gains) (are_more bs rs b r holds one)

-- ---- a load

-- the first k texts are of these records
abbrev pub Front : Option (List (List ℕ)) → ℕ → List Record → Type 0
Front held k rs = IfSome held (λ texts. AreRecords (take k texts) rs)

found_there : (bs : List (List ℕ)) (now : Option (List (List ℕ))) (found : Option (List ℕ)) (k : ℕ) → Stays (Some bs) now → Loads now (Ok found) k → found ≡ slice_get bs k
found_there bs now found k stays loads = subst (λ (o : Option (List (List ℕ))). Loads o (Ok found) k) stays loads

pub front_more : (held now : Option (List (List ℕ))) (k : ℕ) (rs : List Record) (found : Option (List ℕ)) (b : List ℕ) (r : Record)
    → Front held k rs → Stays held now → Loads now (Ok found) k → found ≡ Some b → ReadsRecord b r → Front held (k + 1) (rs ++ r ∷ [])
front_more None now k rs found b r front stays loads is one = tt
front_more (Some bs) now k rs found b r front stays loads is one =
    let there : slice_get bs k ≡ Some b = sym (found_there bs now found k stays loads) ∙ is in
    subst (λ (cs : List (List ℕ)). AreRecords cs (rs ++ r ∷ [])) (sym (take_at bs k b there)) (are_more (take k bs) rs b r front one)

past : (k : ℕ) (P : Type 0) → P ⊎ (record_limit ≤ k) → k ≤ record_limit → P ⊎ (k ≡ record_limit)
past k P (inl h) few = inl h
past k P (inr h) few = inr (omega (arith, h, few))

-- a text that is refused is the first bad one
pub bad_here : (held now : Option (List (List ℕ))) (k : ℕ) (rs : List Record) (found : Option (List ℕ)) (b : List ℕ) (e : OpenFault)
    → Front held k rs → k ≤ record_limit → Stays held now → Loads now (Ok found) k → found ≡ Some b → RefusesText k b e → NamesBad held e
bad_here None now k rs found b (Journal j) front few stays loads is h = tt
bad_here (Some bs) now k rs found b (Journal j) front few stays loads is h =
    subst (λ (n : ℕ). IsFirstBad bs n) (sym h.0) (record {
      text = b;
      there = sym (found_there bs now found k stays loads) ∙ is;
      bad = past k (IsNoRecord b) h.1 few;
      few = few;
      before = rs;
      good = front;
    })
bad_here held now k rs found b Keeper front few stays loads is h = tt
bad_here held now k rs found b NoMemory front few stays loads is h = tt

-- ---- no bad text

record IsAt (rs : List Record) (b : List ℕ) (k : ℕ) : Type 0 where
  pub found : Record
  pub reads : ReadsRecord b found
  pub within : k < length rs

is_at : (bs : List (List ℕ)) (rs : List Record) (k : ℕ) (b : List ℕ) → AreRecords bs rs → slice_get bs k ≡ Some b → IsAt rs b k
is_at [] rs k b all e = cc
is_at (c ∷ bs) [] k b all e = absurd all
is_at (c ∷ bs) (r ∷ rs) zero b all e =
    let same : c ≡ b = cc in
    record { found = r; reads = subst (λ d. ReadsRecord d r) same all.0; within = omega arith }
is_at (c ∷ bs) (r ∷ rs) (suc k) b all e =
    let later = is_at bs rs k b all.1 e in
    record { found = later.found; reads = later.reads; within = omega (arith, later.within) }

none_bad : (bs : List (List ℕ)) (rs : List Record) → AreRecords bs rs → length rs ≤ record_limit → (k : ℕ) → IsFirstBad bs k → ⊥
none_bad bs rs all few k bad =
    let here = is_at bs rs k bad.text all bad.there in
    ⊎_elim (λ none. none here.found here.reads) (λ limit. omega (arith, here.within, few, limit)) bad.bad

pub has_no_bad : (held : Option (List (List ℕ))) (rs : List Record) → Holds held rs → length rs ≤ record_limit → HasNoBad held
has_no_bad None rs holds few = tt
has_no_bad (Some bs) rs holds few = none_bad bs rs holds few
