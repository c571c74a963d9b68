-- Indexes that 32 bits don't hold change no answer.
use Rattle.std.proofs.Common.{◌≡◌, ℕ, zero, suc, ◌-◌, ◌^◌, ◌≤◌, ◌<◌, List, [], ◌∷◌, map, length, Bool, true, false, Option, Some, None, option_map, refl, sym, ap, ap₂, ◌∙◌, if◌then◌else◌, arith}
use Rattle.std.specs.Prelude.{nat_le}
use Rattle.std.proofs.lemmas.Bool.{leb-true, leb-false, le-leb}
use Rattle.spec_documents.specs.Tree.{Tree, null}
use Rattle.spec_documents.specs.Hole.{HolePlace, Mark, bad_hole, twice, is_bad, is_bad_index, first_bad, indexes, first_twice, gathered, unless_some, value_at}
use Rattle.doc_forms.specs.Capped.{capped}
use Rattle.enc_index.specs.Marks.{held, places_of_marks}

same_test : (r q : Bool) → (r ≡ true → q ≡ true) → (q ≡ true → r ≡ true) → r ≡ q
same_test true q f g = sym (f refl)
same_test false true f g = g refl
same_test false false f g = refl

capped_low : (n i : ℕ) → n < 2 ^ 32 → n ≤ capped i → n ≤ i
capped_low n i fits low = omega arith

capped_back : (n i : ℕ) → n < 2 ^ 32 → n ≤ i → n ≤ capped i
capped_back n i fits low = omega arith

bad_capped : (n : ℕ) (o : Option ℕ) → n < 2 ^ 32 → is_bad_index n (option_map capped o) ≡ is_bad_index n o
bad_capped n None fits = refl
bad_capped n (Some i) fits =
    same_test (nat_le n (capped i)) (nat_le n i) (λ e. le-leb n i (capped_low n i fits (leb-true n (capped i) e))) (λ e. le-leb n (capped i) (capped_back n i fits (leb-true n i e)))

first_bad-held : (n : ℕ) (ms : List Mark) → n < 2 ^ 32 → first_bad n (map held ms) ≡ first_bad n ms
first_bad-held n [] fits = refl
first_bad-held n (m ∷ ms) fits =
    ap (λ b. if b then Some m.place else first_bad n (map held ms)) (bad_capped n m.index fits)
    ∙ ap (λ o. if is_bad n m then Some m.place else o) (first_bad-held n ms fits)

small_capped : (n i : ℕ) → n < 2 ^ 32 → i < n → capped i ≡ i
small_capped n i fits lt = omega arith

index_held : (n : ℕ) (o : Option ℕ) → n < 2 ^ 32 → is_bad_index n o ≡ false → option_map capped o ≡ o
index_held n None fits good = cc
index_held n (Some i) fits good = ap Some (small_capped n i fits (leb-false n i good))

held_same : (n : ℕ) (ms : List Mark) → n < 2 ^ 32 → first_bad n ms ≡ None → map held ms ≡ ms
held_same n [] fits good = refl
held_same n (m ∷ ms) fits good = by (is_bad n m) refl good (held_same n ms fits)
  where
    by : (b : Bool) → is_bad n m ≡ b → (if b then Some m.place else first_bad n ms) ≡ None → (first_bad n ms ≡ None → map held ms ≡ ms) → map held (m ∷ ms) ≡ m ∷ ms
    by true e d h = cc
    by false e d h = ap₂ ◌∷◌ (λ i. record { place = m.place; index = index_held n m.index fits e i }) (h d)

pub places-held : (n : ℕ) (ms : List Mark) → n < 2 ^ 32 → places_of_marks (map held ms) n ≡ places_of_marks ms n
places-held n ms fits = by (first_bad n ms) refl
  where
    by : (o : Option HolePlace) → first_bad n ms ≡ o → places_of_marks (map held ms) n ≡ places_of_marks ms n
    by None e = ap (λ ks. places_of_marks ks n) (held_same n ms fits e)
    by (Some p) e =
        ap (λ o. unless_some o bad_hole (unless_some (first_twice [] (indexes (map held ms))) twice (gathered (map held ms) n 0))) (first_bad-held n ms fits ∙ e)
        ∙ sym (ap (λ o. unless_some o bad_hole (unless_some (first_twice [] (indexes ms)) twice (gathered ms n 0))) e)

-- ---- values

past : (vs : List Tree) (i : ℕ) → length vs ≤ i → value_at vs i ≡ null
past [] i le = refl
past (v ∷ vs) zero le = absurd (omega arith)
past (v ∷ vs) (suc i) le = past vs i (omega arith)

pub value_at-capped : (vs : List Tree) (i : ℕ) → length vs < 2 ^ 32 → value_at vs (capped i) ≡ value_at vs i
value_at-capped vs i fits = by (nat_le i (2 ^ 32 - 1)) refl
  where
    by : (b : Bool) → nat_le i (2 ^ 32 - 1) ≡ b → value_at vs (capped i) ≡ value_at vs i
    by true e = let le = leb-true i (2 ^ 32 - 1) e in ap (value_at vs) (omega arith)
    by false e = let lt = leb-false i (2 ^ 32 - 1) e in past vs (capped i) (omega arith) ∙ sym (past vs i (omega arith))
