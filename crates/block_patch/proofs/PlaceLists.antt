-- Lists of places, compared item by item.
use Rattle.std.proofs.Common.{◌≡◌, ℕ, zero, suc, ◌+◌, ◌<◌, List, [], ◌∷◌, length, Bool, true, false, ◌&&◌, refl, sym, ap, ◌∙◌, subst, drop, slice_get, bytes_eq, arith}
use Rattle.spec_documents.specs.Hole.{HolePlace}
use Rattle.spec_documents.specs.Place.{Pointer, is_prefix}
use Rattle.spec_messages.specs.Outcome.{same_pointer, same_place, same_place_list}
use Rattle.block_patch.specs.Places.{same_place_option}

-- the lists from place i on are the same where the places there are, and what comes after
same_at : (b : Bool) (i : ℕ) (ps qs : List HolePlace) → i < length ps → length ps ≡ length qs → same_place_option (slice_get ps i) (slice_get qs i) ≡ b → same_place_list (drop i ps) (drop i qs) ≡ b && same_place_list (drop (suc i) ps) (drop (suc i) qs)
same_at b i [] qs l e h = absurd (omega arith)
same_at b i (p ∷ ps) [] l e h = cc
same_at b zero (p ∷ ps) (q ∷ qs) l e h = ap (λ x. x && same_place_list ps qs) h
same_at b (suc i) (p ∷ ps) (q ∷ qs) l e h = let count : length ps ≡ length qs = cc in same_at b i ps qs (omega arith) count h

pub same_later : (i : ℕ) (ps qs : List HolePlace) (all : Bool) → i < length ps → length ps ≡ length qs → same_place_list (drop i ps) (drop i qs) ≡ all → same_place_option (slice_get ps i) (slice_get qs i) ≡ true → same_place_list (drop (i + 1) ps) (drop (i + 1) qs) ≡ all
same_later i ps qs all l e is h =
    let next : suc i ≡ i + 1 = omega arith in
    subst (λ m. same_place_list (drop m ps) (drop m qs) ≡ all) next (sym (same_at true i ps qs l e h) ∙ is)

pub same_not : (i : ℕ) (ps qs : List HolePlace) (all : Bool) → i < length ps → length ps ≡ length qs → same_place_list (drop i ps) (drop i qs) ≡ all → same_place_option (slice_get ps i) (slice_get qs i) ≡ false → false ≡ all
same_not i ps qs all l e is h = sym (same_at false i ps qs l e h) ∙ is

pub same_end : (i : ℕ) (ps qs : List HolePlace) (all : Bool) → i ≡ length ps → length ps ≡ length qs → same_place_list (drop i ps) (drop i qs) ≡ all → true ≡ all
same_end i ps qs all l e is = sym (done i ps qs l e) ∙ is
  where
    done : (i : ℕ) (ps qs : List HolePlace) → i ≡ length ps → length ps ≡ length qs → same_place_list (drop i ps) (drop i qs) ≡ true
    done zero [] [] l e = refl
    done (suc i) [] qs l e = cc
    done zero [] (q ∷ qs) l e = cc
    done i (p ∷ ps) [] l e = cc
    done zero (p ∷ ps) (q ∷ qs) l e = cc
    done (suc i) (p ∷ ps) (q ∷ qs) l e = let count : i ≡ length ps = cc in let same : length ps ≡ length qs = cc in done i ps qs count same

pub same_count : (ps qs : List HolePlace) → (length ps ≡ length qs → ⊥) → same_place_list ps qs ≡ false
same_count [] [] n = absurd (n refl)
same_count [] (q ∷ qs) n = refl
same_count (p ∷ ps) [] n = refl
same_count (p ∷ ps) (q ∷ qs) n = by (same_place p q) (same_count ps qs (λ e. n (ap suc e)))
  where
    by : (b : Bool) → same_place_list ps qs ≡ false → b && same_place_list ps qs ≡ false
    by true e = e
    by false e = refl

-- ---- pointers

pub pointer_same : (p q : Pointer) → length p ≡ length q → is_prefix p q ≡ same_pointer p q
pointer_same [] [] e = refl
pointer_same [] (y ∷ q) e = cc
pointer_same (x ∷ p) [] e = cc
pointer_same (x ∷ p) (y ∷ q) e = let less : length p ≡ length q = cc in ap (λ b. bytes_eq x y && b) (pointer_same p q less)

pub pointer_not : (p q : Pointer) → (length p ≡ length q → ⊥) → false ≡ same_pointer p q
pointer_not [] [] n = absurd (n refl)
pointer_not [] (y ∷ q) n = refl
pointer_not (x ∷ p) [] n = refl
pointer_not (x ∷ p) (y ∷ q) n = both (bytes_eq x y) (same_pointer p q) (pointer_not p q (λ e. n (ap suc e)))
  where
    both : (b c : Bool) → false ≡ c → false ≡ (b && c)
    both true c e = e
    both false c e = refl
