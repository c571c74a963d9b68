-- Texts cut at a byte.
use Rattle.std.proofs.Common.{◌≡◌, ℕ, suc, ◌+◌, ◌<◌, Bool, true, false, ◌==◌, List, [], ◌∷◌, length, Some, None, refl, ap, arith}
use Rattle.std.specs.List.{before_first, after_first, position_or_len}
use Rattle.spec_documents.specs.Text.{cut_at, onto_front}

-- the first byte c is there
found_step : (b : Bool) (c x : ℕ) (xs : List ℕ) → (x == c) ≡ b
    → (position_or_len (λ y. y == c) xs < length xs → cut_at c xs ≡ (before_first (λ y. y == c) xs, Some (after_first (λ y. y == c) xs)))
    → position_or_len (λ y. y == c) (x ∷ xs) < length (x ∷ xs)
    → cut_at c (x ∷ xs) ≡ (before_first (λ y. y == c) (x ∷ xs), Some (after_first (λ y. y == c) (x ∷ xs)))
found_step true c x xs e ih h = rw e refl
found_step false c x xs e ih h =
    let n = position_or_len (λ y. y == c) xs in
    let two : 1 + n + 1 ≡ suc (n + 1) = omega arith in
    let one : 1 + n ≡ suc n = omega arith in
    rw e (rw (two) (rw (one) (ap (onto_front x) (ih (omega (arith, (rw e at h)))))))

pub cut_found : (c : ℕ) (xs : List ℕ) → position_or_len (λ y. y == c) xs < length xs → cut_at c xs ≡ (before_first (λ y. y == c) xs, Some (after_first (λ y. y == c) xs))
cut_found c [] h = absurd (omega arith)
cut_found c (x ∷ xs) h = found_step (x == c) c x xs refl (cut_found c xs) h

-- no byte is c
none_step : (b : Bool) (c x : ℕ) (xs : List ℕ) → (x == c) ≡ b
    → (position_or_len (λ y. y == c) xs ≡ length xs → cut_at c xs ≡ (xs, None))
    → position_or_len (λ y. y == c) (x ∷ xs) ≡ length (x ∷ xs)
    → cut_at c (x ∷ xs) ≡ (x ∷ xs, None)
none_step true c x xs e ih h = let no = rw e at h in absurd (omega arith)
none_step false c x xs e ih h = rw e (ap (onto_front x) (ih (omega (arith, (rw e at h)))))

pub cut_none : (c : ℕ) (xs : List ℕ) → position_or_len (λ y. y == c) xs ≡ length xs → cut_at c xs ≡ (xs, None)
cut_none c [] h = refl
cut_none c (x ∷ xs) h = none_step (x == c) c x xs refl (cut_none c xs) h
