-- Numbers in decimal digits.
use Rattle.std.proofs.Common.{Bool, true, false, ◌==◌, zero, suc, arith, ◌<◌, ◌^◌, decimal, ◌≡◌, ℕ, List, [], ◌∷◌, ◌+◌, map, refl, sym, ◌∙◌}
use Rattle.std.proofs.lemmas.Bool.{eqb-true}
use Rattle.std.proofs.lemmas.Fmt.{decimal-digits_of}
use Rattle.std.specs.Int.Digits.{digits_of}
use Rattle.std.specs.Fmt.{digits}
use Rattle.spec_documents.specs.Text.{index_text}

digits_swap : (ds : List ℕ) → map (λ d. 48 + d) ds ≡ map (λ d. d + 48) ds
digits_swap [] = refl
digits_swap (d ∷ ds) = let e : 48 + d ≡ d + 48 = omega arith in λ i. e i ∷ digits_swap ds i

index_text_nonzero : (t : Bool) (n : ℕ) → (n == 0) ≡ t → 0 < n → index_text n ≡ map (λ d. d + 48) (digits_of 10 n)
index_text_nonzero true n e h = let no : n ≡ 0 = eqb-true n 0 e in absurd (omega arith)
index_text_nonzero false n e h = rw e refl

pub index_text_decimal : (n : ℕ) → n < 2 ^ 64 → decimal n ≡ index_text n
unfolding digits
index_text_decimal zero h = refl
index_text_decimal (suc n) h = decimal-digits_of (suc n) (omega arith) h ∙ digits_swap (digits_of 10 (suc n)) ∙ sym (index_text_nonzero (suc n == 0) (suc n) refl (omega arith))
