-- Runs of a machine over lines, joined.
use Rattle.std.proofs.Common.{◌≡◌, ◌+◌, ℕ, List, [], ◌∷◌, ◌++◌, length, refl, ap, sym, subst, ◌∙◌, append-nil, append_assoc, add-zero, arith}
use Rattle.spec_documents.specs.Lines.{Gives, LineOutput, Outputs}

-- one line
pub Outputs-one : {M : Type 0} (gives : Gives M) (old : M) (number : ℕ) (line out : List ℕ) (new : M) → LineOutput gives old number line out new → Outputs gives old number (line ∷ []) out new
Outputs-one gives old number line out new one = (out, [], new, sym (append-nil out), one, (refl, refl))

-- some lines, and then more
pub Outputs-append : {M : Type 0} (gives : Gives M) (old : M) (number : ℕ) (xs ys : List (List ℕ)) (out more : List ℕ) (mid new : M) → Outputs gives old number xs out mid → Outputs gives mid (number + length xs) ys more new → Outputs gives old number (xs ++ ys) (out ++ more) new
Outputs-append {M} gives old number [] ys out more mid new first second =
    let same : number + 0 ≡ number = add-zero number in
    let start = subst (λ (n : ℕ). Outputs gives mid n ys more new) same second in
    let from : Outputs gives old number ys more new = subst (λ (m : M). Outputs gives m number ys more new) first.1 start in
    subst (λ (o : List ℕ). Outputs gives old number ys (o ++ more) new) (sym first.0) from
Outputs-append {M} gives old number (x ∷ xs) ys out more mid new first second =
    let place : number + length (x ∷ xs) ≡ (number + 1) + length xs = omega arith in
    let rest = subst (λ (n : ℕ). Outputs gives mid n ys more new) place second in
    (first.0, first.1 ++ more, first.2, ap (λ o. o ++ more) first.3 ∙ append_assoc first.0 first.1 more, first.4, Outputs-append gives first.2 (number + 1) xs ys first.1 more mid new first.5 rest)
