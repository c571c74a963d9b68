-- Operations in order: the first that is applied, and those that are left.
use Rattle.std.proofs.Common.{◌≡◌, ◌+◌, ◌<◌, ℕ, zero, suc, List, [], ◌∷◌, map, drop, length, Option, Ok, sym, ap, subst, ◌∙◌, get_or, arith}
use Rattle.spec_documents.specs.Gives.{Tells}
use Rattle.spec_documents.specs.Tree.{Tree}
use Rattle.spec_documents.proofs.Chains.{bind_at, tells_on}
use Rattle.json_patch6902.specs.View.{op_view}
use Rattle.json_patch6902.specs.declared.op.Op.{Op}
use Rattle.spec_script.specs.Refusals.{Refusal}
use Rattle.spec_script.specs.Altering.{altered_by, altered}

none_below : (i : ℕ) → i < 0 → ⊥
none_below i lt = omega (arith, lt)

cut : {X : Type 0} (xs : List X) (i : ℕ) (x : X) → i < length xs → x ≡ get_or xs i x → drop i xs ≡ x ∷ drop (suc i) xs
cut [] i x lt is = absurd (none_below i lt)
cut (y ∷ ys) zero x lt is = ap (λ z. z ∷ ys) (sym is)
cut (y ∷ ys) (suc i) x lt is = cut ys i x (omega (arith, lt)) is

at_hand : (ops : List Op) (i : ℕ) (op : Op) → i < length ops → op ≡ get_or ops i op → (t : Tree) → altered (map op_view (drop i ops)) t ≡ altered (op_view op ∷ map op_view (drop (suc i) ops)) t
at_hand ops i op lt is t = ap (λ (xs : List Op). altered (map op_view xs) t) (cut ops i op lt is)

pub fails_here : (told : Option Refusal) (ops all : List Op) (i : ℕ) (op : Op) (t first : Tree) → i < length ops → op ≡ get_or ops i op → Tells told (altered_by (op_view op) t)
    → altered (map op_view (drop i ops)) t ≡ altered (map op_view all) first → Tells told (altered (map op_view all) first)
fails_here told ops all i op t first lt is fails rest =
    subst (λ r. Tells told r) (sym (at_hand ops i op lt is t) ∙ rest) (tells_on told (altered_by (op_view op) t) (λ u. altered (map op_view (drop (suc i) ops)) u) fails)

pub goes_on_here : (ops all : List Op) (i : ℕ) (op : Op) (t u first : Tree) → i < length ops → op ≡ get_or ops i op → altered_by (op_view op) t ≡ Ok u
    → altered (map op_view (drop i ops)) t ≡ altered (map op_view all) first → altered (map op_view (drop (i + 1) ops)) u ≡ altered (map op_view all) first
goes_on_here ops all i op t u first lt is done rest =
    let next : i + 1 ≡ suc i = omega arith in
    ap (λ (n : ℕ). altered (map op_view (drop n ops)) u) next
    ∙ (sym (bind_at (altered_by (op_view op) t) (λ u. altered (map op_view (drop (suc i) ops)) u) u done) ∙ (sym (at_hand ops i op lt is t) ∙ rest))
