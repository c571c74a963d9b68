-- What an operation overwrites, and what is left where a node was taken out.
use Rattle.std.proofs.Common.{◌≡◌, ℕ, suc, ◌≤◌, List, [], ◌∷◌, length, Bool, true, false, Some, None, Result, Ok, Err, refl, sym, ap, ap₂, ◌∙◌, take, slice_get, if◌then◌else◌, arith}
use Rattle.std.proofs.lemmas.Bool.{le-leb}
use Rattle.std.specs.Prelude.{nat_le}
use Rattle.std.specs.Result.{result_ok}
use Rattle.spec_documents.specs.Tree.{Tree, depth}
use Rattle.spec_documents.specs.Place.{Pointer, Cause, too_deep, ◌>>=◌, at, front, last}
use Rattle.spec_documents.specs.Patch.{remove, removed, within_depth, patched}
use Rattle.spec_messages.specs.Entry.{is_member, overwrites, overwrites_hole, overwrites_after}
use Rattle.json_patch6902.proofs.DepthLemmas.{removed-depth}

-- ---- a pointer without its last token

front-take : (x : List ℕ) (p : Pointer) → take (length p) (x ∷ p) ≡ front (x ∷ p)
front-take x [] = refl
front-take x (y ∷ p) = ap (λ q. x ∷ q) (front-take y p)

last-get : (x : List ℕ) (p : Pointer) → slice_get (x ∷ p) (length p) ≡ Some (last (x ∷ p))
last-get x [] = refl
last-get x (y ∷ p) = last-get y p

-- the front and the last token, by the place n of the last
parts_at : (x : List ℕ) (p : Pointer) (n : ℕ) (token : List ℕ) → n ≡ length p → slice_get (x ∷ p) n ≡ Some token → (take n (x ∷ p) ≡ front (x ∷ p)) × (token ≡ last (x ∷ p))
parts_at x p n token e is =
    let both : Some token ≡ Some (last (x ∷ p)) = sym is ∙ (ap (slice_get (x ∷ p)) e ∙ last-get x p) in
    (ap (λ m. take m (x ∷ p)) e ∙ front-take x p, cc)

-- the front stands for a document s, which is t
pub overwrites_there : (t s : Tree) (p q : Pointer) (n : ℕ) (token : List ℕ) (u : Tree) → suc n ≡ length p → slice_get p n ≡ Some token → s ≡ t → q ≡ take n p → at s q ≡ Ok u → is_member (Ok u) token ≡ overwrites t p
overwrites_there t s [] q n token u e is same front there = cc
overwrites_there t s (x ∷ p) q n token u e is same front there =
    let parts = parts_at x p n token (omega (arith, e)) is in
    ap₂ is_member (sym there ∙ ap₂ at same (front ∙ parts.0)) parts.1

pub overwrites_nothing : (t s : Tree) (p q : Pointer) (n : ℕ) (why : Cause) → suc n ≡ length p → s ≡ t → q ≡ take n p → at s q ≡ Err why → false ≡ overwrites t p
overwrites_nothing t s [] q n why e same front there = cc
overwrites_nothing t s (x ∷ p) q n why e same front there =
    let less : n ≡ length p = omega (arith, e) in
    ap (λ r. is_member r (last (x ∷ p))) (sym there ∙ ap₂ at same (front ∙ (ap (λ m. take m (x ∷ p)) less ∙ front-take x p)))

-- ---- the document that a removal leaves

-- a removal nests no deeper
pub removal_fits : (p : Pointer) (t : Tree) → depth t ≤ 127 → result_ok (patched t (remove p)) ≡ result_ok (removed p t)
removal_fits p t low = by (removed p t) refl
  where
    fits : (b : Bool) (x : Tree) → b ≡ true → result_ok (if b then Ok x else Err too_deep) ≡ Some x
    fits true x is = refl
    fits false x is = cc

    by : (r : Result Tree Cause) → removed p t ≡ r → result_ok (r >>= within_depth) ≡ result_ok r
    by (Ok x) is = let shallow : depth x ≤ 127 = omega (arith, low, removed-depth p t x is) in fits (nat_le (depth x) 127) x (le-leb _ _ shallow)
    by (Err why) is = refl

pub after_there : (r : Result Tree Cause) (t : Tree) (p : Pointer) → Some t ≡ result_ok r → overwrites_hole t p ≡ overwrites_after r p
after_there (Ok x) t p e = let same : t ≡ x = cc in ap (λ u. overwrites_hole u p) same
after_there (Err why) t p e = cc

pub after_nothing : (r : Result Tree Cause) (p : Pointer) → None ≡ result_ok r → false ≡ overwrites_after r p
after_nothing (Ok x) p e = cc
after_nothing (Err why) p e = refl
