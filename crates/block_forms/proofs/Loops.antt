-- A step of a loop over a list, or over the members of an object.
use Rattle.std.proofs.Common.{◌≡◌, ℕ, ◌+◌, List, ◌∷◌, Bool, true, false, Option, Some, None, drop, slice_get}
use Rattle.std.specs.List.{list_all}
use Rattle.spec_documents.specs.Tree.{Tree}
use Rattle.spec_documents.specs.Fields.{Field, fields}
use Rattle.spec_messages.specs.Fault.{is_known, first_unknown}
use Rattle.n32_values.proofs.Trees.{drop_at}

all_passed : {X : Type 0} (f : X → Bool) (x : X) (xs ys : List X) → xs ≡ x ∷ ys → f x ≡ true → list_all f xs ≡ list_all f ys
all_passed f x xs ys e p = rw (e, p)

all_failed : {X : Type 0} (f : X → Bool) (x : X) (xs ys : List X) → xs ≡ x ∷ ys → f x ≡ false → list_all f xs ≡ false
all_failed f x xs ys e p = rw (e, p)

pub pass_at : {X : Type 0} (f : X → Bool) (xs : List X) (i : ℕ) (x : X) → slice_get xs i ≡ Some x → f x ≡ true → list_all f (drop i xs) ≡ list_all f (drop (i + 1) xs)
pass_at f xs i x e p = all_passed f x (drop i xs) (drop (i + 1) xs) (drop_at xs i x e) p

pub fail_at : {X : Type 0} (f : X → Bool) (xs : List X) (i : ℕ) (x : X) → slice_get xs i ≡ Some x → f x ≡ false → list_all f (drop i xs) ≡ false
fail_at f xs i x e p = all_failed f x (drop i xs) (drop (i + 1) xs) (drop_at xs i x e) p

known_passed : (k : List ℕ) (t : Tree) (xs ys : List Field) → xs ≡ (k, t) ∷ ys → is_known k ≡ true → first_unknown (fields xs) ≡ first_unknown (fields ys)
known_passed k t xs ys e p = rw (e, p)

unknown_met : (k : List ℕ) (t : Tree) (xs ys : List Field) → xs ≡ (k, t) ∷ ys → is_known k ≡ false → first_unknown (fields xs) ≡ Some k
unknown_met k t xs ys e p = rw (e, p)

pub known_at : (xs : List Field) (i : ℕ) (k : List ℕ) (t : Tree) → slice_get xs i ≡ Some (k, t) → is_known k ≡ true → first_unknown (fields (drop i xs)) ≡ first_unknown (fields (drop (i + 1) xs))
known_at xs i k t e p = known_passed k t (drop i xs) (drop (i + 1) xs) (drop_at xs i (k, t) e) p

pub unknown_at : (xs : List Field) (i : ℕ) (k : List ℕ) (t : Tree) → slice_get xs i ≡ Some (k, t) → is_known k ≡ false → first_unknown (fields (drop i xs)) ≡ Some k
unknown_at xs i k t e p = unknown_met k t (drop i xs) (drop (i + 1) xs) (drop_at xs i (k, t) e) p
