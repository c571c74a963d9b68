-- Operations that are read item by item, with their numbers.
use Rattle.std.proofs.Common.{◌≡◌, ℕ, suc, List, [], ◌∷◌, ◌++◌, map, Option, Some, None, Result, Ok, Err, refl, sym, ap, ◌∙◌, append_assoc, ◌+◌, drop, slice_get, arith}
use Rattle.std.proofs.lemmas.List.{map-append}
use Rattle.n32_values.proofs.Trees.{drop_at}
use Rattle.spec_documents.specs.Tree.{Tree}
use Rattle.spec_documents.specs.Place.{◌>>=◌}
use Rattle.spec_documents.specs.Patch as spec
use Rattle.spec_documents.specs.Operations.{op_of, ops_from}
use Rattle.spec_documents.specs.Gives.{Tells}
use Rattle.json_patch6902.specs.View.{told}
use Rattle.json_patch6902.specs.declared.reading.OpsRead.{OpsRead}
use Rattle.json_patch6902.specs.declared.reading.OpsRead.TheVariants.{Form, NoMemory}

-- what was read, in front of what the rest gives
abbrev pub onto : {B E : Type 0} → List B → Result (List B) E → Result (List B) E
onto ys (Ok zs) = Ok (ys ++ zs)
onto ys (Err e) = Err e

onto_step : {B : Type 0} (ys : List B) (r : Result B ℕ) (y : B) (rest : Result (List B) ℕ) → r ≡ Ok y → onto ys (r >>= λ z. rest >>= λ zs. Ok (z ∷ zs)) ≡ onto (ys ++ y ∷ []) rest
onto_step ys (Ok z) y (Ok zs) e = let same : z ≡ y = cc in ap Ok (ap (λ x. ys ++ x ∷ zs) same ∙ sym (append_assoc ys (y ∷ []) zs))
onto_step ys (Ok z) y (Err k) e = refl
onto_step ys (Err k) y rest e = cc

onto_refused : {B : Type 0} (ys : List B) (r : Result B ℕ) (k : ℕ) (rest all : Result (List B) ℕ) → onto ys (r >>= λ z. rest >>= λ zs. Ok (z ∷ zs)) ≡ all → r ≡ Err k → all ≡ Err k
onto_refused ys (Ok z) k rest all h e = cc
onto_refused ys (Err j) k rest all h e = let same : j ≡ k = cc in sym h ∙ ap Err same

one_more : (n : ℕ) → n + 1 ≡ suc n
one_more n = omega arith

-- one more operation was read
pub ops_more_at : {X : Type 0} (view : X → spec.Op) (done : List X) (xs : List Tree) (i : ℕ) (a : Tree) (x : X) (all : Result (List spec.Op) ℕ)
    → slice_get xs i ≡ Some a → onto (map view done) (ops_from (i + 1) (drop i xs)) ≡ all → op_of (i + 1) a ≡ Ok (view x) → onto (map view (done ++ x ∷ [])) (ops_from (i + 1 + 1) (drop (i + 1) xs)) ≡ all
ops_more_at view done xs i a x all here h e =
    ap (λ ys. onto ys (ops_from (i + 1 + 1) (drop (i + 1) xs))) (map-append view done (x ∷ []))
    ∙ ap (λ j. onto (map view done ++ view x ∷ []) (ops_from j (drop (i + 1) xs))) (one_more (i + 1))
    ∙ sym (onto_step (map view done) (op_of (i + 1) a) (view x) (ops_from (suc (i + 1)) (drop (i + 1) xs)) e) ∙ (rw (drop_at xs i a here) at h)

-- an item was refused
pub ops_refused_at : {X : Type 0} (view : X → spec.Op) (done : List X) (xs : List Tree) (i : ℕ) (a : Tree) (e : OpsRead) (all : Result (List spec.Op) ℕ)
    → slice_get xs i ≡ Some a → onto (map view done) (ops_from (i + 1) (drop i xs)) ≡ all → Tells (told e) (op_of (i + 1) a) → Tells (told e) all
ops_refused_at view done xs i a (Form k) all here h r = onto_refused (map view done) (op_of (i + 1) a) k (ops_from (suc (i + 1)) (drop (i + 1) xs)) all (rw (drop_at xs i a here) at h) r
ops_refused_at view done xs i a NoMemory all here h r = tt
