-- The first of a list that passes a test, from place to place.
use Rattle.std.proofs.Common.{◌≡◌, ℕ, suc, ◌+◌, List, map, drop, slice_get, Option, Some, Bool, true, false, sym, ap, ◌∙◌, arith, if◌then◌else◌}
use Rattle.n32_values.proofs.Trees.{drop_at}
use Rattle.spec_messages.specs.Policy.{Address}
use Rattle.sealing_check.specs.Found.{first_address}

one_more : (n : ℕ) → suc n ≡ n + 1
one_more n = omega arith

pub first_here : {A B : Type 0} (view : A → B) (test : ℕ → B → Bool) (address : ℕ → B → Address) (xs : List A) (i : ℕ) (x : A) (all : Option Address)
    → slice_get xs i ≡ Some x → first_address test address i (map view (drop i xs)) ≡ all → test i (view x) ≡ true → Some (address i (view x)) ≡ all
first_here view test address xs i x all is h e =
    sym (ap (λ t. if t then Some (address i (view x)) else first_address test address (suc i) (map view (drop (i + 1) xs))) e) ∙ (rw (drop_at xs i x is) at h)

pub first_later : {A B : Type 0} (view : A → B) (test : ℕ → B → Bool) (address : ℕ → B → Address) (xs : List A) (i : ℕ) (x : A) (all : Option Address)
    → slice_get xs i ≡ Some x → first_address test address i (map view (drop i xs)) ≡ all → test i (view x) ≡ false → first_address test address (i + 1) (map view (drop (i + 1) xs)) ≡ all
first_later view test address xs i x all is h e =
    ap (λ n. first_address test address n (map view (drop (i + 1) xs))) (sym (one_more i))
    ∙ sym (ap (λ t. if t then Some (address i (view x)) else first_address test address (suc i) (map view (drop (i + 1) xs))) e) ∙ (rw (drop_at xs i x is) at h)
