-- Lists of parts, hidden one at a time.
use Rattle.std.proofs.Common.{◌≡◌, ℕ, zero, suc, ◌+◌, ◌≤◌, List, [], ◌∷◌, ◌++◌, map, length, drop, slice_get, Bool, true, false, Some, refl, sym, ap, ◌∙◌, if◌then◌else◌, append_assoc, append-nil, add-one, arith}
use Rattle.std.proofs.lemmas.List.{length-append}
use Rattle.spec_documents.specs.Tree.{Tree}
use Rattle.spec_messages.specs.Policy.{Spot, numbered}
use Rattle.spec_messages.specs.Split.{hide_each}
use Rattle.n32_values.proofs.Trees.{drop_at}
use Rattle.reformat_blocks.specs.Sent.{stood}

pub map-append : {A B : Type 0} (f : A → B) (xs ys : List A) → map f (xs ++ ys) ≡ map f xs ++ map f ys
map-append f [] ys = refl
map-append f (x ∷ xs) ys = ap (λ zs. f x ∷ zs) (map-append f xs ys)

pub length-map : {A B : Type 0} (f : A → B) (xs : List A) → length (map f xs) ≡ length xs
length-map f [] = refl
length-map f (x ∷ xs) = ap suc (length-map f xs)

pub drop_past : {X : Type 0} (xs : List X) (i : ℕ) → length xs ≤ i → drop i xs ≡ []
drop_past [] zero le = refl
drop_past [] (suc i) le = refl
drop_past (x ∷ xs) zero le = absurd (omega arith)
drop_past (x ∷ xs) (suc i) le = drop_past xs i (omega arith)

-- a list that grew by what was added, before what is still to come
pub append_more : {X : Type 0} (out grown added rest : List X) → grown ≡ out ++ added → grown ++ rest ≡ out ++ (added ++ rest)
append_more out grown added rest e = ap (λ xs. xs ++ rest) e ∙ append_assoc out added rest

counted : {X : Type 0} (vs grown : List X) (v : X) (b : Bool) → grown ≡ vs ++ (if b then v ∷ [] else []) → length grown ≡ (if b then suc (length vs) else length vs)
counted vs grown v true e = let n = length-append vs (v ∷ []) in ap length e ∙ omega (arith, n)
counted vs grown v false e = ap length (e ∙ append-nil vs)

hide_by : {X : Type 0} (test : ℕ → X → Bool) (put : ℕ → X → X) (i n m : ℕ) (x : X) (xs out grown : List X) (b : Bool) → test i x ≡ b → m ≡ (if b then suc n else n) → grown ≡ out ++ (if b then put n x else x) ∷ []
    → grown ++ hide_each test put (suc i) m xs ≡ out ++ hide_each test put i n (x ∷ xs)
hide_by test put i n m x xs out grown true is count e =
    append_more out grown (put n x ∷ []) (hide_each test put (suc i) m xs) e ∙ ap (λ k. out ++ put n x ∷ hide_each test put (suc i) k xs) count
    ∙ ap (λ c. out ++ (if c then put n x ∷ hide_each test put (suc i) (suc n) xs else x ∷ hide_each test put (suc i) n xs)) (sym is)
hide_by test put i n m x xs out grown false is count e =
    append_more out grown (x ∷ []) (hide_each test put (suc i) m xs) e ∙ ap (λ k. out ++ x ∷ hide_each test put (suc i) k xs) count
    ∙ ap (λ c. out ++ (if c then put n x ∷ hide_each test put (suc i) (suc n) xs else x ∷ hide_each test put (suc i) n xs)) (sym is)

pub hidden_step : {A X : Type 0} (view : A → X) (test : ℕ → X → Bool) (put : ℕ → X → X) (value : X → Tree) (all : List A) (i : ℕ) (a : A) (vs more : List Tree) (out grown whole : List X) → slice_get all i ≡ Some a
    → more ≡ vs ++ (if test i (view a) then value (view a) ∷ [] else []) → grown ≡ out ++ (if test i (view a) then put (length vs) (view a) else view a) ∷ []
    → out ++ hide_each test put i (length vs) (map view (drop i all)) ≡ whole → grown ++ hide_each test put (i + 1) (length more) (map view (drop (i + 1) all)) ≡ whole
hidden_step view test put value all i a vs more out grown whole here hidden is so_far =
    ap (λ k. grown ++ hide_each test put k (length more) (map view (drop (i + 1) all))) (add-one i)
    ∙ hide_by test put i (length vs) (length more) (view a) (map view (drop (i + 1) all)) out grown (test i (view a)) refl (counted vs more (value (view a)) (test i (view a)) hidden) is
    ∙ ap (λ xs. out ++ hide_each test put i (length vs) (map view xs)) (sym (drop_at all i a here)) ∙ so_far

stood_by : {X : Type 0} (test : ℕ → X → Bool) (spot : ℕ → Spot) (value : X → Tree) (i : ℕ) (x : X) (xs : List X) (vs grown : List Tree) (b : Bool) → test i x ≡ b → grown ≡ vs ++ (if b then value x ∷ [] else [])
    → grown ++ stood (numbered test spot value (suc i) xs) ≡ vs ++ stood (numbered test spot value i (x ∷ xs))
stood_by test spot value i x xs vs grown true is e =
    append_more vs grown (value x ∷ []) (stood (numbered test spot value (suc i) xs)) e
    ∙ ap (λ c. vs ++ stood (if c then (spot i, value x) ∷ numbered test spot value (suc i) xs else numbered test spot value (suc i) xs)) (sym is)
stood_by test spot value i x xs vs grown false is e =
    append_more vs grown [] (stood (numbered test spot value (suc i) xs)) e
    ∙ ap (λ c. vs ++ stood (if c then (spot i, value x) ∷ numbered test spot value (suc i) xs else numbered test spot value (suc i) xs)) (sym is)

pub stood_step : {A X : Type 0} (view : A → X) (test : ℕ → X → Bool) (spot : ℕ → Spot) (value : X → Tree) (all : List A) (i : ℕ) (a : A) (vs more whole : List Tree) → slice_get all i ≡ Some a
    → more ≡ vs ++ (if test i (view a) then value (view a) ∷ [] else [])
    → vs ++ stood (numbered test spot value i (map view (drop i all))) ≡ whole → more ++ stood (numbered test spot value (i + 1) (map view (drop (i + 1) all))) ≡ whole
stood_step view test spot value all i a vs more whole here hidden so_far =
    ap (λ k. more ++ stood (numbered test spot value k (map view (drop (i + 1) all)))) (add-one i)
    ∙ stood_by test spot value i (view a) (map view (drop (i + 1) all)) vs more (test i (view a)) refl hidden
    ∙ ap (λ xs. vs ++ stood (numbered test spot value i (map view xs))) (sym (drop_at all i a here)) ∙ so_far

-- one more item of a list, in the words of what it is
pub pushed : {A X : Type 0} (view : A → X) (out grown : List A) (a : A) (x : X) → grown ≡ out ++ a ∷ [] → view a ≡ x → map view grown ≡ map view out ++ x ∷ []
pushed view out grown a x e is = ap (map view) e ∙ map-append view out (a ∷ []) ∙ ap (λ y. map view out ++ y ∷ []) is
