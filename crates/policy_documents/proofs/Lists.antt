-- Lists that are read item by item.
use Rattle.std.proofs.Common.{Bool, true, false, ◌&&◌, ◌||◌, ◌≡◌, ℕ, suc, List, [], ◌∷◌, ◌++◌, map, Option, option_map, Some, None, Result, Ok, Err, refl, sym, ap, ◌∙◌, append_assoc, ◌+◌, drop, slice_get, arith}
use Rattle.std.specs.List.{list_all, list_any}
use Rattle.std.proofs.lemmas.List.{map-append}
use Rattle.n32_values.proofs.Trees.{drop_at}
use Rattle.spec_documents.specs.Tree.{Tree}
use Rattle.spec_documents.specs.Place.{◌>>=◌}
use Rattle.spec_messages.specs.Policy.{Mapping}
use Rattle.spec_messages.specs.Message.{wanted, onto_read, all_read}
use Rattle.spec_messages.specs.PolicyDocument.{each_read, mapping_of, mappings_from}
use Rattle.policy_documents.specs.Reading.{Refuses}
use Rattle.policy_documents.specs.declared.read.PolicyRead.{PolicyRead}
use Rattle.policy_documents.specs.declared.read.PolicyRead.TheVariants.{Form, NoMemory}

-- ---- what each gives, or the first refusal

-- what was read, in front of what the rest gives
abbrev pub onto : {B E : Type 0} → List B → Result (List B) E → Result (List B) E
onto ys (Ok zs) = Ok (ys ++ zs)
onto ys (Err e) = Err e

onto_step : {B : Type 0} (ys : List B) (r : Result B ℕ) (y : B) (rest : Result (List B) ℕ) → r ≡ Ok y → onto ys (r >>= λ z. rest >>= λ zs. Ok (z ∷ zs)) ≡ onto (ys ++ y ∷ []) rest
onto_step ys (Ok z) y (Ok zs) e = let same : z ≡ y = cc in ap Ok (ap (λ x. ys ++ x ∷ zs) same ∙ sym (append_assoc ys (y ∷ []) zs))
onto_step ys (Ok z) y (Err k) e = refl
onto_step ys (Err k) y rest e = cc

onto_refused : {B : Type 0} (ys : List B) (r : Result B ℕ) (k : ℕ) (rest all : Result (List B) ℕ) → onto ys (r >>= λ z. rest >>= λ zs. Ok (z ∷ zs)) ≡ all → r ≡ Err k → all ≡ Err k
onto_refused ys (Ok z) k rest all h e = cc
onto_refused ys (Err j) k rest all h e = let same : j ≡ k = cc in sym h ∙ ap Err same

-- one more item was read
pub each_more_at : {A B X : Type 0} (view : X → B) (f : A → Result B ℕ) (done : List X) (xs : List A) (i : ℕ) (a : A) (x : X) (all : Result (List B) ℕ)
    → slice_get xs i ≡ Some a → onto (map view done) (each_read f (drop i xs)) ≡ all → f a ≡ Ok (view x) → onto (map view (done ++ x ∷ [])) (each_read f (drop (i + 1) xs)) ≡ all
each_more_at view f done xs i a x all here h e =
    ap (λ ys. onto ys (each_read f (drop (i + 1) xs))) (map-append view done (x ∷ [])) ∙ sym (onto_step (map view done) (f a) (view x) (each_read f (drop (i + 1) xs)) e) ∙ (rw (drop_at xs i a here) at h)

-- an item was refused
pub each_refused_at : {A B X : Type 0} (view : X → B) (f : A → Result B ℕ) (done : List X) (xs : List A) (i : ℕ) (a : A) (e : PolicyRead) (all : Result (List B) ℕ)
    → slice_get xs i ≡ Some a → onto (map view done) (each_read f (drop i xs)) ≡ all → Refuses e (f a) → Refuses e all
each_refused_at view f done xs i a (Form k) all here h r = onto_refused (map view done) (f a) k (each_read f (drop (i + 1) xs)) all (rw (drop_at xs i a here) at h) r
each_refused_at view f done xs i a NoMemory all here h r = tt

-- ---- mappings, with their numbers

one_more : (n : ℕ) → n + 1 ≡ suc n
one_more n = omega arith

pub mappings_more_at : {X : Type 0} (view : X → Mapping) (done : List X) (xs : List Tree) (i : ℕ) (a : Tree) (x : X) (all : Result (List Mapping) ℕ)
    → slice_get xs i ≡ Some a → onto (map view done) (mappings_from (i + 1) (drop i xs)) ≡ all → mapping_of (i + 1) a ≡ Ok (view x) → onto (map view (done ++ x ∷ [])) (mappings_from (i + 1 + 1) (drop (i + 1) xs)) ≡ all
mappings_more_at view done xs i a x all here h e =
    ap (λ ys. onto ys (mappings_from (i + 1 + 1) (drop (i + 1) xs))) (map-append view done (x ∷ []))
    ∙ ap (λ j. onto (map view done ++ view x ∷ []) (mappings_from j (drop (i + 1) xs))) (one_more (i + 1))
    ∙ sym (onto_step (map view done) (mapping_of (i + 1) a) (view x) (mappings_from (suc (i + 1)) (drop (i + 1) xs)) e) ∙ (rw (drop_at xs i a here) at h)

pub mappings_refused_at : {X : Type 0} (view : X → Mapping) (done : List X) (xs : List Tree) (i : ℕ) (a : Tree) (e : PolicyRead) (all : Result (List Mapping) ℕ)
    → slice_get xs i ≡ Some a → onto (map view done) (mappings_from (i + 1) (drop i xs)) ≡ all → Refuses e (mapping_of (i + 1) a) → Refuses e all
mappings_refused_at view done xs i a (Form k) all here h r = onto_refused (map view done) (mapping_of (i + 1) a) k (mappings_from (suc (i + 1)) (drop (i + 1) xs)) all (rw (drop_at xs i a here) at h) r
mappings_refused_at view done xs i a NoMemory all here h r = tt

-- ---- what all give, or nothing

abbrev pub with_front : {B : Type 0} → List B → Option (List B) → Option (List B)
with_front ys None = None
with_front ys (Some zs) = Some (ys ++ zs)

front_step : {B : Type 0} (ys : List B) (o : Option B) (y : B) (k : ℕ) (r : Option (List B)) → wanted o k ≡ Ok y → with_front ys (onto_read o r) ≡ with_front (ys ++ y ∷ []) r
front_step ys None y k r e = cc
front_step ys (Some z) y k None e = refl
front_step ys (Some z) y k (Some zs) e = let same : z ≡ y = cc in ap Some (ap (λ x. ys ++ x ∷ zs) same ∙ sym (append_assoc ys (y ∷ []) zs))

refused_with : {B : Type 0} (o : Option B) (m k : ℕ) (ys : List B) (r all : Option (List B)) → with_front ys (onto_read o r) ≡ all → wanted o m ≡ Err k → wanted all m ≡ Err k
refused_with None m k ys r all h e = let same : m ≡ k = cc in rw (← h) (ap Err same)
refused_with (Some x) m k ys r all h e = cc

pub read_more_at : {A B X : Type 0} (view : X → B) (f : A → Option B) (k : ℕ) (done : List X) (xs : List A) (i : ℕ) (a : A) (x : X) (all : Option (List B))
    → slice_get xs i ≡ Some a → with_front (map view done) (all_read f (drop i xs)) ≡ all → wanted (f a) k ≡ Ok (view x) → with_front (map view (done ++ x ∷ [])) (all_read f (drop (i + 1) xs)) ≡ all
read_more_at view f k done xs i a x all here h e =
    ap (λ ys. with_front ys (all_read f (drop (i + 1) xs))) (map-append view done (x ∷ [])) ∙ sym (front_step (map view done) (f a) (view x) k (all_read f (drop (i + 1) xs)) e) ∙ (rw (drop_at xs i a here) at h)

pub read_refused_at : {A B X : Type 0} (view : X → B) (f : A → Option B) (k : ℕ) (done : List X) (xs : List A) (i : ℕ) (a : A) (e : PolicyRead) (all : Option (List B))
    → slice_get xs i ≡ Some a → with_front (map view done) (all_read f (drop i xs)) ≡ all → Refuses e (wanted (f a) k) → Refuses e (wanted all k)
read_refused_at view f k done xs i a (Form j) all here h r = refused_with (f a) k j (map view done) (all_read f (drop (i + 1) xs)) all (rw (drop_at xs i a here) at h) r
read_refused_at view f k done xs i a NoMemory all here h r = tt

-- ---- a test of each

pub all_at : {A : Type 0} (f : A → Bool) (xs : List A) (i : ℕ) (a : A) (all : Bool) → slice_get xs i ≡ Some a → list_all f (drop i xs) ≡ all → f a ≡ true → list_all f (drop (i + 1) xs) ≡ all
all_at f xs i a all is h e = sym (ap (λ t. t && list_all f (drop (i + 1) xs)) e) ∙ (rw (drop_at xs i a is) at h)

pub all_fail : {A : Type 0} (f : A → Bool) (xs : List A) (i : ℕ) (a : A) (all : Bool) → slice_get xs i ≡ Some a → list_all f (drop i xs) ≡ all → f a ≡ false → false ≡ all
all_fail f xs i a all is h e = sym (ap (λ t. t && list_all f (drop (i + 1) xs)) e) ∙ (rw (drop_at xs i a is) at h)

-- ---- what is made of a list that was read

wanted_none : {A B : Type 0} (f : A → B) (o : Option A) (k j : ℕ) → wanted o k ≡ Err j → wanted (option_map f o) k ≡ Err j
wanted_none f None k j e = let same : k ≡ j = cc in ap Err same
wanted_none f (Some x) k j e = cc

pub mapped_refused : {A B : Type 0} (f : A → B) (o : Option A) (k : ℕ) (e : PolicyRead) → Refuses e (wanted o k) → Refuses e (wanted (option_map f o) k)
mapped_refused f o k (Form j) h = wanted_none f o k j h
mapped_refused f o k NoMemory h = tt

pub any_here : {A B : Type 0} (view : A → B) (f : B → Bool) (xs : List A) (i : ℕ) (a : A) (all : Bool) → slice_get xs i ≡ Some a → list_any f (map view (drop i xs)) ≡ all → f (view a) ≡ true → true ≡ all
any_here view f xs i a all is h e = sym (ap (λ t. t || list_any f (map view (drop (i + 1) xs))) e) ∙ (rw (drop_at xs i a is) at h)

pub any_later : {A B : Type 0} (view : A → B) (f : B → Bool) (xs : List A) (i : ℕ) (a : A) (all : Bool) → slice_get xs i ≡ Some a → list_any f (map view (drop i xs)) ≡ all → f (view a) ≡ false → list_any f (map view (drop (i + 1) xs)) ≡ all
any_later view f xs i a all is h e = sym (ap (λ t. t || list_any f (map view (drop (i + 1) xs))) e) ∙ (rw (drop_at xs i a is) at h)
