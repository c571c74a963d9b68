-- Lists that are read item by item.
use Rattle.std.proofs.Common.{◌≡◌, ℕ, List, [], ◌∷◌, ◌++◌, map, Option, Some, None, Ok, Err, refl, sym, ap, ◌∙◌, append_assoc, append-nil, ◌+◌, drop, slice_get}
use Rattle.std.proofs.lemmas.List.{map-append}
use Rattle.n32_values.proofs.Trees.{drop_at}
use Rattle.spec_messages.specs.Message.{Member, wanted, onto_read, all_read}
use Rattle.http_message.specs.Reading.{Refuses, member_view}
use Rattle.http_message.specs.declared.refusal.MessageRead.{MessageRead}
use Rattle.http_message.specs.declared.refusal.MessageRead.TheVariants as read

-- what was read, in front of what the rest gives
abbrev pub with_front : {B : Type 0} → List B → Option (List B) → Option (List B)
with_front ys None = None
with_front ys (Some zs) = Some (ys ++ zs)

front_step : {B : Type 0} (ys : List B) (o : Option B) (y : B) (m : Member) (r : Option (List B)) → wanted o m ≡ Ok y → with_front ys (onto_read o r) ≡ with_front (ys ++ y ∷ []) r
front_step ys None y m r e = cc
front_step ys (Some z) y m None e = refl
front_step ys (Some z) y m (Some zs) e = let same : z ≡ y = cc in ap Some (ap (λ x. ys ++ x ∷ zs) same ∙ sym (append_assoc ys (y ∷ []) zs))

-- one more item was read
pub read_more : {A B X : Type 0} (view : X → B) (f : A → Option B) (m : Member) (done : List X) (a : A) (rest : List A) (x : X) (all : Option (List B))
    → with_front (map view done) (all_read f (a ∷ rest)) ≡ all → wanted (f a) m ≡ Ok (view x) → with_front (map view (done ++ x ∷ [])) (all_read f rest) ≡ all
read_more view f m done a rest x all h e =
    ap (λ ys. with_front ys (all_read f rest)) (map-append view done (x ∷ [])) ∙ sym (front_step (map view done) (f a) (view x) m (all_read f rest) e) ∙ h

none_of : {B : Type 0} (o : Option B) (m k : Member) → wanted o m ≡ Err k → o ≡ None
none_of None m k e = refl
none_of (Some x) m k e = cc

-- an item was refused
refused_with : {B : Type 0} (o : Option B) (m k : Member) (ys : List B) (r all : Option (List B)) → with_front ys (onto_read o r) ≡ all → wanted o m ≡ Err k → wanted all m ≡ Err k
refused_with None m k ys r all h e = let same : m ≡ k = cc in rw (← h) (ap Err same)
refused_with (Some x) m k ys r all h e = cc

pub read_refused : {A B X : Type 0} (view : X → B) (f : A → Option B) (m : Member) (done : List X) (a : A) (rest : List A) (e : MessageRead) (all : Option (List B))
    → with_front (map view done) (all_read f (a ∷ rest)) ≡ all → Refuses e (wanted (f a) m) → Refuses e (wanted all m)
read_refused view f m done a rest (read.Member k) all h e = refused_with (f a) m (member_view k) (map view done) (all_read f rest) all h e
read_refused view f m done a rest read.Depth all h e = absurd e
read_refused view f m done a rest read.NoMemory all h e = tt

-- the same for a loop by place
pub read_more_at : {A B X : Type 0} (view : X → B) (f : A → Option B) (m : Member) (done : List X) (xs : List A) (i : ℕ) (a : A) (x : X) (all : Option (List B))
    → slice_get xs i ≡ Some a → with_front (map view done) (all_read f (drop i xs)) ≡ all → wanted (f a) m ≡ Ok (view x) → with_front (map view (done ++ x ∷ [])) (all_read f (drop (i + 1) xs)) ≡ all
read_more_at view f m done xs i a x all here h e = read_more view f m done a (drop (i + 1) xs) x all (rw (drop_at xs i a here) at h) e

pub read_refused_at : {A B X : Type 0} (view : X → B) (f : A → Option B) (m : Member) (done : List X) (xs : List A) (i : ℕ) (a : A) (e : MessageRead) (all : Option (List B))
    → slice_get xs i ≡ Some a → with_front (map view done) (all_read f (drop i xs)) ≡ all → Refuses e (wanted (f a) m) → Refuses e (wanted all m)
read_refused_at view f m done xs i a e all here h r = read_refused view f m done a (drop (i + 1) xs) e all (rw (drop_at xs i a here) at h) r
