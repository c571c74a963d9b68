-- Lists of words, read item by item.
use Rattle.std.proofs.Common.{◌≡◌, ℕ, ◌+◌, List, [], ◌∷◌, ◌++◌, map, drop, slice_get, Option, option_map, Some, None, Ok, Err, refl, sym, ap, ◌∙◌, append_assoc}
use Rattle.std.proofs.lemmas.List.{map-append}
use Rattle.n32_values.proofs.Trees.{drop_at}
use Rattle.spec_documents.specs.Tree.{Tree}
use Rattle.spec_messages.specs.Message.{wanted, text_if, any_text, onto_read, all_read}
use Rattle.spec_records.specs.RecordDocument.{no_record}
use Rattle.spec_handshake.specs.Documents.{known, onto_known}
use Rattle.context_records.specs.declared.read.RecordRead.{RecordRead}
use Rattle.context_records.specs.declared.read.RecordRead.TheVariants.{Form, NoMemory}
use Rattle.context_records.specs.Reading.{Refuses}
use Rattle.n32c_handshake.specs.Reading.{known_words}

-- what was read, in front of what the rest gives
abbrev pub with_front : {B : Type 0} → List B → Option (List B) → Option (List B)
with_front ys None = None
with_front ys (Some zs) = Some (ys ++ zs)

-- the first item is this text
first_word : {B : Type 0} (f : List ℕ → Option B) (s : List ℕ) (rest : Option (List (List ℕ))) → option_map (known f) (onto_read (Some s) rest) ≡ option_map (onto_known (f s)) (option_map (known f) rest)
first_word f s None = refl
first_word f s (Some ss) = refl

word_there : {B : Type 0} (f : List ℕ → Option B) (s : List ℕ) (o : Option (List ℕ)) (ts : List Tree) → o ≡ Some s → option_map (known f) (onto_read o (all_read (text_if any_text) ts)) ≡ option_map (onto_known (f s)) (known_words f ts)
word_there f s None ts e = cc
word_there f s (Some r) ts e = let same : r ≡ s = cc in ap (λ z. option_map (known f) (onto_read (Some z) (all_read (text_if any_text) ts))) same ∙ first_word f s (all_read (text_if any_text) ts)

given : {A E : Type 0} (o : Option A) (k : E) (x : A) → wanted o k ≡ Ok x → o ≡ Some x
given None k x e = cc
given (Some y) k x e = let same : y ≡ x = cc in ap Some same

-- an item that is a text is one word more, where it is known
at_word : {B E : Type 0} (f : List ℕ → Option B) (ts : List Tree) (i : ℕ) (t : Tree) (s : List ℕ) (k : E) → slice_get ts i ≡ Some t → wanted (text_if any_text t) k ≡ Ok s → known_words f (drop i ts) ≡ option_map (onto_known (f s)) (known_words f (drop (i + 1) ts))
at_word f ts i t s k here e = rw (drop_at ts i t here) (word_there f s (text_if any_text t) (drop (i + 1) ts) (given (text_if any_text t) k s e))

front_known : {B : Type 0} (ys : List B) (y : B) (o : Option (List B)) → with_front ys (option_map (onto_known (Some y)) o) ≡ with_front (ys ++ y ∷ []) o
front_known ys y None = refl
front_known ys y (Some zs) = ap Some (sym (append_assoc ys (y ∷ []) zs))

front_other : {B : Type 0} (ys : List B) (o : Option (List B)) → with_front ys (option_map (onto_known None) o) ≡ with_front ys o
front_other ys None = refl
front_other ys (Some zs) = refl

-- a known word was read
pub known_at : {B X E : Type 0} (view : X → B) (f : List ℕ → Option B) (done : List X) (ts : List Tree) (i : ℕ) (t : Tree) (s : List ℕ) (k : E) (x : X) (all : Option (List B))
    → slice_get ts i ≡ Some t → wanted (text_if any_text t) k ≡ Ok s → with_front (map view done) (known_words f (drop i ts)) ≡ all → Some (view x) ≡ f s
    → with_front (map view (done ++ x ∷ [])) (known_words f (drop (i + 1) ts)) ≡ all
known_at view f done ts i t s k x all here e h is =
    ap (λ ys. with_front ys (known_words f (drop (i + 1) ts))) (map-append view done (x ∷ []))
    ∙ (sym (front_known (map view done) (view x) (known_words f (drop (i + 1) ts)))
    ∙ (ap (λ o. with_front (map view done) (option_map (onto_known o) (known_words f (drop (i + 1) ts)))) is
    ∙ (ap (with_front (map view done)) (sym (at_word f ts i t s k here e)) ∙ h)))

-- another word was read
pub other_at : {B X E : Type 0} (view : X → B) (f : List ℕ → Option B) (done : List X) (ts : List Tree) (i : ℕ) (t : Tree) (s : List ℕ) (k : E) (all : Option (List B))
    → slice_get ts i ≡ Some t → wanted (text_if any_text t) k ≡ Ok s → with_front (map view done) (known_words f (drop i ts)) ≡ all → None ≡ f s
    → with_front (map view done) (known_words f (drop (i + 1) ts)) ≡ all
other_at view f done ts i t s k all here e h is =
    sym (front_other (map view done) (known_words f (drop (i + 1) ts)))
    ∙ (ap (λ o. with_front (map view done) (option_map (onto_known o) (known_words f (drop (i + 1) ts)))) is
    ∙ (ap (with_front (map view done)) (sym (at_word f ts i t s k here e)) ∙ h))

no_word : {B : Type 0} (f : List ℕ → Option B) (ys : List B) (o : Option (List ℕ)) (rest : Option (List (List ℕ))) (all : Option (List B)) → wanted o no_record ≡ Err no_record → with_front ys (option_map (known f) (onto_read o rest)) ≡ all → wanted all no_record ≡ Err no_record
no_word f ys None rest all e h = rw (← h) refl
no_word f ys (Some s) rest all e h = cc

-- an item is no text
pub refused_at : {B : Type 0} (f : List ℕ → Option B) (ys : List B) (ts : List Tree) (i : ℕ) (t : Tree) (why : RecordRead) (all : Option (List B))
    → slice_get ts i ≡ Some t → with_front ys (known_words f (drop i ts)) ≡ all → Refuses why (wanted (text_if any_text t) no_record) → Refuses why (wanted all no_record)
refused_at f ys ts i t NoMemory all here h e = tt
refused_at f ys ts i t Form all here h e = no_word f ys (text_if any_text t) (all_read (text_if any_text) (drop (i + 1) ts)) all e (rw (drop_at ts i t here) at h)
