-- What is found about a place, by the marks of a block.
use Rattle.std.proofs.Common.{◌≡◌, ℕ, suc, ◌+◌, ◌<◌, ◌≤◌, arith, drop, slice_get, List, [], ◌∷◌, ◌++◌, map, length, Bool, true, false, not, ◌&&◌, ◌||◌, Option, Some, None, Result, Ok, Err, refl, sym, ap, ap₂, ◌∙◌, is_some, bytes_eq}
use Rattle.std.specs.List.{list_any}
use Rattle.spec_documents.specs.Tree.{Tree, null, truth, whole, words, items, members}
use Rattle.spec_documents.specs.Place.{Pointer, Cause, at, is_prefix, is_beneath}
use Rattle.spec_documents.specs.Hole.{Mark, all_marks, text_marks, text_mark, piece_marks, words_marks, object_marks, object_mark, path_pointer, query_pointer, path_pieces, query_pieces, text_hole, pair_hole}
use Rattle.spec_documents.proofs.MarkLemmas.{any-append}
use Rattle.n32_values.proofs.Trees.{drop_at}
use Rattle.enc_index.specs.About.{is_object_above}

pub any_mapped : {X Y : Type 0} (f : Y → Bool) (g : X → Y) (xs : List X) → list_any f (map g xs) ≡ list_any (λ x. f (g x)) xs
any_mapped f g [] = refl
any_mapped f g (x ∷ xs) = ap (λ b. f (g x) || b) (any_mapped f g xs)

pieces_not_above : (p q : Pointer) (look : List ℕ → Option ℕ) (k : ℕ) (ps : List (List ℕ)) → list_any (is_object_above p) (piece_marks q look k ps) ≡ false
pieces_not_above p q look k [] = refl
pieces_not_above p q look k (s ∷ ps) = any-append (is_object_above p) (text_mark q k (look s)) (piece_marks q look (suc k) ps) ∙ ap₂ ◌||◌ (one (look s)) (pieces_not_above p q look (suc k) ps)
  where
    one : (o : Option ℕ) → list_any (is_object_above p) (text_mark q k o) ≡ false
    one None = refl
    one (Some n) = refl

words_not_above : (p q : Pointer) (look : List ℕ → Option ℕ) (cut : List ℕ → List (List ℕ)) (r : Result Tree Cause) → list_any (is_object_above p) (words_marks (λ s. piece_marks q look 0 (cut s)) r) ≡ false
words_not_above p q look cut (Err why) = refl
words_not_above p q look cut (Ok null) = refl
words_not_above p q look cut (Ok (truth b)) = refl
words_not_above p q look cut (Ok (whole z)) = refl
words_not_above p q look cut (Ok (words s)) = pieces_not_above p q look 0 (cut s)
words_not_above p q look cut (Ok (items ts)) = refl
words_not_above p q look cut (Ok (members ms)) = refl

-- only objects stand above a place
pub above-is : (p : Pointer) (t : Tree) → list_any (is_object_above p) (all_marks t) ≡ list_any (λ m. is_beneath m.0 p) (object_marks t)
above-is p t =
    let f = is_object_above p in
    let one = words_marks (λ s. piece_marks path_pointer text_hole 0 (path_pieces s)) (at t path_pointer) in
    let two = words_marks (λ s. piece_marks query_pointer pair_hole 0 (query_pieces s)) (at t query_pointer) in
    any-append f (text_marks t) (map object_mark (object_marks t))
    ∙ ap₂ ◌||◌
    (any-append f one two ∙ ap₂ ◌||◌ (words_not_above p path_pointer text_hole path_pieces (at t path_pointer)) (words_not_above p query_pointer pair_hole query_pieces (at t query_pointer)))
    (any_mapped f object_mark (object_marks t))

-- what stands strictly beneath is longer
pub beneath_short : (p q : Pointer) → length q ≤ length p → false ≡ is_beneath p q
beneath_short [] [] h = refl
beneath_short [] (y ∷ q) h = absurd (omega arith)
beneath_short (x ∷ p) [] h = refl
beneath_short (x ∷ p) (y ∷ q) h = both (bytes_eq x y) (is_beneath p q) (beneath_short p q (omega arith))
  where
    both : (b c : Bool) → false ≡ c → false ≡ (b && c)
    both true c e = e
    both false c e = refl

pub beneath_long : (p q : Pointer) → length p < length q → is_prefix p q ≡ is_beneath p q
beneath_long [] [] h = absurd (omega arith)
beneath_long [] (y ∷ q) h = refl
beneath_long (x ∷ p) [] h = absurd (omega arith)
beneath_long (x ∷ p) (y ∷ q) h = ap (λ b. bytes_eq x y && b) (beneath_long p q (omega arith))

-- ---- one by one

pub any_here : {A B : Type 0} (view : A → B) (f : B → Bool) (xs : List A) (i : ℕ) (a : A) (all : Bool) → slice_get xs i ≡ Some a → list_any f (map view (drop i xs)) ≡ all → f (view a) ≡ true → true ≡ all
any_here view f xs i a all is h e = sym (ap (λ t. t || list_any f (map view (drop (i + 1) xs))) e) ∙ (rw (drop_at xs i a is) at h)

pub any_later : {A B : Type 0} (view : A → B) (f : B → Bool) (xs : List A) (i : ℕ) (a : A) (all : Bool) → slice_get xs i ≡ Some a → list_any f (map view (drop i xs)) ≡ all → f (view a) ≡ false → list_any f (map view (drop (i + 1) xs)) ≡ all
any_later view f xs i a all is h e = sym (ap (λ t. t || list_any f (map view (drop (i + 1) xs))) e) ∙ (rw (drop_at xs i a is) at h)
