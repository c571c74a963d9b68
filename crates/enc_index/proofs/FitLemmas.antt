-- Where no value is unfit for its place, each text hole has a text.
use Rattle.std.proofs.Common.{◌≡◌, ℕ, zero, suc, ◌+◌, ◌≤◌, ◌<◌, List, [], ◌∷◌, ◌++◌, length, Bool, true, false, not, ◌&&◌, Option, Some, None, Result, Ok, Err, map, slice_get, refl, sym, ap, ◌∙◌, append_assoc, is_some, if◌then◌else◌, arith}
use Rattle.std.specs.List.{list_all, cons_option}
use Rattle.std.proofs.lemmas.Bool.{and_parts, and_from, le-leb, leb-true}
use Rattle.std.specs.Prelude.{nat_le}
use Rattle.spec_documents.specs.Tree.{Tree, null, truth, whole, words, items, members, depth}
use Rattle.spec_documents.specs.Place.{Pointer, Cause, ◌>>=◌, at}
use Rattle.spec_documents.specs.Hole.{HolePlace, Mark, bad_hole, twice, first_bad, first_twice, indexes, place_of, found_place, gathered, unless_some, all_marks, text_marks, text_mark, piece_marks, words_marks, object_marks, object_mark, places, value_at, is_words, path_pointer, query_pointer, path_pieces, query_pieces, text_hole, pair_hole, has_words, has_words_at, fill_tree, fill_all}
use Rattle.spec_documents.proofs.TreeLemmas.{bind_ok}
use Rattle.spec_documents.proofs.GuardLemmas.{all_from}
use Rattle.spec_documents.proofs.PlaceLemmas.{unless_ok, not_bad, good_index, not_before, first_place, indexes-append, found_index}
use Rattle.enc_index.specs.Filling.{not_text, too_deep, is_unfit, first_unfit, filled_or_deep, filling}

-- ---- the list of places

gathered_length : (ms : List Mark) (n k : ℕ) (ps : List HolePlace) → gathered ms n k ≡ Ok ps → length ps ≡ n
gathered_length ms zero k ps e = let is : [] ≡ ps = cc in ap length (sym is)
gathered_length ms (suc n) k ps e =
    let a = bind_ok (found_place k (place_of k ms)) (λ q. gathered ms n (suc k) >>= λ qs. Ok (q ∷ qs)) ps e in
    let b = bind_ok (gathered ms n (suc k)) (λ qs. Ok (a.0 ∷ qs)) ps a.2 in
    let is : a.0 ∷ b.0 ≡ ps = cc b.2 in
    ap length (sym is) ∙ ap suc (gathered_length ms n (suc k) b.0 b.1)

gathered_at : (ms : List Mark) (n k i : ℕ) (ps : List HolePlace) (h : HolePlace) → gathered ms n k ≡ Ok ps → i < n → place_of (i + k) ms ≡ Some h → slice_get ps i ≡ Some h
gathered_at ms zero k i ps h e lt here = absurd (omega arith)
gathered_at ms (suc n) k zero ps h e lt here =
    let a = bind_ok (found_place k (place_of k ms)) (λ q. gathered ms n (suc k) >>= λ qs. Ok (q ∷ qs)) ps e in
    let b = bind_ok (gathered ms n (suc k)) (λ qs. Ok (a.0 ∷ qs)) ps a.2 in
    let is : a.0 ∷ b.0 ≡ ps = cc b.2 in
    let same : k ≡ 0 + k = omega arith in
    ap (λ qs. slice_get qs 0) (sym is) ∙ sym (found_index k (place_of k ms) a.0 a.1) ∙ ap (λ m. place_of m ms) same ∙ here
gathered_at ms (suc n) k (suc i) ps h e lt here =
    let a = bind_ok (found_place k (place_of k ms)) (λ q. gathered ms n (suc k) >>= λ qs. Ok (q ∷ qs)) ps e in
    let b = bind_ok (gathered ms n (suc k)) (λ qs. Ok (a.0 ∷ qs)) ps a.2 in
    let is : a.0 ∷ b.0 ≡ ps = cc b.2 in
    let further : i + suc k ≡ suc i + k = omega arith in
    ap (λ qs. slice_get qs (suc i)) (sym is) ∙ gathered_at ms n (suc k) i b.0 h b.1 (omega arith) (ap (λ m. place_of m ms) further ∙ here)

pub places-length : (j : Tree) (n : ℕ) (ps : List HolePlace) → places j n ≡ Ok ps → length ps ≡ n
places-length j n ps e =
    let a = unless_ok (first_bad n (all_marks j)) bad_hole _ ps e in
    let b = unless_ok (first_twice [] (indexes (all_marks j))) twice _ ps a.1 in
    gathered_length (all_marks j) n 0 ps b.1

-- a mark stands at the place of its index
mark_at : (j : Tree) (n : ℕ) (ps : List HolePlace) (ys : List Mark) (m : Mark) (zs : List Mark) → places j n ≡ Ok ps → all_marks j ≡ ys ++ m ∷ zs → (i : ℕ) × (m.index ≡ Some i) × (i < n) × (slice_get ps i ≡ Some m.place)
mark_at j n ps ys m zs e split =
    let a = unless_ok (first_bad n (all_marks j)) bad_hole _ ps e in
    let b = unless_ok (first_twice [] (indexes (all_marks j))) twice _ ps a.1 in
    let good = good_index n m (not_bad n ys m zs (ap (first_bad n) (sym split) ∙ a.0)) in
    let listed : indexes (all_marks j) ≡ indexes ys ++ good.0 ∷ indexes zs = ap indexes split ∙ indexes-append ys (m ∷ zs) ∙ ap (λ o. indexes ys ++ cons_option o (indexes zs)) good.1 in
    let once = not_before [] (indexes ys) (indexes zs) good.0 (ap (first_twice []) (sym listed) ∙ b.0) in
    let place : place_of good.0 (all_marks j) ≡ Some m.place = ap (place_of good.0) split ∙ first_place good.0 ys m zs once.1 good.1 in
    let here : place_of (good.0 + 0) (all_marks j) ≡ Some m.place = let zero_more : good.0 + 0 ≡ good.0 = omega arith in ap (λ i. place_of i (all_marks j)) zero_more ∙ place in
    (good.0, good.1, good.2, gathered_at (all_marks j) n 0 good.0 ps m.place b.1 good.2 here)

-- ---- fitting values

unfit_step : (b : Bool) (k : ℕ) (o : Option ℕ) → (if b then Some k else o) ≡ None → (b ≡ false) × (o ≡ None)
unfit_step true k o e = cc
unfit_step false k o e = (refl, e)

fits_at : (i k : ℕ) (hs : List HolePlace) (vs : List Tree) (h : HolePlace) → first_unfit k hs vs ≡ None → slice_get hs i ≡ Some h → i < length vs → is_unfit h (value_at vs i) ≡ false
fits_at i k [] vs h none here lt = cc
fits_at i k (g ∷ hs) [] h none here lt = absurd (omega arith)
fits_at zero k (g ∷ hs) (v ∷ vs) h none here lt =
    let is : g ≡ h = cc here in
    ap (λ p. is_unfit p v) (sym is) ∙ (unfit_step (is_unfit g v) k (first_unfit (suc k) hs vs) none).0
fits_at (suc i) k (g ∷ hs) (v ∷ vs) h none here lt = fits_at i (suc k) hs vs h (unfit_step (is_unfit g v) k (first_unfit (suc k) hs vs) none).1 here (omega arith)

-- ---- the marks of text holes

abbrev has_part : Mark → Bool
has_part m = is_some m.place.part

all-append : {X : Type 0} (f : X → Bool) (xs ys : List X) → list_all f xs ≡ true → list_all f ys ≡ true → list_all f (xs ++ ys) ≡ true
all-append f [] ys a b = b
all-append f (x ∷ xs) ys a b = let p = and_parts (f x) _ a in and_from _ _ p.0 (all-append f xs ys p.1 b)

one_part : (q : Pointer) (i : ℕ) (o : Option ℕ) → list_all has_part (text_mark q i o) ≡ true
one_part q i None = refl
one_part q i (Some n) = refl

pieces_parts : (q : Pointer) (look : List ℕ → Option ℕ) (i : ℕ) (ps : List (List ℕ)) → list_all has_part (piece_marks q look i ps) ≡ true
pieces_parts q look i [] = refl
pieces_parts q look i (p ∷ ps) = all-append has_part (text_mark q i (look p)) (piece_marks q look (suc i) ps) (one_part q i (look p)) (pieces_parts q look (suc i) ps)

words_parts : (q : Pointer) (look : List ℕ → Option ℕ) (cut : List ℕ → List (List ℕ)) (r : Result Tree Cause) → list_all has_part (words_marks (λ s. piece_marks q look 0 (cut s)) r) ≡ true
words_parts q look cut (Err why) = refl
words_parts q look cut (Ok null) = refl
words_parts q look cut (Ok (truth b)) = refl
words_parts q look cut (Ok (whole z)) = refl
words_parts q look cut (Ok (words s)) = pieces_parts q look 0 (cut s)
words_parts q look cut (Ok (items ts)) = refl
words_parts q look cut (Ok (members ms)) = refl

texts_parts : (j : Tree) → list_all has_part (text_marks j) ≡ true
texts_parts j =
    all-append has_part (words_marks (λ s. piece_marks path_pointer text_hole 0 (path_pieces s)) (at j path_pointer)) (words_marks (λ s. piece_marks query_pointer pair_hole 0 (query_pieces s)) (at j query_pointer))
    (words_parts path_pointer text_hole path_pieces (at j path_pointer)) (words_parts query_pointer pair_hole query_pieces (at j query_pointer))

all_at : {X : Type 0} (f : X → Bool) (ys : List X) (x : X) (zs : List X) → list_all f (ys ++ x ∷ zs) ≡ true → f x ≡ true
all_at f [] x zs e = (and_parts (f x) _ e).0
all_at f (y ∷ ys) x zs e = all_at f ys x zs (and_parts (f y) _ e).1

has_text : (vs : List Tree) (m : Mark) (i : ℕ) → m.index ≡ Some i → has_part m ≡ true → is_unfit m.place (value_at vs i) ≡ false → has_words vs m ≡ true
has_text vs m i index part fit = ap (has_words_at vs) index ∙ by (is_some m.place.part) (is_words (λ s. true) (value_at vs i)) part fit
  where
    by : (a b : Bool) → a ≡ true → (a && not b) ≡ false → b ≡ true
    by true true ea e = refl
    by true false ea e = cc
    by false b ea e = cc

pub fits_fill : (j : Tree) (vs : List Tree) (hs : List HolePlace) → places j (length vs) ≡ Ok hs → first_unfit 0 hs vs ≡ None → fill_tree vs j ≡ Some (fill_all vs j)
fits_fill j vs hs e none = ap (λ b. if b then Some (fill_all vs j) else None) (all_from (has_words vs) [] (text_marks j) each)
  where
    each : (ys : List Mark) (m : Mark) (zs : List Mark) → text_marks j ≡ ys ++ m ∷ zs → has_words vs m ≡ true
    each ys m zs split =
        let objects = map object_mark (object_marks j) in
        let whole_split : all_marks j ≡ ys ++ m ∷ (zs ++ objects) = ap (λ ks. ks ++ objects) split ∙ append_assoc ys (m ∷ zs) objects in
        let there = mark_at j (length vs) hs ys m (zs ++ objects) e whole_split in
        has_text vs m there.0 there.1 (all_at has_part ys m zs (ap (list_all has_part) (sym split) ∙ texts_parts j)) (fits_at there.0 0 hs vs m.place none there.3 there.2)

-- ---- what filling comes to

fits_depth : (t : Tree) → depth t ≤ 127 → filled_or_deep t ≡ Ok t
fits_depth t low = ap (λ b. if b then Ok t else Err too_deep) (le-leb (depth t) 127 low)

past_depth : (t : Tree) → 127 < depth t → filled_or_deep t ≡ Err too_deep
past_depth t deep = by (nat_le (depth t) 127) refl
  where
    by : (b : Bool) → nat_le (depth t) 127 ≡ b → (if b then Ok t else Err too_deep) ≡ Err too_deep
    by true e = let low = leb-true (depth t) 127 e in absurd (omega arith)
    by false e = refl

pub filling-filled : (hs : List HolePlace) (vs : List Tree) (j d t : Tree) → first_unfit 0 hs vs ≡ None → t ≡ fill_all vs j → d ≡ t → depth d ≤ 127 → filling hs vs j ≡ Ok d
filling-filled hs vs j d t none is same low =
    ap (λ o. unless_some o not_text (filled_or_deep (fill_all vs j))) none ∙ ap filled_or_deep (sym (same ∙ is)) ∙ fits_depth d low

pub filling-deep : (hs : List HolePlace) (vs : List Tree) (j t : Tree) → first_unfit 0 hs vs ≡ None → t ≡ fill_all vs j → 127 < depth t → filling hs vs j ≡ Err too_deep
filling-deep hs vs j t none is deep = ap (λ o. unless_some o not_text (filled_or_deep (fill_all vs j))) none ∙ ap filled_or_deep (sym is) ∙ past_depth t deep
