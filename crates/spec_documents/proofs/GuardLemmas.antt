-- Where the values of a block's text holes are texts, so are those of an allowed result.
use Rattle.std.proofs.Common.{◌≡◌, ℕ, zero, suc, ◌+◌, ◌<◌, ◌≤◌, List, [], ◌∷◌, ◌++◌, map, Bool, true, false, not, ◌||◌, Option, Some, None, Result, Ok, Err, refl, sym, ap, ◌∙◌, if◌then◌else◌, inl, inr, append_assoc, arith}
use Rattle.std.proofs.lemmas.Bool.{and_parts, and_from, or_right, cases_eq, eqb-true}
use Rattle.std.specs.Prelude.{◌⊎◌}
use Rattle.std.specs.List.{list_all, cons_option}
use Rattle.spec_documents.specs.Tree.{Tree, null, truth, whole, words, items, members}
use Rattle.spec_documents.specs.Place.{Pointer, Cause, ◌>>=◌, at}
use Rattle.spec_documents.specs.Hole.{HolePlace, Mark, Marks, bad_hole, twice, has_index, is_some_index, first_bad, indexes, first_twice, place_of, found_place, gathered, unless_some, all_marks, places, object_marks, object_mark, text_marks, text_mark, piece_marks, words_marks, path_pointer, query_pointer, path_pieces, query_pieces, text_hole, pair_hole, has_words, has_words_at}
use Rattle.spec_documents.proofs.TreeLemmas.{bind_ok}
use Rattle.spec_documents.proofs.PlaceLemmas.{no_part, found_index, not_before, indexes-append, first_place, not_bad, good_index, unless_ok}

-- two lists with the same places give each index the same place
gathered_same : (ms ns : List Mark) (n k : ℕ) (ps : List HolePlace) (i : ℕ) → gathered ms n k ≡ Ok ps → gathered ns n k ≡ Ok ps → k ≤ i → i < k + n → place_of i ms ≡ place_of i ns
gathered_same ms ns zero k ps i e d low high = absurd (omega arith)
gathered_same ms ns (suc n) k ps i e d low high =
    let a = bind_ok (found_place k (place_of k ms)) (λ q. gathered ms n (suc k) >>= λ qs. Ok (q ∷ qs)) ps e in
    let b = bind_ok (gathered ms n (suc k)) (λ qs. Ok (a.0 ∷ qs)) ps a.2 in
    let c = bind_ok (found_place k (place_of k ns)) (λ q. gathered ns n (suc k) >>= λ qs. Ok (q ∷ qs)) ps d in
    let f = bind_ok (gathered ns n (suc k)) (λ qs. Ok (c.0 ∷ qs)) ps c.2 in
    let one : a.0 ∷ b.0 ≡ ps = cc in
    let two : c.0 ∷ f.0 ≡ ps = cc in
    let both : a.0 ∷ b.0 ≡ c.0 ∷ f.0 = one ∙ sym two in
    let heads : a.0 ≡ c.0 = cc in
    let tails : f.0 ≡ b.0 = cc in
    same_by ms ns k i (found_index k _ a.0 a.1 ∙ ap Some heads ∙ sym (found_index k _ c.0 c.1)) (cases_eq i k)
    (λ ne. gathered_same ms ns n (suc k) b.0 i b.1 (f.1 ∙ ap Ok tails) (above k i low ne) (omega arith))
  where
    above : (k i : ℕ) → k ≤ i → (i ≡ k → ⊥) → suc k ≤ i
    above k i l ne = grind arith

    same_by : (ms ns : List Mark) (k i : ℕ) → place_of k ms ≡ place_of k ns → (i ≡ k) ⊎ (i ≡ k → ⊥) → ((i ≡ k → ⊥) → place_of i ms ≡ place_of i ns) → place_of i ms ≡ place_of i ns
    same_by ms ns k i here (inl e) more = ap (λ x. place_of x ms) e ∙ here ∙ ap (λ x. place_of x ns) (sym e)
    same_by ms ns k i here (inr ne) more = more ne

-- ---- each of a list

pub all-append : {X : Type 0} (g : X → Bool) (xs ys : List X) → list_all g xs ≡ true → list_all g ys ≡ true → list_all g (xs ++ ys) ≡ true
all-append g [] ys a b = b
all-append g (x ∷ xs) ys a b = let p = and_parts (g x) _ a in and_from _ _ p.0 (all-append g xs ys p.1 b)

all_split : {X : Type 0} (g : X → Bool) (ys : List X) (x : X) (zs : List X) → list_all g (ys ++ x ∷ zs) ≡ true → g x ≡ true
all_split g [] x zs e = (and_parts (g x) _ e).0
all_split g (y ∷ ys) x zs e = all_split g ys x zs (and_parts (g y) _ e).1

regroup : {X : Type 0} (front : List X) (x : X) (xs : List X) → front ++ x ∷ xs ≡ (front ++ x ∷ []) ++ xs
regroup front x xs = sym (append_assoc front (x ∷ []) xs)

pub all_from : {X : Type 0} (g : X → Bool) (front xs : List X) → ((ys : List X) (x : X) (zs : List X) → front ++ xs ≡ ys ++ x ∷ zs → g x ≡ true) → list_all g xs ≡ true
all_from g front [] h = refl
all_from g front (x ∷ xs) h =
    and_from _ _ (h front x xs refl) (all_from g (front ++ x ∷ []) xs (λ ys y zs e. h ys y zs (regroup front x xs ∙ e)))

-- ---- the place of a text hole is a place in a text

abbrev in_text : Mark → Bool
in_text m = not (no_part m.place.part)

piece_marks-in_text : (q : Pointer) (look : List ℕ → Option ℕ) (i : ℕ) (ps : List (List ℕ)) → list_all in_text (piece_marks q look i ps) ≡ true
piece_marks-in_text q look i [] = refl
piece_marks-in_text q look i (p ∷ ps) = all-append in_text (text_mark q i (look p)) (piece_marks q look (suc i) ps) (one (look p)) (piece_marks-in_text q look (suc i) ps)
  where
    one : (o : Option ℕ) → list_all in_text (text_mark q i o) ≡ true
    one None = refl
    one (Some n) = refl

words_marks-in_text : (look : List ℕ → List Mark) (r : Result Tree Cause) → ((s : List ℕ) → list_all in_text (look s) ≡ true) → list_all in_text (words_marks look r) ≡ true
words_marks-in_text look (Err why) h = refl
words_marks-in_text look (Ok null) h = refl
words_marks-in_text look (Ok (truth b)) h = refl
words_marks-in_text look (Ok (whole z)) h = refl
words_marks-in_text look (Ok (words s)) h = h s
words_marks-in_text look (Ok (items ts)) h = refl
words_marks-in_text look (Ok (members ms)) h = refl

text_marks-in_text : (j : Tree) → list_all in_text (text_marks j) ≡ true
text_marks-in_text j =
    all-append in_text (words_marks (λ s. piece_marks path_pointer text_hole 0 (path_pieces s)) (at j path_pointer)) (words_marks (λ s. piece_marks query_pointer pair_hole 0 (query_pieces s)) (at j query_pointer))
    (words_marks-in_text _ (at j path_pointer) (λ s. piece_marks-in_text path_pointer text_hole 0 (path_pieces s)))
    (words_marks-in_text _ (at j query_pointer) (λ s. piece_marks-in_text query_pointer pair_hole 0 (query_pieces s)))

-- ---- and its value is a text

abbrev fits_text : List Tree → Mark → Bool
fits_text vs m = no_part m.place.part || has_words vs m

all_fit : (vs : List Tree) (ms : List Mark) → list_all (has_words vs) ms ≡ true → list_all (fits_text vs) ms ≡ true
all_fit vs [] e = refl
all_fit vs (m ∷ ms) e = let p = and_parts (has_words vs m) _ e in and_from _ _ (or_right (no_part m.place.part) _ p.0) (all_fit vs ms p.1)

objects_fit : (vs : List Tree) (ms : Marks) → list_all (fits_text vs) (map object_mark ms) ≡ true
objects_fit vs [] = refl
objects_fit vs (m ∷ ms) = objects_fit vs ms

index_from : (i : ℕ) (o : Option ℕ) → is_some_index i o ≡ true → o ≡ Some i
index_from i None e = cc
index_from i (Some k) e = ap Some (sym (eqb-true i k e))

placed_fits : (vs : List Tree) (i : ℕ) (ms : List Mark) (p : HolePlace) → list_all (fits_text vs) ms ≡ true → place_of i ms ≡ Some p → no_part p.part ≡ false → has_words_at vs (Some i) ≡ true
placed_fits vs i [] p a e n = cc
placed_fits vs i (m ∷ ms) p a e n = by (has_index i m) refl e (placed_fits vs i ms p (and_parts (fits_text vs m) _ a).1)
  where
    by : (b : Bool) → has_index i m ≡ b → (if b then Some m.place else place_of i ms) ≡ Some p → (place_of i ms ≡ Some p → no_part p.part ≡ false → has_words_at vs (Some i) ≡ true) → has_words_at vs (Some i) ≡ true
    by false q e more = more e n
    by true q e more =
        let is : m.place ≡ p = cc in
        let none : no_part m.place.part ≡ false = ap (λ h. no_part h.part) is ∙ n in
        let fits : has_words vs m ≡ true = right (no_part m.place.part) (has_words vs m) none (and_parts (fits_text vs m) _ a).0 in
        ap (has_words_at vs) (sym (index_from i m.index q)) ∙ fits
      where
        right : (b c : Bool) → b ≡ false → (b || c) ≡ true → c ≡ true
        right true c d e = cc
        right false c d e = e

false_is : (b : Bool) → not b ≡ true → b ≡ false
false_is true e = cc
false_is false e = refl

pub texts_fit : (vs : List Tree) (j w : Tree) (n : ℕ) (ps : List HolePlace) → places j n ≡ Ok ps → places w n ≡ Ok ps → list_all (has_words vs) (text_marks j) ≡ true → list_all (has_words vs) (text_marks w) ≡ true
texts_fit vs j w n ps e d h =
    let a = unless_ok (first_bad n (all_marks j)) bad_hole (unless_some (first_twice [] (indexes (all_marks j))) twice (gathered (all_marks j) n 0)) ps e in
    let b = unless_ok (first_twice [] (indexes (all_marks j))) twice (gathered (all_marks j) n 0) ps a.1 in
    let c = unless_ok (first_bad n (all_marks w)) bad_hole (unless_some (first_twice [] (indexes (all_marks w))) twice (gathered (all_marks w) n 0)) ps d in
    let f = unless_ok (first_twice [] (indexes (all_marks w))) twice (gathered (all_marks w) n 0) ps c.1 in
    let fit = all-append (fits_text vs) (text_marks j) (map object_mark (object_marks j)) (all_fit vs (text_marks j) h) (objects_fit vs (object_marks j)) in
    all_from (has_words vs) [] (text_marks w) (λ ys x zs s.
    let objects = map object_mark (object_marks w) in
    let whole_list : all_marks w ≡ ys ++ x ∷ (zs ++ objects) = ap (λ l. l ++ objects) s ∙ append_assoc ys (x ∷ zs) objects in
    let good = good_index n x (not_bad n ys x (zs ++ objects) (ap (first_bad n) (sym whole_list) ∙ c.0)) in
    let listed : indexes (all_marks w) ≡ indexes ys ++ good.0 ∷ indexes (zs ++ objects) = ap indexes whole_list ∙ indexes-append ys (x ∷ (zs ++ objects)) ∙ ap (λ o. indexes ys ++ cons_option o (indexes (zs ++ objects))) good.1 in
    let once = not_before [] (indexes ys) (indexes (zs ++ objects)) good.0 (ap (first_twice []) (sym listed) ∙ f.0) in
    let place : place_of good.0 (all_marks w) ≡ Some x.place = ap (place_of good.0) whole_list ∙ first_place good.0 ys x (zs ++ objects) once.1 good.1 in
    let there = gathered_same (all_marks j) (all_marks w) n 0 ps good.0 b.1 f.1 (omega arith) (omega arith) ∙ place in
    let text = false_is _ (all_split in_text ys x zs (ap (list_all in_text) (sym s) ∙ text_marks-in_text w)) in
    ap (has_words_at vs) good.1 ∙ placed_fits vs good.0 (all_marks j) x.place fit there text)
