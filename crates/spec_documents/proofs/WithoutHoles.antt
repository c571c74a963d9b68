-- A tree without holes is its own fill.
use Rattle.std.proofs.Common.{◌≡◌, ℕ, suc, List, [], ◌∷◌, ◌++◌, map, Bool, true, false, Option, Some, None, Result, Ok, Err, refl, ap, ap₂, ◌∙◌, is_some, if◌then◌else◌, codes}
use Rattle.std.specs.List.{list_any, list_all}
use Rattle.spec_documents.specs.Tree.{Tree, null, truth, whole, words, items, members, Trees, no_items, item, Members, no_members, member}
use Rattle.spec_documents.specs.Place.{Pointer, Cause, child, at, with}
use Rattle.spec_documents.specs.Text.{index_text}
use Rattle.spec_documents.specs.Hole.{has_mark, is_marked, hole_members, hole_index, fill, fill_items, fill_members, Mark, Marks, beneath, marks, items_marks, members_marks, mark_here, marks_in, value_marks, list_marks, object_marks, text_hole, pair_hole, path_pieces, query_pieces, path_pointer, query_pointer, text_mark, piece_marks, words_marks, text_marks, object_mark, all_marks, adjusted, adjust, on_words, map_items, on_items, filled_path, filled_query, fill_lines, fill_here, fill_objects, has_words, fill_all, fill_tree}
use Rattle.spec_documents.proofs.FillLemmas.{fill-unmarked}
use Rattle.spec_documents.proofs.SameLemmas.{with-same}
use Rattle.spec_documents.proofs.TextLemmas.{path-unheld, query-unheld}

append_none : {X : Type 0} (xs ys : List X) → xs ++ ys ≡ [] → (xs ≡ []) × (ys ≡ [])
append_none [] ys e = (refl, e)
append_none (x ∷ xs) ys e = cc

map_none : {X Y : Type 0} (f : X → Y) (xs : List X) → map f xs ≡ [] → xs ≡ []
map_none f [] e = refl
map_none f (x ∷ xs) e = cc

beneath_none : (x : List ℕ) (ms : Marks) → beneath x ms ≡ [] → ms ≡ []
beneath_none x ms e = map_none (λ m. (x ∷ m.0, m.1)) ms e

-- ---- node by node

members_by : (vs : List Tree) (ms : Members) (b : Bool) → has_mark ms ≡ b → ◌≡◌ {A = Marks} (if b then ([], hole_members ms) ∷ [] else members_marks ms) []
    → (members_marks ms ≡ [] → fill_members vs ms ≡ ms) → fill vs (members ms) ≡ members ms
members_by vs ms true q e h = cc
members_by vs ms false q e h = fill-unmarked vs ms q ∙ ap members (h e)

mutual
  pub fill-unheld : (vs : List Tree) (t : Tree) → marks t ≡ [] → fill vs t ≡ t
  fill-unheld vs null e = refl
  fill-unheld vs (truth b) e = refl
  fill-unheld vs (whole z) e = refl
  fill-unheld vs (words s) e = refl
  fill-unheld vs (items ts) e = ap items (items-unheld vs 0 ts e)
  fill-unheld vs (members ms) e = members_by vs ms (has_mark ms) refl e (λ d. members-unheld vs ms d)

  items-unheld : (vs : List Tree) (i : ℕ) (ts : Trees) → items_marks i ts ≡ [] → fill_items vs ts ≡ ts
  items-unheld vs i no_items e = refl
  items-unheld vs i (item t ts) e =
      let h = append_none (beneath (index_text i) (marks t)) (items_marks (suc i) ts) e in
      ap₂ item (fill-unheld vs t (beneath_none (index_text i) (marks t) h.0)) (items-unheld vs (suc i) ts h.1)

  members-unheld : (vs : List Tree) (ms : Members) → members_marks ms ≡ [] → fill_members vs ms ≡ ms
  members-unheld vs no_members e = refl
  members-unheld vs (member k t ms) e =
      let h = append_none (beneath k (marks t)) (members_marks ms) e in
      ap₂ (member k) (fill-unheld vs t (beneath_none k (marks t) h.0)) (members-unheld vs ms h.1)

here_by : (vs : List Tree) (t : Tree) (b : Bool) → ◌≡◌ {A = Marks} (if b then ([], hole_index t) ∷ [] else []) [] → (if b then fill vs t else t) ≡ t
here_by vs t true e = cc
here_by vs t false e = refl

here-unheld : (vs : List Tree) (t : Tree) → mark_here t ≡ [] → fill_here vs t ≡ t
here-unheld vs t e = here_by vs t (is_marked t) e

-- ---- at a place

adjust_ok : (f : Tree → Tree) (p : Pointer) (t u : Tree) → at t p ≡ Ok u → f u ≡ u → adjust p f t ≡ t
adjust_ok f p t u e same = ap (adjusted f p t) e ∙ ap (λ r. with t p r) same ∙ with-same t p u e

adjust_none : (f : Tree → Tree) (p : Pointer) (t : Tree) (why : Cause) → at t p ≡ Err why → adjust p f t ≡ t
adjust_none f p t why e = ap (adjusted f p t) e

at_one : (k : List ℕ) (t u : Tree) → child k t ≡ Ok u → at t (k ∷ []) ≡ Ok u
at_one k t u e = rw e

at_none : (k : List ℕ) (t : Tree) (why : Cause) → child k t ≡ Err why → at t (k ∷ []) ≡ Err why
at_none k t why e = rw e

-- where nothing is found in a child, and the change leaves such a child, nothing changes
child-unheld : (look : Tree → Marks) (f : Tree → Tree) → ((u : Tree) → look u ≡ [] → f u ≡ u) → (k : List ℕ) (t : Tree) (r : Result Tree Cause) → child k t ≡ r → marks_in look r ≡ [] → adjust (k ∷ []) f t ≡ t
child-unheld look f h k t (Ok u) e m = adjust_ok f (k ∷ []) t u (at_one k t u e) (h u m)
child-unheld look f h k t (Err why) e m = adjust_none f (k ∷ []) t why (at_none k t why e)

values-unheld : (look : Tree → Marks) (f : Tree → Tree) → ((u : Tree) → look u ≡ [] → f u ≡ u) → (i : ℕ) (ts : Trees) → value_marks look i ts ≡ [] → map_items (adjust (codes "value" ∷ []) f) ts ≡ ts
values-unheld look f h i no_items e = refl
values-unheld look f h i (item t ts) e =
    let inner = marks_in look (child (codes "value") t) in
    let parts = append_none (beneath (index_text i) (beneath (codes "value") inner)) (value_marks look (suc i) ts) e in
    let none = beneath_none (codes "value") inner (beneath_none (index_text i) (beneath (codes "value") inner) parts.0) in
    ap₂ item (child-unheld look f h (codes "value") t (child (codes "value") t) refl none) (values-unheld look f h (suc i) ts parts.1)

list-unheld : (look : Tree → Marks) (f : Tree → Tree) → ((u : Tree) → look u ≡ [] → f u ≡ u) → (t : Tree) → list_marks look t ≡ [] → on_items (adjust (codes "value" ∷ []) f) t ≡ t
list-unheld look f h null e = refl
list-unheld look f h (truth b) e = refl
list-unheld look f h (whole z) e = refl
list-unheld look f h (words s) e = refl
list-unheld look f h (items ts) e = ap items (values-unheld look f h 0 ts e)
list-unheld look f h (members ms) e = refl

objects-unheld : (vs : List Tree) (j : Tree) → object_marks j ≡ [] → fill_objects vs j ≡ j
objects-unheld vs j e =
    let headers = marks_in (list_marks mark_here) (child (codes "headers") j) in
    let payload = marks_in (list_marks marks) (child (codes "payload") j) in
    let parts = append_none (beneath (codes "headers") headers) (beneath (codes "payload") payload) e in
    let one = child-unheld (list_marks marks) (on_items (adjust (codes "value" ∷ []) (fill vs))) (list-unheld marks (fill vs) (fill-unheld vs)) (codes "payload") j (child (codes "payload") j) refl (beneath_none (codes "payload") payload parts.1) in
    let two = child-unheld (list_marks mark_here) (on_items (adjust (codes "value" ∷ []) (fill_here vs))) (list-unheld mark_here (fill_here vs) (here-unheld vs)) (codes "headers") j (child (codes "headers") j) refl (beneath_none (codes "headers") headers parts.0) in
    ap (adjust (codes "headers" ∷ []) (on_items (adjust (codes "value" ∷ []) (fill_here vs)))) one ∙ two

-- ---- the two texts

mark_none : (q : Pointer) (i : ℕ) (o : Option ℕ) → text_mark q i o ≡ [] → is_some o ≡ false
mark_none q i None e = refl
mark_none q i (Some n) e = cc

pieces_none : (q : Pointer) (look : List ℕ → Option ℕ) (i : ℕ) (ps : List (List ℕ)) → piece_marks q look i ps ≡ [] → list_any (λ x. is_some (look x)) ps ≡ false
pieces_none q look i [] e = refl
pieces_none q look i (p ∷ ps) e =
    let h = append_none (text_mark q i (look p)) (piece_marks q look (suc i) ps) e in
    rw (mark_none q i (look p) h.0) (pieces_none q look (suc i) ps h.1)

words-unheld : (f : List ℕ → List ℕ) (look : List ℕ → List Mark) → ((s : List ℕ) → look s ≡ [] → f s ≡ s) → (p : Pointer) (j : Tree) (r : Result Tree Cause) → at j p ≡ r → words_marks look r ≡ [] → adjust p (on_words f) j ≡ j
words-unheld f look h p j (Err why) e m = adjust_none (on_words f) p j why e
words-unheld f look h p j (Ok null) e m = adjust_ok (on_words f) p j null e refl
words-unheld f look h p j (Ok (truth b)) e m = adjust_ok (on_words f) p j (truth b) e refl
words-unheld f look h p j (Ok (whole z)) e m = adjust_ok (on_words f) p j (whole z) e refl
words-unheld f look h p j (Ok (words s)) e m = adjust_ok (on_words f) p j (words s) e (ap words (h s m))
words-unheld f look h p j (Ok (items ts)) e m = adjust_ok (on_words f) p j (items ts) e refl
words-unheld f look h p j (Ok (members ms)) e m = adjust_ok (on_words f) p j (members ms) e refl

lines-unheld : (vs : List Tree) (j : Tree) → text_marks j ≡ [] → fill_lines vs j ≡ j
lines-unheld vs j e =
    let path = λ (s : List ℕ). piece_marks path_pointer text_hole 0 (path_pieces s) in
    let query = λ (s : List ℕ). piece_marks query_pointer pair_hole 0 (query_pieces s) in
    let parts = append_none (words_marks path (at j path_pointer)) (words_marks query (at j query_pointer)) e in
    let one = words-unheld (filled_query vs) query (λ s d. query-unheld vs s (pieces_none query_pointer pair_hole 0 (query_pieces s) d)) query_pointer j (at j query_pointer) refl parts.1 in
    let two = words-unheld (filled_path vs) path (λ s d. path-unheld vs s (pieces_none path_pointer text_hole 0 (path_pieces s) d)) path_pointer j (at j path_pointer) refl parts.0 in
    ap (adjust path_pointer (on_words (filled_path vs))) one ∙ two

fits_none : (vs : List Tree) (j : Tree) (ms : List Mark) → ms ≡ [] → fill_all vs j ≡ j → (if list_all (has_words vs) ms then Some (fill_all vs j) else None) ≡ Some j
fits_none vs j [] e same = ap Some same
fits_none vs j (m ∷ ms) e same = cc

pub fill_tree-unheld : (vs : List Tree) (j : Tree) → all_marks j ≡ [] → fill_tree vs j ≡ Some j
fill_tree-unheld vs j e =
    let parts = append_none (text_marks j) (map object_mark (object_marks j)) e in
    let objects = objects-unheld vs j (map_none object_mark (object_marks j) parts.1) in
    fits_none vs j (text_marks j) parts.0 (ap (fill_lines vs) objects ∙ lines-unheld vs j parts.0)
