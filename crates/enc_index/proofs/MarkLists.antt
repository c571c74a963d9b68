-- Marks beneath a place, one more at a time.
use Rattle.std.proofs.Common.{◌≡◌, ℕ, suc, List, [], ◌∷◌, ◌++◌, map, Option, Some, None, Result, Ok, Err, option_map, refl, sym, ap, ap₂, ◌∙◌, append_assoc}
use Rattle.std.specs.Prelude.{codes}
use Rattle.std.specs.Result.{result_ok}
use Rattle.spec_documents.specs.Tree.{Tree, items, Trees, item, trees}
use Rattle.spec_documents.specs.Fields.{Field, fields}
use Rattle.spec_documents.specs.Place.{Pointer, Cause, at, child}
use Rattle.spec_documents.specs.Text.{index_text}
use Rattle.spec_documents.specs.Hole.{Mark, Marks, beneath, marks, items_marks, members_marks, marks_in, list_marks, value_marks, object_mark, piece_marks, object_marks, text_marks, all_marks, words_marks, path_pointer, query_pointer, path_pieces, query_pieces, text_hole, pair_hole, mark_here}
use Rattle.doc_forms.specs.Capped.{capped}
use Rattle.enc_index.specs.Marks.{held, under, token_of, tokens}
use Rattle.enc_index.specs.declared.walk.Step.{Step}

pub map-append : {X Y : Type 0} (f : X → Y) (xs ys : List X) → map f (xs ++ ys) ≡ map f xs ++ map f ys
map-append f [] ys = refl
map-append f (x ∷ xs) ys = ap (λ r. f x ∷ r) (map-append f xs ys)

pub tokens-step : (path : List Step) (s : Step) → tokens (path ++ s ∷ []) ≡ tokens path ++ token_of s ∷ []
tokens-step path s = map-append token_of path (s ∷ [])

abbrev mark_at : Option ℕ → Pointer → Mark
mark_at i p = record { place = record { pointer = p; part = None }; index = option_map capped i }

pub under-beneath : (front : Pointer) (x : List ℕ) (ms : Marks) → map (under front) (beneath x ms) ≡ map (under (front ++ x ∷ [])) ms
under-beneath front x [] = refl
under-beneath front x (m ∷ ms) = ap₂ ◌∷◌ (ap (mark_at m.1) (sym (append_assoc front (x ∷ []) m.0))) (under-beneath front x ms)

pub held-objects : (ms : Marks) → map held (map object_mark ms) ≡ map (under []) ms
held-objects [] = refl
held-objects (m ∷ ms) = ap (λ r. under [] m ∷ r) (held-objects ms)

-- what is added goes before what is left
pub more : (v u a b w : List Mark) → u ≡ v ++ a → v ++ (a ++ b) ≡ w → u ++ b ≡ w
more v u a b w grown whole = ap (λ r. r ++ b) grown ∙ append_assoc v a b ∙ whole

-- ---- one item, one member more

pub item_more : (front : Pointer) (i n : ℕ) (t : Tree) (all rest : List Tree) (v u w : List Mark) → n ≡ suc i → all ≡ t ∷ rest
    → u ≡ v ++ map (under (front ++ index_text i ∷ [])) (marks t) → v ++ map (under front) (items_marks i (trees all)) ≡ w
    → u ++ map (under front) (items_marks n (trees rest)) ≡ w
item_more front i n t all rest v u w next cut grown whole =
    let here : map (under front) (items_marks i (trees all)) ≡ map (under (front ++ index_text i ∷ [])) (marks t) ++ map (under front) (items_marks (suc i) (trees rest)) =
    ap (λ ts. map (under front) (items_marks i (trees ts))) cut
    ∙ map-append (under front) (beneath (index_text i) (marks t)) (items_marks (suc i) (trees rest))
    ∙ ap (λ r. r ++ map (under front) (items_marks (suc i) (trees rest))) (under-beneath front (index_text i) (marks t)) in
    ap (λ m. u ++ map (under front) (items_marks m (trees rest))) next
    ∙ more v u _ (map (under front) (items_marks (suc i) (trees rest))) w grown (ap (λ r. v ++ r) (sym here) ∙ whole)

pub member_more : (front : Pointer) (k : List ℕ) (t : Tree) (all rest : List Field) (v u w : List Mark) → all ≡ (k, t) ∷ rest
    → u ≡ v ++ map (under (front ++ k ∷ [])) (marks t) → v ++ map (under front) (members_marks (fields all)) ≡ w
    → u ++ map (under front) (members_marks (fields rest)) ≡ w
member_more front k t all rest v u w cut grown whole =
    let here : map (under front) (members_marks (fields all)) ≡ map (under (front ++ k ∷ [])) (marks t) ++ map (under front) (members_marks (fields rest)) =
    ap (λ es. map (under front) (members_marks (fields es))) cut
    ∙ map-append (under front) (beneath k (marks t)) (members_marks (fields rest))
    ∙ ap (λ r. r ++ map (under front) (members_marks (fields rest))) (under-beneath front k (marks t)) in
    more v u _ (map (under front) (members_marks (fields rest))) w grown (ap (λ r. v ++ r) (sym here) ∙ whole)

-- an item of a list whose items have values; the path is the list's name, the index and `value`
pub value_more : (look : Tree → Marks) (name value : List ℕ) (i n : ℕ) (t : Tree) (all rest : List Tree) (v u w : List Mark) → n ≡ suc i → all ≡ t ∷ rest
    → u ≡ v ++ map (under (name ∷ index_text i ∷ value ∷ [])) (marks_in look (child value t))
    → ((i : ℕ) (t : Tree) (ts : Trees) → value_marks look i (item t ts) ≡ beneath (index_text i) (beneath value (marks_in look (child value t))) ++ value_marks look (suc i) ts)
    → v ++ map (under (name ∷ [])) (value_marks look i (trees all)) ≡ w
    → u ++ map (under (name ∷ [])) (value_marks look n (trees rest)) ≡ w
value_more look name value i n t all rest v u w next cut grown is whole =
    let marked = marks_in look (child value t) in
    let here : map (under (name ∷ [])) (value_marks look i (trees all)) ≡ map (under (name ∷ index_text i ∷ value ∷ [])) marked ++ map (under (name ∷ [])) (value_marks look (suc i) (trees rest)) =
    ap (λ ts. map (under (name ∷ [])) (value_marks look i (trees ts))) cut
    ∙ ap (map (under (name ∷ []))) (is i t (trees rest))
    ∙ map-append (under (name ∷ [])) (beneath (index_text i) (beneath value marked)) (value_marks look (suc i) (trees rest))
    ∙ ap (λ r. r ++ map (under (name ∷ [])) (value_marks look (suc i) (trees rest)))
    (under-beneath (name ∷ []) (index_text i) (beneath value marked) ∙ under-beneath (name ∷ index_text i ∷ []) value marked) in
    ap (λ m. u ++ map (under (name ∷ [])) (value_marks look m (trees rest))) next
    ∙ more v u _ (map (under (name ∷ [])) (value_marks look (suc i) (trees rest))) w grown (ap (λ r. v ++ r) (sym here) ∙ whole)

-- the list whose items have values
pub values_found : (look : Tree → Marks) (name : List ℕ) (r : Result Tree Cause) (ts : Trees) → Some (items ts) ≡ result_ok r
    → map (under []) (beneath name (marks_in (list_marks look) r)) ≡ map (under (name ∷ [])) (value_marks look 0 ts)
values_found look name (Err why) ts e = cc
values_found look name (Ok u) ts e =
    let is : u ≡ items ts = cc in
    ap (λ t. map (under []) (beneath name (list_marks look t))) is ∙ under-beneath [] name (value_marks look 0 ts)

pub three_steps : (p q r s : List Step) (a b c : Step) → p ≡ [] → q ≡ p ++ a ∷ [] → r ≡ q ++ b ∷ [] → s ≡ r ++ c ∷ [] → tokens s ≡ token_of a ∷ token_of b ∷ token_of c ∷ []
three_steps p q r s a b c ep eq er es = ap tokens (es ∙ ap (λ x. x ++ c ∷ []) (er ∙ ap (λ x. x ++ b ∷ []) (eq ∙ ap (λ x. x ++ a ∷ []) ep)))

-- ---- the whole walk

pub whole_walk : (a b c d ta tb th tp : List Mark) → a ≡ [] ++ ta → b ≡ a ++ tb → c ≡ b ++ th → d ≡ c ++ tp → d ≡ (ta ++ tb) ++ (th ++ tp)
whole_walk a b c d ta tb th tp ea eb ec ed =
    ed ∙ ap (λ r. r ++ tp) (ec ∙ ap (λ r. r ++ th) (eb ∙ ap (λ r. r ++ tb) ea)) ∙ append_assoc (ta ++ tb) th tp

pub held-all_marks : (j : Tree) (ms : List Mark)
    → ms ≡ (map held (words_marks (λ s. piece_marks path_pointer text_hole 0 (path_pieces s)) (at j path_pointer)) ++ map held (words_marks (λ s. piece_marks query_pointer pair_hole 0 (query_pieces s)) (at j query_pointer)))
    ++ (map (under []) (beneath (codes "headers") (marks_in (list_marks mark_here) (child (codes "headers") j))) ++ map (under []) (beneath (codes "payload") (marks_in (list_marks marks) (child (codes "payload") j))))
    → ms ≡ map held (all_marks j)
held-all_marks j ms e =
    let path = words_marks (λ s. piece_marks path_pointer text_hole 0 (path_pieces s)) (at j path_pointer) in
    let query = words_marks (λ s. piece_marks query_pointer pair_hole 0 (query_pieces s)) (at j query_pointer) in
    let headers = beneath (codes "headers") (marks_in (list_marks mark_here) (child (codes "headers") j)) in
    let payload = beneath (codes "payload") (marks_in (list_marks marks) (child (codes "payload") j)) in
    let texts : map held path ++ map held query ≡ map held (text_marks j) = sym (map-append held path query) in
    let objects : map (under []) headers ++ map (under []) payload ≡ map held (map object_mark (object_marks j)) = sym (map-append (under []) headers payload) ∙ sym (held-objects (object_marks j)) in
    e ∙ ap₂ ◌++◌ texts objects ∙ sym (map-append held (text_marks j) (map object_mark (object_marks j)))
