-- In the cleared message each secret place of the message is at a hole.
use Rattle.std.proofs.Common.{◌≡◌, ℕ, suc, ◌+◌, List, [], ◌∷◌, ◌++◌, map, length, Bool, true, false, not, ◌||◌, Option, Some, None, Ok, refl, sym, ap, ◌∙◌, subst, if◌then◌else◌, append_assoc, append-nil, arith}
use Rattle.std.specs.Prelude.{slice_get, option_map}
use Rattle.std.specs.List.{list_all}
use Rattle.std.proofs.lemmas.Bool.{and_parts, and_from}
use Rattle.std.proofs.lemmas.List.Folds.{list_all-append, list_all-map}
use Rattle.spec_documents.specs.Tree.{Tree, null, truth, whole, words, items, members, Trees, no_items, item, Members, no_members, member, get_item, get_member, is_ordered, are_ordered, are_members}
use Rattle.spec_documents.specs.Place.{Pointer, child, at, if_ok}
use Rattle.spec_documents.specs.Text.{index_text}
use Rattle.spec_documents.specs.Hole.{hole, goes_into, is_marked}
use Rattle.spec_documents.proofs.Digits.{index_number-index_text, is_index-index_text}
use Rattle.spec_messages.specs.Message.{Header, Head, request, response, Message, Kind, kind_of}
use Rattle.spec_messages.specs.Policy.{Policy, Spot, segment_spot, pair_spot, header_spot, body_spot, numbered, outermost, outermost_items, outermost_members, part_value, value_or_null, is_secret_segment, is_secret_pair, is_secret_header, is_secret_node, line_secrets, body_secrets, secrets, secret_places, spot_address, query_pairs}
use Rattle.spec_messages.specs.Changed.{segments_in}
use Rattle.spec_messages.specs.Split.{hide_each, hide_part, hide_pair, hide_header, hide, hide_items, hide_members, hide_head, hide_body, cleared}
use Rattle.spec_messages.specs.Block.{is_ordered_body}
use Rattle.spec_messages.proofs.SentLemmas.{hide-ordered}
use Rattle.spec_messages.proofs.LeafLemmas.{Looks, looks, in_order}
use Rattle.spec_exchange.specs.Rebuilding.{is_body_hole, is_hidden, first_that, in_clear}

-- ---- parts in a list

at-end : {X : Type 0} (done rest : List X) (x : X) → slice_get (done ++ x ∷ rest) (length done) ≡ Some x
at-end [] rest x = refl
at-end (y ∷ done) rest x = at-end done rest x

moved : {X : Type 0} (done rest : List X) (x : X) → (done ++ x ∷ []) ++ rest ≡ done ++ x ∷ rest
moved [] rest x = refl
moved (y ∷ done) rest x = ap (λ r. y ∷ r) (moved done rest x)

longer : {X : Type 0} (done : List X) (x : X) → length (done ++ x ∷ []) ≡ suc (length done)
longer [] x = refl
longer (y ∷ done) x = ap suc (longer done x)

-- where a place that holds a hole is seen, all that are picked are seen
picked : {X : Type 0} (test : ℕ → X → Bool) (put : ℕ → X → X) (spot : ℕ → Spot) (value : X → Tree) (seen : Spot → Bool) (all : List X)
    → ((i n : ℕ) (x : X) → slice_get all i ≡ Some (put n x) → seen (spot i) ≡ true)
    → (done : List X) (i n : ℕ) (xs : List X) → length done ≡ i → all ≡ done ++ hide_each test put i n xs
    → list_all (λ s. seen s.0) (numbered test spot value i xs) ≡ true
picked test put spot value seen all h done i n [] l e = refl
picked test put spot value seen all h done i n (x ∷ xs) l e =
    by (test i x) e (λ y m f. picked test put spot value seen all h (done ++ y ∷ []) (suc i) m xs (longer done y ∙ ap suc l) (f ∙ sym (moved done (hide_each test put (suc i) m xs) y)))
  where
    by : (b : Bool) → all ≡ done ++ (if b then put n x ∷ hide_each test put (suc i) (suc n) xs else x ∷ hide_each test put (suc i) n xs)
        → ((y : _) (m : ℕ) → all ≡ done ++ y ∷ hide_each test put (suc i) m xs → list_all (λ s. seen s.0) (numbered test spot value (suc i) xs) ≡ true)
        → list_all (λ s. seen s.0) (if b then (spot i, value x) ∷ numbered test spot value (suc i) xs else numbered test spot value (suc i) xs) ≡ true
    by true f next = and_from _ _ (h i n x (ap (λ k. slice_get all k) (sym l) ∙ (ap (λ a. slice_get a (length done)) f ∙ at-end done _ (put n x)))) (next (put n x) (suc n) f)
    by false f next = next x n f

-- ---- nodes of a body

abbrev is_hole_at : Tree → Pointer → Bool
is_hole_at t q = goes_into t q || if_ok is_marked (at t q)

or_left_more : (a b c : Bool) → (b || c) ≡ true → ((a || b) || c) ≡ true
or_left_more true b c h = refl
or_left_more false b c h = h

deeper : (t u : Tree) (x : List ℕ) (r : Pointer) → child x t ≡ Ok u → is_hole_at u r ≡ true → is_hole_at t (x ∷ r) ≡ true
deeper t u x r e h = rw e (or_left_more (is_marked t) (goes_into u r) (if_ok is_marked (at u r)) h)

item-child : (i : ℕ) (ts : Trees) (u : Tree) → get_item i ts ≡ Some u → child (index_text i) (items ts) ≡ Ok u
item-child i ts u e = rw (is_index-index_text i, index_number-index_text i, e) refl

member-child : (k : List ℕ) (ms : Members) (u : Tree) → get_member k ms ≡ Some u → child k (members ms) ≡ Ok u
member-child k ms u e = rw e refl

one-node : (seen : Pointer → Bool) (q : Pointer) (n : ℕ) (t u : Tree) (rest : List (Pointer × Tree)) (b : Bool)
    → ((r : Pointer) → is_hole_at (if b then hole n else u) r ≡ true → seen (q ++ r) ≡ true)
    → (b ≡ false → ((r : Pointer) → is_hole_at u r ≡ true → seen (q ++ r) ≡ true) → list_all (λ s. seen s.0) rest ≡ true)
    → list_all (λ s. seen s.0) (if b then (q, t) ∷ [] else rest) ≡ true
one-node seen q n t u rest true h k = and_from _ _ (ap seen (sym (append-nil q)) ∙ h [] refl) refl
one-node seen q n t u rest false h k = k refl h

ordered-if : (b : Bool) (n : ℕ) (u : Tree) → b ≡ false → is_ordered (if b then hole n else u) ≡ true → is_ordered u ≡ true
ordered-if false n u e h = h
ordered-if true n u e h = cc

plus-zero : (i : ℕ) → i + 0 ≡ i
plus-zero i = omega arith

zero-plus : (j : ℕ) → j ≡ 0 + j
zero-plus j = omega arith

plus-suc : (i j : ℕ) → i + suc j ≡ suc i + j
plus-suc i j = omega arith

mutual
  hidden-tree : (test : Pointer → Tree → Bool) (seen : Pointer → Bool) (q : Pointer) (n : ℕ) (t : Tree) → is_ordered t ≡ true
      → ((r : Pointer) → is_hole_at (hide test q n t) r ≡ true → seen (q ++ r) ≡ true) → list_all (λ s. seen s.0) (outermost test q t) ≡ true
  hidden-tree test seen q n null o h = one-node seen q n null null [] (test q null) h (λ e k. refl)
  hidden-tree test seen q n (truth b) o h = one-node seen q n (truth b) (truth b) [] (test q (truth b)) h (λ e k. refl)
  hidden-tree test seen q n (whole z) o h = one-node seen q n (whole z) (whole z) [] (test q (whole z)) h (λ e k. refl)
  hidden-tree test seen q n (words s) o h = one-node seen q n (words s) (words s) [] (test q (words s)) h (λ e k. refl)
  hidden-tree test seen q n (items ts) o h =
      one-node seen q n (items ts) (items (hide_items test q 0 n ts)) (outermost_items test q 0 ts) (test q (items ts)) h
      (λ e k. hidden-items test seen q (hide_items test q 0 n ts) k 0 n ts o (λ j u g. subst (λ k. get_item k (hide_items test q 0 n ts) ≡ Some u) (zero-plus j) g))
  hidden-tree test seen q n (members ms) o h =
      one-node seen q n (members ms) (members (hide_members test q n ms)) (outermost_members test q ms) (test q (members ms)) h
      (λ e k. hidden-members test seen q (hide_members test q n ms) k n ms o (looks _ (in_order _ (ordered-if (test q (members ms)) n (members (hide_members test q n ms)) e (hide-ordered test q n (members ms) o)))))

  hidden-items : (test : Pointer → Tree → Bool) (seen : Pointer → Bool) (q : Pointer) (all : Trees)
      → ((r : Pointer) → is_hole_at (items all) r ≡ true → seen (q ++ r) ≡ true)
      → (i n : ℕ) (ts : Trees) → are_ordered ts ≡ true → ((j : ℕ) (u : Tree) → get_item j (hide_items test q i n ts) ≡ Some u → get_item (i + j) all ≡ Some u)
      → list_all (λ s. seen s.0) (outermost_items test q i ts) ≡ true
  hidden-items test seen q all h i n no_items o g = refl
  hidden-items test seen q all h i n (item t ts) o g =
      let p = and_parts (is_ordered t) _ o in
      let here : get_item i all ≡ Some (hide test (q ++ index_text i ∷ []) n t) = subst (λ k. get_item k all ≡ Some (hide test (q ++ index_text i ∷ []) n t)) (plus-zero i) (g 0 (hide test (q ++ index_text i ∷ []) n t) refl) in
      list_all-append (λ s. seen s.0) (outermost test (q ++ index_text i ∷ []) t) (outermost_items test q (suc i) ts)
      ∙ and_from _ _
      (hidden-tree test seen (q ++ index_text i ∷ []) n t p.0 (λ r e. ap seen (append_assoc q (index_text i ∷ []) r) ∙ h (index_text i ∷ r) (deeper (items all) _ (index_text i) r (item-child i all _ here) e)))
      (hidden-items test seen q all h (suc i) (n + length (outermost test (q ++ index_text i ∷ []) t)) ts p.1 (λ j u e. subst (λ k. get_item k all ≡ Some u) (plus-suc i j) (g (suc j) u e)))

  hidden-members : (test : Pointer → Tree → Bool) (seen : Pointer → Bool) (q : Pointer) (all : Members)
      → ((r : Pointer) → is_hole_at (members all) r ≡ true → seen (q ++ r) ≡ true)
      → (n : ℕ) (ms : Members) → are_members ms ≡ true → Looks (hide_members test q n ms) all
      → list_all (λ s. seen s.0) (outermost_members test q ms) ≡ true
  hidden-members test seen q all h n no_members o l = refl
  hidden-members test seen q all h n (member k t ms) o l =
      let p = and_parts _ _ (and_parts _ _ o).1 in
      list_all-append (λ s. seen s.0) (outermost test (q ++ k ∷ []) t) (outermost_members test q ms)
      ∙ and_from _ _
      (hidden-tree test seen (q ++ k ∷ []) n t p.0 (λ r e. ap seen (append_assoc q (k ∷ []) r) ∙ h (k ∷ r) (deeper (members all) _ k r (member-child k all _ l.0) e)))
      (hidden-members test seen q all h (n + length (outermost test (q ++ k ∷ []) t)) ms p.1 l.1)

-- ---- the message

none-that : {X : Type 0} (test : X → Bool) (xs : List X) → list_all test xs ≡ true → first_that (λ x. not (test x)) xs ≡ None
none-that test [] e = refl
none-that test (x ∷ xs) e = let p = and_parts (test x) _ e in rw p.0 (none-that test xs p.1)

hidden-line : (pol : Policy) (k : Option ℕ) (kind : Kind) (h : Head) (c : Message) → c.head ≡ hide_head pol k kind h → list_all (λ s. is_hidden c s.0) (line_secrets pol k kind h) ≡ true
hidden-line pol k kind (response s) c e = refl
hidden-line pol k kind (request l) c e =
    list_all-append (λ s. is_hidden c s.0) (numbered (is_secret_segment pol k kind) segment_spot part_value 0 l.segments) (numbered (λ i. is_secret_pair pol k kind) pair_spot (λ p. value_or_null p.value) 0 l.query)
    ∙ and_from _ _
    (picked (is_secret_segment pol k kind) hide_part segment_spot part_value (is_hidden c) (segments_in c.head) (λ i n x f. rw f refl) [] 0 0 l.segments refl (ap segments_in e))
    (picked (λ i. is_secret_pair pol k kind) hide_pair pair_spot (λ p. value_or_null p.value) (is_hidden c) (query_pairs c.head) (λ i n x f. rw f refl) [] 0 _ l.query refl (ap query_pairs e))

hidden-body : (pol : Policy) (k : Option ℕ) (kind : Kind) (n : ℕ) (b : Option Tree) (c : Message) → is_ordered_body b ≡ true → c.body ≡ hide_body pol k kind n b
    → list_all (λ s. is_body_hole c.body s.0) (body_secrets pol k kind b) ≡ true
hidden-body pol k kind n None c o e = refl
hidden-body pol k kind n (Some t) c o e = hidden-tree (is_secret_node pol k kind t) (is_body_hole c.body) [] n t o (λ r h. ap (λ b. is_body_hole b r) e ∙ h)

pub all-hidden : (pol : Policy) (k : Option ℕ) (m : Message) → is_ordered_body m.body ≡ true → in_clear pol k (cleared pol k m) m ≡ None
all-hidden pol k m o =
    let c : Message = cleared pol k m in
    let ls = line_secrets pol k (kind_of m) m.head in
    let hs = numbered (λ i. is_secret_header pol k (kind_of m)) header_spot (λ (h : Header). part_value h.value) 0 m.headers in
    let bs = body_secrets pol k (kind_of m) m.body in
    let headers : list_all (λ s. is_hidden c s.0) hs ≡ true = picked (λ i. is_secret_header pol k (kind_of m)) hide_header header_spot (λ h. part_value h.value) (is_hidden c) c.headers (λ i n x f. rw f refl) [] 0 _ m.headers refl refl in
    let body : list_all (λ s. is_hidden c s.0) (map (λ s. (body_spot s.0, s.1)) bs) ≡ true = list_all-map (λ s. is_hidden c s.0) (λ s. (body_spot s.0, s.1)) bs ∙ hidden-body pol k (kind_of m) _ m.body c o refl in
    let all : list_all (λ s. is_hidden c s.0) (secrets pol k m) ≡ true =
    list_all-append (λ s. is_hidden c s.0) (ls ++ hs) (map (λ s. (body_spot s.0, s.1)) bs) ∙ and_from _ _ (list_all-append (λ s. is_hidden c s.0) ls hs ∙ and_from _ _ (hidden-line pol k (kind_of m) m.head c refl) headers) body in
    ap (option_map (spot_address pol k m)) (none-that (is_hidden c) (secret_places pol k m) (list_all-map (is_hidden c) (λ s. s.0) (secrets pol k m) ∙ all))
