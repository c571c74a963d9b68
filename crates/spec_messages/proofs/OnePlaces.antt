-- Each index of a block has its one place in the clear message.
use Rattle.std.proofs.Common.{◌≡◌, ℕ, zero, suc, ◌<◌, List, [], ◌∷◌, ◌++◌, length, Ordering, Less, Equal, Greater, Bool, true, false, not, ◌&&◌, ◌||◌, ◌==◌, Option, Some, None, Result, Ok, Err, refl, sym, ap, ap₂, ◌∙◌, subst, inl, inr, if◌then◌else◌, codes, slice_get, bytes_eq}
use Rattle.std.proofs.lemmas.Bool.{and_parts, and_from, or_from, or_left, or_right, eq-eqb}
use Rattle.std.proofs.lemmas.Option.{slice_get-get_or, slice_get_within}
use Rattle.std.proofs.lemmas.Slice.Eq.{bytes_eq-Decides}
use Rattle.std.specs.Prelude.{◌⊎◌, option_map, pos, get_or}
use Rattle.std.specs.Ordering.{match_ordering}
use Rattle.std.specs.List.{list_any}
use Rattle.spec_documents.specs.Tree.{Tree, name_cmp, null, truth, whole, words, items, members, Trees, get_item, get_member, tree_list}
use Rattle.spec_documents.specs.Place.{Pointer, no_place, found, ◌>>=◌, if_ok, is_index, index_number, child, at, last, is_prefix, is_beneath, read_pointer}
use Rattle.spec_documents.specs.Text.{index_text}
use Rattle.spec_documents.specs.Hole.{mark, hole, goes_into, HolePlace, object_mark, object_marks, text_marks, all_marks, places, path_pointer, query_pointer, first_bad, bad_hole, is_some_index}
use Rattle.spec_documents.specs.HolePlaces.{StandsIn, StandsAt}
use Rattle.spec_messages.specs.Message.{Message, all_read}
use Rattle.spec_messages.specs.Policy.{Spot, segment_spot, pair_spot, header_spot, body_spot, part_value, query_pairs, result_ok}
use Rattle.spec_messages.specs.Block.{Items, item_of, items_of, members_of, IsBlock, IsBody, IsGrown, is_apart, block_members, pointed, pointed_at}
use Rattle.spec_messages.specs.Changed.{segments_in}
use Rattle.spec_messages.specs.Standing.{body_standing, is_body_open, HoleAt, OnePlace}
use Rattle.spec_documents.proofs.TreeLemmas.{bind_ok, found_ok, chosen_ok}
use Rattle.spec_documents.proofs.Digits.{index_text-index_number, index_number-index_text}
use Rattle.spec_documents.proofs.FieldLemmas.{get_item-trees, trees-list}
use Rattle.spec_documents.proofs.FillLemmas.{open_step}
use Rattle.spec_documents.proofs.PlaceLemmas.{any_split, unless_ok}
use Rattle.spec_messages.proofs.LeafLemmas.{at-append}
use Rattle.spec_messages.proofs.MarkSound.{AllOf, Has, append-all, all-map, map-all_of, child_index, Good}
use Rattle.spec_messages.proofs.PlaceWords.{StandsMark, Below, all_below, all_stand, stands_has, is_index_of, places-are}
use Rattle.spec_messages.proofs.AllowedLemmas.{block_places}
use Rattle.spec_messages.proofs.BlockOrder.{block-ordered}
use Rattle.spec_messages.proofs.HoleSpots.{is_mark_of, is_text_spot}
use Rattle.spec_messages.proofs.HoleReads.{onto_some}
use Rattle.spec_messages.proofs.HeaderHoles.{value_pointer, is_header_spot}
use Rattle.spec_messages.proofs.ItemsOpen.{InList, in_split, all_item, item-open}
use Rattle.spec_messages.proofs.ValuesStay.{part_holes, pair_holes, header_holes, holes_part, holes_pair, holes_header, segment_of, pair_of_block, header_of_block, body_there, passing, unmarked_on}

-- ---- the message place of a hole's place

abbrev pub path_or_root : Option (Pointer × Tree) → Pointer
path_or_root None = []
path_or_root (Some i) = i.0

abbrev pub object_spot : Items → Pointer → Spot
object_spot is [] = body_spot []
object_spot is (a ∷ []) = body_spot []
object_spot is (a ∷ x ∷ []) = body_spot []
object_spot is (a ∷ x ∷ v ∷ r) = if bytes_eq a (codes "headers") then header_spot (index_number x) else body_spot (path_or_root (slice_get is (index_number x)) ++ r)

abbrev pub text_spot : Pointer → ℕ → Spot
text_spot q k = if bytes_eq (last q) (codes "path") then segment_spot k else pair_spot k

abbrev pub spot_in : Items → Pointer → Option ℕ → Spot
spot_in is q None = object_spot is q
spot_in is q (Some k) = text_spot q k

-- ---- marks

has_any : {X : Type 0} (f : X → Bool) (x : X) (xs : List X) → Has x xs → f x ≡ true → list_any f xs ≡ true
has_any f x [] h e = absurd h
has_any f x (y ∷ ys) (inl s) e = or_left (f y) _ (ap f s ∙ e)
has_any f x (y ∷ ys) (inr h) e = or_right (f y) _ (has_any f x ys h e)

objects_good : (j : Tree) (n : ℕ) (ps : List HolePlace) → places j n ≡ Ok ps → AllOf Good (object_marks j)
objects_good j n ps e =
    let a = unless_ok (first_bad n (all_marks j)) bad_hole _ ps e in
    let below = all_below n (all_marks j) a.0 in
    all-map (λ m. Below n (object_mark m)) Good (λ m h. (h.0, h.1)) (object_marks j)
    (map-all_of (Below n) object_mark (object_marks j) (append-all (Below n) (text_marks j) _ below).1)

-- a hole that stands somewhere is marked there
marked_by : (j : Tree) (n : ℕ) (c : Message) (q : Pointer) (o : Option ℕ) (i : ℕ) (g : HolePlace → Bool) → IsBlock j n c → StandsIn j q o i → g (record { pointer = q; part = o }) ≡ true → list_any (is_mark_of g i) (all_marks j) ≡ true
marked_by j n c q o i g b s e =
    let ps = block_places j n c b in
    has_any (is_mark_of g i) (record { place = record { pointer = q; part = o }; index = Some i }) (all_marks j)
    (stands_has j q o i (objects_good j n ps.0 ps.1) s) (and_from _ _ e (eq-eqb i i refl))

-- where a mark passes, its hole stands
stands_by : (j : Tree) (n : ℕ) (c : Message) (i : ℕ) (g : HolePlace → Bool) → IsBlock j n c → list_any (is_mark_of g i) (all_marks j) ≡ true → (h : HolePlace) × (g h ≡ true) × StandsAt j h i
stands_by j n c i g b e =
    let s = any_split (is_mark_of g i) (all_marks j) e in
    let p = and_parts (g s.1.place) _ s.4 in
    let all = subst (AllOf (StandsMark j)) s.3 (all_stand j (block-ordered j n c b)) in
    (s.1.place, p.0, (append-all (StandsMark j) s.0 (s.1 ∷ s.2) all).1.0 i (is_index_of i s.1.index p.1))

-- ---- lists that are read

read_at : {A B : Type 0} (f : A → Option B) (xs : List A) (ys : List B) (k : ℕ) (x : A) → all_read f xs ≡ Some ys → slice_get xs k ≡ Some x → (y : B) × (slice_get ys k ≡ Some y) × (f x ≡ Some y)
read_at f [] ys k x e g = cc
read_at f (a ∷ xs) ys zero x e g =
    let s = onto_some (f a) (all_read f xs) ys e in
    let same : a ≡ x = cc in
    (s.0, ap (λ l. slice_get l 0) s.4, ap f (sym same) ∙ s.2)
read_at f (a ∷ xs) ys (suc k) x e g =
    let s = onto_some (f a) (all_read f xs) ys e in
    let r = read_at f xs s.1 k x s.3 g in
    (r.0, ap (λ l. slice_get l (suc k)) s.4 ∙ r.1, r.2)

read_back : {A B : Type 0} (f : A → Option B) (xs : List A) (ys : List B) (k : ℕ) (y : B) → all_read f xs ≡ Some ys → slice_get ys k ≡ Some y → (x : A) × (slice_get xs k ≡ Some x) × (f x ≡ Some y)
read_back f [] ys k y e g =
    let is : [] ≡ ys = cc in
    let no : None ≡ Some y = ap (λ l. slice_get l k) is ∙ g in cc
read_back f (a ∷ xs) ys zero y e g =
    let s = onto_some (f a) (all_read f xs) ys e in
    let there : Some s.0 ≡ Some y = sym (ap (λ l. slice_get l 0) s.4) ∙ g in
    (a, refl, s.2 ∙ there)
read_back f (a ∷ xs) ys (suc k) y e g =
    let s = onto_some (f a) (all_read f xs) ys e in
    read_back f xs s.1 k y s.3 (sym (ap (λ l. slice_get l (suc k)) s.4) ∙ g)

item_list : (i : ℕ) (ts : Trees) → get_item i ts ≡ slice_get (tree_list ts) i
item_list i ts = ap (get_item i) (sym (trees-list ts)) ∙ get_item-trees i (tree_list ts)

get_in : {X : Type 0} (x : X) (xs : List X) (k : ℕ) → slice_get xs k ≡ Some x → (ys : List X) × (zs : List X) × (xs ≡ ys ++ x ∷ zs)
get_in x [] k e = cc
get_in x (y ∷ xs) zero e = let same : y ≡ x = cc in ([], xs, ap (λ z. z ∷ xs) same)
get_in x (y ∷ xs) (suc k) e = let r = get_in x xs k e in (y ∷ r.0, r.1, ap (λ z. y ∷ z) r.2)

get_middle : {X : Type 0} (ys zs : List X) (x : X) → slice_get (ys ++ x ∷ zs) (length ys) ≡ Some x
get_middle [] zs x = refl
get_middle (y ∷ ys) zs x = get_middle ys zs x

-- ---- items

value_by : (p : Option (List ℕ)) (v : Option Tree) (i : Pointer × Tree) → pointed p v ≡ Some i → v ≡ Some i.1
value_by None v i e = cc
value_by (Some s) None i e = cc
value_by (Some s) (Some v) i e = by (read_pointer s) e
  where
    by : (r : Result Pointer ℕ) → pointed_at r v ≡ Some i → Some v ≡ Some i.1
    by (Err k) e = cc
    by (Ok q) e = let is : (q, v) ≡ i = cc in ap (λ (x : Pointer × Tree). Some x.1) is

item_value : (u : Tree) (i : Pointer × Tree) → item_of u ≡ Some i → child (codes "value") u ≡ Ok i.1
item_value null i e = cc
item_value (truth b) i e = cc
item_value (whole z) i e = cc
item_value (words s) i e = cc
item_value (items ts) i e = cc
item_value (members ms) i e = ap (λ o. found o no_place) (value_by _ (get_member (codes "value") ms) i e)

-- what has items has them in its list
listed : (o : Option Tree) (is : Items) (k : ℕ) (i : Pointer × Tree) → items_of o ≡ Some is → slice_get is k ≡ Some i → (ts : Trees) × (o ≡ Some (items ts)) × (all_read item_of (tree_list ts) ≡ Some is)
listed None is k i e g =
    let none : [] ≡ is = cc in
    let no : None ≡ Some i = ap (λ l. slice_get l k) none ∙ g in cc
listed (Some null) is k i e g = cc
listed (Some (truth b)) is k i e g = cc
listed (Some (whole z)) is k i e g = cc
listed (Some (words s)) is k i e g = cc
listed (Some (items ts)) is k i e g = (ts, refl, e)
listed (Some (members ms)) is k i e g = cc

grown : (is : Items) (o : Option Tree) (k : ℕ) (i : Pointer × Tree) → IsBody is o → slice_get is k ≡ Some i → (t : Tree) × (o ≡ Some t) × IsGrown is t
grown [] o k i b g = cc
grown (x ∷ is) None k i b g = absurd b
grown (x ∷ is) (Some t) k i b g = (t, refl, b)

-- ---- open ways

whole_leaf : (m i : ℕ) (rest : Pointer) → at (whole (pos m)) rest ≡ Ok (hole i) → ⊥
whole_leaf m i [] e = cc
whole_leaf m i (x ∷ rest) e = cc

hole_leaf : (m i : ℕ) (y : List ℕ) (rest : Pointer) → at (hole m) (y ∷ rest) ≡ Ok (hole i) → ⊥
hole_leaf m i y rest e = by (name_cmp y mark) e
  where
    by : (o : Ordering) → (found (match_ordering o None (Some (whole (pos m))) None) no_place >>= λ u. at u rest) ≡ Ok (hole i) → ⊥
    by Less e = cc
    by Equal e = whole_leaf m i rest e
    by Greater e = cc

open_append : (t : Tree) (p r : Pointer) (v : Tree) → goes_into t p ≡ false → at t p ≡ Ok v → goes_into v r ≡ false → goes_into t (p ++ r) ≡ false
open_append t [] r v o e h = let same : t ≡ v = cc in ap (λ x. goes_into x r) same ∙ h
open_append t (x ∷ p) r v o e h =
    let c = bind_ok (child x t) (λ u. at u p) v e in
    let s = open_step t c.0 x p o c.1 in
    or_from _ _ s.0 (ap (if_ok (λ u. goes_into u (p ++ r))) c.1 ∙ open_append c.0 p r v s.1 c.2 h)

prefix_rest : (p q : Pointer) → is_prefix p q ≡ true → (r : Pointer) × (q ≡ p ++ r)
prefix_rest [] q e = (q, refl)
prefix_rest (x ∷ p) [] e = cc
prefix_rest (x ∷ p) (y ∷ q) e =
    let h = and_parts (bytes_eq x y) _ e in
    let r = prefix_rest p q h.1 in
    (r.0, ap₂ ◌∷◌ (sym ((bytes_eq-Decides x y).0 h.0)) r.1)

beneath_rest : (q p : Pointer) → is_beneath q p ≡ true → (y : List ℕ) × (rest : Pointer) × (p ≡ q ++ y ∷ rest)
beneath_rest [] [] e = cc
beneath_rest [] (y ∷ p) e = (y, p, refl)
beneath_rest (x ∷ q) [] e = cc
beneath_rest (x ∷ q) (y ∷ p) e =
    let h = and_parts (bytes_eq x y) _ e in
    let r = beneath_rest q p h.1 in
    (r.0, r.1, ap₂ ◌∷◌ (sym ((bytes_eq-Decides x y).0 h.0)) r.2)

prefix_itself : (q : Pointer) → is_prefix q q ≡ true
prefix_itself [] = refl
prefix_itself (x ∷ q) = and_from (bytes_eq x x) _ ((bytes_eq-Decides x x).1 refl) (prefix_itself q)

-- ---- from a place of the block to its message place

-- the item of a list at the token x
at_token : (k x : List ℕ) (r : Pointer) (j u : Tree) (ts : Trees) → at j (k ∷ []) ≡ Ok (items ts) → at j (k ∷ x ∷ r) ≡ Ok u
    → (v : Tree) × (is_index x ≡ true) × (get_item (index_number x) ts ≡ Some v) × (at v r ≡ Ok u)
at_token k x r j u ts there e =
    let c = bind_ok (child k j) (λ c. at c []) (items ts) there in
    let same : c.0 ≡ items ts = cc in
    let inner : at (items ts) (x ∷ r) ≡ Ok u = sym (ap (λ s. s >>= λ c. at c (x ∷ r)) (c.1 ∙ ap Ok same)) ∙ e in
    let d = bind_ok (child x (items ts)) (λ c. at c r) u inner in
    let g = chosen_ok (is_index x) (found (get_item (index_number x) ts) no_place) _ d.0 _ refl d.1 in
    (d.0, g.0, found_ok _ _ d.0 g.1, d.2)

to_token : (k : List ℕ) (y : ℕ) (r : Pointer) (j v u : Tree) (ts : Trees) → at j (k ∷ []) ≡ Ok (items ts) → get_item y ts ≡ Some v → at v r ≡ Ok u → at j (k ∷ index_text y ∷ r) ≡ Ok u
to_token k y r j v u ts there g e =
    let c = bind_ok (child k j) (λ c. at c []) (items ts) there in
    let same : c.0 ≡ items ts = cc in
    ap (λ s. s >>= λ c. at c (index_text y ∷ r)) (c.1 ∙ ap Ok same) ∙ (ap (λ s. s >>= λ c. at c r) (child_index y ts v g) ∙ e)

header_there : (j : Tree) (n : ℕ) (c : Message) (x : List ℕ) (q : Pointer) (i : ℕ) → IsBlock j n c → StandsIn j q None i → is_index x ≡ true → q ≡ codes "headers" ∷ x ∷ codes "value" ∷ [] → HoleAt c (header_spot (index_number x)) i
header_there j n c x q i b s d e =
    let y = index_number x in
    let same : q ≡ codes "headers" ∷ value_pointer y = e ∙ ap (λ z. codes "headers" ∷ z ∷ codes "value" ∷ []) (sym (index_text-index_number x d)) in
    let m = marked_by j n c q None i (is_header_spot y) b s (ap (is_prefix (codes "headers" ∷ value_pointer y)) same ∙ prefix_itself (codes "headers" ∷ value_pointer y)) in
    (holes_header i (slice_get c.headers y) (sym (header_of_block y i j n c b) ∙ m), refl)

-- nothing in an item's value goes into a hole
value_open : (j : Tree) (n : ℕ) (c : Message) (ts : Trees) (y i : ℕ) (u v : Tree) (r : Pointer) → IsBlock j n c → at j (codes "payload" ∷ []) ≡ Ok (items ts) → get_item y ts ≡ Some u → child (codes "value") u ≡ Ok v
    → at v r ≡ Ok (hole i) → goes_into v r ≡ false
value_open j n c ts y i u v r b there g d e = by (goes_into v r) refl
  where
    by : (f : Bool) → goes_into v r ≡ f → goes_into v r ≡ false
    by false h = h
    by true h =
        let p = passing v r h in
        let ps = block_places j n c b in
        let q = codes "payload" ∷ index_text y ∷ codes "value" ∷ p.0 in
        let here : at j q ≡ Ok p.3 = to_token (codes "payload") y (codes "value" ∷ p.0) j u p.3 ts there g (ap (λ s. s >>= λ c. at c p.0) d ∙ p.5) in
        let is = (places-are j n ps.0 (block-ordered j n c b) ps.1).holes q p.3 (inr (ts, index_text y, p.0, there, refl)) here p.6 in
        let way : at p.3 (p.1 ∷ p.2) ≡ Ok (hole i) = sym (at-append v p.0 (p.1 ∷ p.2) ∙ ap (λ s. s >>= λ c. at c (p.1 ∷ p.2)) p.5) ∙ (sym (ap (at v) p.4) ∙ e) in
        absurd (hole_leaf is.0 i p.1 p.2 (sym (ap (λ t. at t (p.1 ∷ p.2)) is.1) ∙ way))

-- the list of items of a block, and the k-th of them in the body
record ItemAt (j : Tree) (c : Message) (all : Items) (k : ℕ) : Type 0 where
  pub list : Trees
  pub node : Tree
  pub item : Pointer × Tree
  pub there : at j (codes "payload" ∷ []) ≡ Ok (items list)
  pub get : get_item k list ≡ Some node
  pub got : slice_get all k ≡ Some item
  pub value : child (codes "value") node ≡ Ok item.1
  pub body : Tree
  pub body_is : c.body ≡ Some body
  pub way : goes_into body item.0 ≡ false
  pub at_path : at body item.0 ≡ Ok item.1

payload_is : (j : Tree) (n : ℕ) (c : Message) (b : IsBlock j n c) (ts : Trees) → get_member (codes "payload") (members_of j) ≡ Some (items ts) → at j (codes "payload" ∷ []) ≡ Ok (items ts)
payload_is j n c b ts g =
    let whole : get_member (codes "payload") (block_members b.block) ≡ Some (items ts) = sym (ap (λ t. get_member (codes "payload") (members_of t)) b.is) ∙ g in
    ap (λ t. at t (codes "payload" ∷ [])) b.is ∙ ap (λ o. found o no_place >>= λ u. at u []) whole

is_payload : (j : Tree) (n : ℕ) (c : Message) (b : IsBlock j n c) (ts : Trees) → at j (codes "payload" ∷ []) ≡ Ok (items ts) → get_member (codes "payload") (members_of j) ≡ Some (items ts)
is_payload j n c b ts e =
    let d = bind_ok (found (get_member (codes "payload") (block_members b.block)) no_place) (λ u. at u []) (items ts) (sym (ap (λ t. at t (codes "payload" ∷ [])) b.is) ∙ e) in
    let same : d.0 ≡ items ts = cc in
    ap (λ t. get_member (codes "payload") (members_of t)) b.is ∙ found_ok _ _ (items ts) (d.1 ∙ ap Ok same)

same_list : (ts us : Trees) (o : Option Tree) → o ≡ Some (items ts) → o ≡ Some (items us) → ts ≡ us
same_list ts us o e f = let both : Some (items ts) ≡ Some (items us) = sym e ∙ f in cc

item_by_item : (j : Tree) (n : ℕ) (c : Message) (b : IsBlock j n c) (k : ℕ) (i : Pointer × Tree) → slice_get (b.stands).items k ≡ Some i → ItemAt j c (b.stands).items k
item_by_item j n c b k i g =
    let l = listed (get_member (codes "payload") (members_of j)) (b.stands).items k i (b.stands).items_are g in
    let r = read_back item_of (tree_list l.0) (b.stands).items k i l.2 g in
    let t = grown (b.stands).items c.body k i (b.stands).body g in
    let m = get_in i (b.stands).items k g in
    let here : InList i (b.stands).items = subst (InList i) (sym m.2) (in_split i m.0 m.1) in
    record {
      list = l.0;
      node = r.0;
      item = i;
      there = payload_is j n c b l.0 l.1;
      get = item_list k l.0 ∙ r.1;
      got = g;
      value = item_value r.0 i r.2;
      body = t.0;
      body_is = t.1;
      way = item-open (b.stands).items t.0 i t.2 b.apart here;
      at_path = all_item (b.stands).items t.0 i (t.2).each here;
    }

item_by_node : (j : Tree) (n : ℕ) (c : Message) (b : IsBlock j n c) (ts : Trees) (k : ℕ) (u : Tree) → at j (codes "payload" ∷ []) ≡ Ok (items ts) → get_item k ts ≡ Some u → ItemAt j c (b.stands).items k
item_by_node j n c b ts k u there g =
    let m = is_payload j n c b ts there in
    let read : all_read item_of (tree_list ts) ≡ Some (b.stands).items = sym (ap items_of m) ∙ (b.stands).items_are in
    let r = read_at item_of (tree_list ts) (b.stands).items k u read (sym (item_list k ts) ∙ g) in
    item_by_item j n c b k r.0 r.1

-- the hole in an item is the hole in the body
body_hole : (j : Tree) (n : ℕ) (c : Message) (k i : ℕ) (is : Items) (t : ItemAt j c is k) (r : Pointer) → IsBlock j n c → at t.item.1 r ≡ Ok (hole i) → HoleAt c (body_spot (t.item.0 ++ r)) i
body_hole j n c k i is t r b e =
    let shut = open_append t.body t.item.0 r t.item.1 t.way t.at_path (value_open j n c t.list k i t.node t.item.1 r b t.there t.get t.value e) in
    let there : at t.body (t.item.0 ++ r) ≡ Ok (hole i) = at-append t.body t.item.0 r ∙ (ap (λ s. s >>= λ u. at u r) t.at_path ∙ e) in (
      ap (λ o. body_standing o (t.item.0 ++ r)) t.body_is ∙ ap result_ok there,
      ap (λ o. is_body_open o (t.item.0 ++ r)) t.body_is ∙ ap not shut,
    )

pub hole_there : (j : Tree) (n : ℕ) (c : Message) (b : IsBlock j n c) (q : Pointer) (o : Option ℕ) (i : ℕ) → StandsIn j q o i → HoleAt c (spot_in (b.stands).items q o) i
hole_there j n c b q (Some k) i (inl s) =
    let m = marked_by j n c q (Some k) i (is_text_spot path_pointer k) b (inl s) (and_from (k == k) _ (eq-eqb k k refl) (ap (is_prefix path_pointer) s.0)) in
    let here : HoleAt c (segment_spot k) i = (ap (option_map part_value) (holes_part i (slice_get (segments_in c.head) k) (sym (segment_of k i j n c b) ∙ m)), refl) in
    subst (λ p. HoleAt c (text_spot p k) i) (sym s.0) here
hole_there j n c b q (Some k) i (inr s) =
    let m = marked_by j n c q (Some k) i (is_text_spot query_pointer k) b (inr s) (and_from (k == k) _ (eq-eqb k k refl) (ap (is_prefix query_pointer) s.0)) in
    let here : HoleAt c (pair_spot k) i = (holes_pair i (slice_get (query_pairs c.head) k) (sym (pair_of_block k i j n c b) ∙ m), refl) in
    subst (λ p. HoleAt c (text_spot p k) i) (sym s.0) here
hole_there j n c b q None i (inl (ts, x, there, e), h) =
    let t = at_token (codes "headers") x (codes "value" ∷ []) j (hole i) ts there (sym (ap (at j) e) ∙ h) in
    subst (λ p. HoleAt c (object_spot (b.stands).items p) i) (sym e) (header_there j n c x q i b (inl (ts, x, there, e), h) t.1 e)
hole_there j n c b q None i (inr (ts, x, r, there, e), h) =
    let t = at_token (codes "payload") x (codes "value" ∷ r) j (hole i) ts there (sym (ap (at j) e) ∙ h) in
    let a = item_by_node j n c b ts (index_number x) t.0 there t.2 in
    let same : Some t.0 ≡ Some a.node = sym t.2 ∙ (ap (get_item (index_number x)) (same_list ts a.list _ (is_payload j n c b ts there) (is_payload j n c b a.list a.there)) ∙ a.get) in
    let node : t.0 ≡ a.node = cc in
    let inside : at a.item.1 r ≡ Ok (hole i) = sym (ap (λ s. s >>= λ u. at u r) a.value) ∙ (sym (ap (λ u. at u (codes "value" ∷ r)) node) ∙ t.3) in
    let path : path_or_root (slice_get (b.stands).items (index_number x)) ≡ a.item.0 = ap path_or_root a.got in
    subst (λ p. HoleAt c (object_spot (b.stands).items p) i) (sym e) (subst (λ p. HoleAt c (body_spot (p ++ r)) i) (sym path) (body_hole j n c (index_number x) i (b.stands).items a r b inside))

-- ---- and back

abbrev pub HolePlaceOf : (j : Tree) (n : ℕ) (c : Message) → IsBlock j n c → Spot → ℕ → Type 0
HolePlaceOf j n c b s i = (h : HolePlace) × StandsAt j h i × (s ≡ spot_in (b.stands).items h.pointer h.part)

segment_back : (j : Tree) (n : ℕ) (c : Message) (b : IsBlock j n c) (x i : ℕ) (q : Pointer) (o : Option ℕ) → StandsIn j q o i → o ≡ Some x → is_prefix path_pointer q ≡ true → segment_spot x ≡ spot_in (b.stands).items q o
segment_back j n c b x i q None s e p = cc
segment_back j n c b x i q (Some k) (inl s) e p = let same : k ≡ x = cc in ap segment_spot (sym same) ∙ ap (λ r. text_spot r k) (sym s.0)
segment_back j n c b x i q (Some k) (inr s) e p = let no : true ≡ false = sym p ∙ ap (is_prefix path_pointer) s.0 in cc

pair_back : (j : Tree) (n : ℕ) (c : Message) (b : IsBlock j n c) (x i : ℕ) (q : Pointer) (o : Option ℕ) → StandsIn j q o i → o ≡ Some x → is_prefix query_pointer q ≡ true → pair_spot x ≡ spot_in (b.stands).items q o
pair_back j n c b x i q None s e p = cc
pair_back j n c b x i q (Some k) (inr s) e p = let same : k ≡ x = cc in ap pair_spot (sym same) ∙ ap (λ r. text_spot r k) (sym s.0)
pair_back j n c b x i q (Some k) (inl s) e p = let no : true ≡ false = sym p ∙ ap (is_prefix query_pointer) s.0 in cc

header_back : (j : Tree) (n : ℕ) (c : Message) (b : IsBlock j n c) (x i : ℕ) (q : Pointer) (o : Option ℕ) → StandsIn j q o i → is_prefix (codes "headers" ∷ value_pointer x) q ≡ true → header_spot x ≡ spot_in (b.stands).items q o
header_back j n c b x i q (Some k) (inl s) p = let no : true ≡ false = sym p ∙ ap (is_prefix (codes "headers" ∷ value_pointer x)) s.0 in cc
header_back j n c b x i q (Some k) (inr s) p = let no : true ≡ false = sym p ∙ ap (is_prefix (codes "headers" ∷ value_pointer x)) s.0 in cc
header_back j n c b x i q None (inl (ts, y, there, e), h) p =
    let inside : is_prefix (value_pointer x) (y ∷ codes "value" ∷ []) ≡ true = sym (ap (is_prefix (codes "headers" ∷ value_pointer x)) e) ∙ p in
    let token = (bytes_eq-Decides (index_text x) y).0 (and_parts (bytes_eq (index_text x) y) _ inside).0 in
    ap header_spot (sym (index_number-index_text x) ∙ ap index_number token) ∙ ap (object_spot (b.stands).items) (sym e)
header_back j n c b x i q None (inr (ts, y, r, there, e), h) p = let no : true ≡ false = sym p ∙ ap (is_prefix (codes "headers" ∷ value_pointer x)) e in cc

item_back : (j : Tree) (n : ℕ) (c : Message) (b : IsBlock j n c) (t : Tree) (q : Pointer) (i : ℕ) (k : ℕ) (y : Pointer × Tree) → c.body ≡ Some t → at t q ≡ Ok (hole i) → slice_get (b.stands).items k ≡ Some y → is_prefix y.0 q ≡ true
    → HolePlaceOf j n c b (body_spot q) i
item_back j n c b t q i k y d e g p =
    let a = item_by_item j n c b k y g in
    let r = prefix_rest y.0 q p in
    let trees : Some t ≡ Some a.body = sym d ∙ a.body_is in
    let same : a.body ≡ t = cc in
    let both : Some a.item ≡ Some y = sym a.got ∙ g in
    let one : a.item ≡ y = cc in
    let inside : at a.item.1 r.0 ≡ Ok (hole i) =
    sym (at-append a.body a.item.0 r.0 ∙ ap (λ s. s >>= λ u. at u r.0) a.at_path) ∙ (ap₂ (λ u (z : Pointer × Tree). at u (z.0 ++ r.0)) same one ∙ (sym (ap (at t) r.1) ∙ e)) in
    let place : Pointer = codes "payload" ∷ index_text k ∷ codes "value" ∷ r.0 in
    let there : at j place ≡ Ok (hole i) = to_token (codes "payload") k (codes "value" ∷ r.0) j a.node (hole i) a.list a.there a.get (ap (λ s. s >>= λ u. at u r.0) a.value ∙ inside) in (
      record { pointer = place; part = None },
      (inr (a.list, index_text k, r.0, a.there, refl), there),
      ap body_spot (r.1 ∙ ap (λ z. path_or_root z ++ r.0) (sym g ∙ ap (slice_get (b.stands).items) (sym (index_number-index_text k)))),
    )

body_back : (j : Tree) (n : ℕ) (c : Message) (b : IsBlock j n c) (q : Pointer) (i : ℕ) → HoleAt c (body_spot q) i → HolePlaceOf j n c b (body_spot q) i
body_back j n c b q i h =
    let t = body_there c.body q (hole i) h.0 in
    by t.0 t.1 t.2 (b.stands).items refl (subst (IsBody (b.stands).items) t.1 (b.stands).body)
  where
    reached : (t : Tree) (is : Items) → c.body ≡ Some t → at t q ≡ Ok (hole i) → (b.stands).items ≡ is → IsGrown is t → is_apart is ≡ true → (list_any (λ y. is_prefix y.0 q) is ≡ true) ⊎ (list_any (λ y. is_beneath q y.0) is ≡ true) → HolePlaceOf j n c b (body_spot q) i
    reached t is d e same g a (inl p) =
        let s = any_split (λ y. is_prefix y.0 q) is p in
        item_back j n c b t q i (length s.0) s.1 d e (ap (λ l. slice_get l (length s.0)) (same ∙ s.3) ∙ get_middle s.0 s.2 s.1) s.4
    reached t is d e same g a (inr p) =
        let s = any_split (λ y. is_beneath q y.0) is p in
        let r = beneath_rest q s.1.0 s.4 in
        let shut = item-open is t s.1 g a (subst (InList s.1) (sym s.3) (in_split s.1 s.0 s.2)) in
        let no : true ≡ false = unmarked_on t q r.0 r.1 (hole i) (sym (ap (goes_into t) r.2) ∙ shut) e in cc

    by : (t : Tree) → c.body ≡ Some t → at t q ≡ Ok (hole i) → (is : Items) → (b.stands).items ≡ is → IsBody is (Some t) → HolePlaceOf j n c b (body_spot q) i
    by t d e [] same g = let no : Some t ≡ None = g in cc
    by t d e (x ∷ is) same g =
        reached t (x ∷ is) d e same g (ap is_apart (sym same) ∙ b.apart)
        (split (list_any (λ y. is_prefix y.0 q) (x ∷ is)) (list_any (λ y. is_beneath q y.0) (x ∷ is)) (g.only q (hole i) e))
      where
        split : (a f : Bool) → (a || (true && f)) ≡ true → (a ≡ true) ⊎ (f ≡ true)
        split true f e = inl refl
        split false f e = inr e

pub hole_back : (j : Tree) (n : ℕ) (c : Message) (b : IsBlock j n c) (s : Spot) (i : ℕ) → HoleAt c s i → HolePlaceOf j n c b s i
hole_back j n c b (segment_spot x) i h =
    let m = stands_by j n c i (is_text_spot path_pointer x) b (segment_of x i j n c b ∙ part_holes i (slice_get (segments_in c.head) x) h.0) in
    let p = and_parts (is_some_index x (m.0).part) _ m.1 in
    (m.0, m.2, segment_back j n c b x i (m.0).pointer (m.0).part m.2 (is_index_of x (m.0).part p.0) p.1)
hole_back j n c b (pair_spot x) i h =
    let m = stands_by j n c i (is_text_spot query_pointer x) b (pair_of_block x i j n c b ∙ pair_holes i (slice_get (query_pairs c.head) x) h.0) in
    let p = and_parts (is_some_index x (m.0).part) _ m.1 in
    (m.0, m.2, pair_back j n c b x i (m.0).pointer (m.0).part m.2 (is_index_of x (m.0).part p.0) p.1)
hole_back j n c b (header_spot x) i h =
    let m = stands_by j n c i (is_header_spot x) b (header_of_block x i j n c b ∙ header_holes i (slice_get c.headers x) h.0) in
    (m.0, m.2, header_back j n c b x i (m.0).pointer (m.0).part m.2 m.1)
hole_back j n c b (body_spot q) i h = body_back j n c b q i h

pub index-below : (j : Tree) (n : ℕ) (c : Message) (s : Spot) (i : ℕ) → IsBlock j n c → HoleAt c s i → i < n
index-below j n c s i b h =
    let ps = block_places j n c b in
    let are = places-are j n ps.0 (block-ordered j n c b) ps.1 in
    let p = hole_back j n c b s i h in
    subst (λ k. i < k) are.count (slice_get_within ps.0 i p.0 (are.only i p.0 p.1))

pub one-place : (j : Tree) (n : ℕ) (c : Message) (i : ℕ) → IsBlock j n c → i < n → OnePlace c i
one-place j n c i b l =
    let ps = block_places j n c b in
    let are = places-are j n ps.0 (block-ordered j n c b) ps.1 in
    let h : HolePlace = get_or ps.0 i (record { pointer = []; part = None }) in
    let there : slice_get ps.0 i ≡ Some h = slice_get-get_or ps.0 i (record { pointer = []; part = None }) (subst (λ k. i < k) (sym are.count) l) in
    record {
      place = spot_in (b.stands).items h.pointer h.part;
      stands = hole_there j n c b h.pointer h.part i (are.each i h there);
      only = λ s e.
          let p = hole_back j n c b s i e in
          let both : Some p.0 ≡ Some h = sym (are.only i p.0 p.1) ∙ there in
          let same : p.0 ≡ h = cc in
          p.2 ∙ ap (λ (x : HolePlace). spot_in (b.stands).items x.pointer x.part) same;
    }
