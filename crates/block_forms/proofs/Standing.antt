-- What is read of a block makes the message that it stands for, since the number of each hole is held.
use Rattle.std.proofs.Common.{◌≡◌, ℕ, zero, suc, ◌≤◌, ◌<◌, ◌^◌, List, [], ◌∷◌, map, Bool, true, false, ◌||◌, Option, Some, None, option_map, Result, Ok, refl, sym, ap, ap₂, ◌∙◌, subst, if◌then◌else◌, slice_get, codes, inl, inr, arith}
use Rattle.std.proofs.lemmas.Bool.{and_parts, and_from, or_parts, or_cases, eqb-true, eq-eqb, leb-true, leb-false, lt-ltb, ltb-false}
use Rattle.std.specs.Prelude.{nat_le, nat_lt, is_ok, is_some, option_and_then, unwrap_or, bytes_eq, ◌⊎◌, Err}
use Rattle.std.specs.List.{list_all, list_any}
use Rattle.spec_documents.specs.Tree.{Tree, null, truth, whole, words, items, members, Members, get_member, items_in}
use Rattle.spec_documents.specs.Place.{Pointer, read_pointer}
use Rattle.spec_documents.specs.Hole.{mark, HolePlace, HoleFault, Mark, bad_hole, is_bad, is_bad_index, is_some_index, first_bad, all_marks, places, path_pointer, query_pointer}
use Rattle.spec_documents.proofs.PlaceLemmas.{unless_ok}
use Rattle.spec_messages.specs.Message.{Part, clear, hole_part, Header, Head, request, response, Message, any_text, text_at, all_read, onto_read, head_of, headers_of, body_depth}
use Rattle.spec_messages.specs.Policy.{result_ok}
use Rattle.spec_messages.specs.Block.{Items, IsBlock, block_parts, block_members, block_items, members_of, body_of, pointed, pointed_at, item_of, items_of, clear_message}
use Rattle.spec_messages.specs.Fault.{block_fault, member_fault, limit_fault, as_fault, bad_member, beyond, ie_path, plain_pointer, path_of, or_root, or_null, or_empty, list_of, member_or_null, first_pathless}
use Rattle.spec_messages.specs.Limits.{many_values}
use Rattle.spec_messages.proofs.BlockFaults.{first_none, fault_none, when_none}
use Rattle.spec_messages.proofs.BlockDepth.{block_items_low}
use Rattle.spec_messages.proofs.BodyLemmas.{body-unique}
use Rattle.spec_messages.proofs.HoleSpots.{is_mark_of, is_text_spot}
use Rattle.spec_messages.proofs.HoleReads.{is_hole, pair_part, header_value, segment-hole, pair-hole}
use Rattle.spec_messages.proofs.HeaderHoles.{is_header_spot, header-hole}
use Rattle.http_message.specs.declared.form.Form.TheVariants as form
use Rattle.http_message.specs.Forms.{parts_of}
use Rattle.http_message.specs.Kept.{kept_head, kept_header, ok_map, is_held, is_held_value, is_held_head, are_held_headers}
use Rattle.http_message.proofs.KeptParts.{head_kept, headers_kept, same_head, same_headers}
use Rattle.block_forms.specs.Paths.{paths_of}
use Rattle.block_forms.specs.Kept.{Stands, items_with, payload_of}
use Rattle.block_forms.proofs.Grafting.{low_body}

-- ---- no mark has a number past the count

none_bad : (n : ℕ) (ms : List Mark) → first_bad n ms ≡ None → list_any (is_bad n) ms ≡ false
none_bad n [] e = refl
none_bad n (m ∷ ms) e = by (is_bad n m) e (none_bad n ms)
  where
    by : (b : Bool) → (if b then Some m.place else first_bad n ms) ≡ None → (first_bad n ms ≡ None → list_any (is_bad n) ms ≡ false) → (b || list_any (is_bad n) ms) ≡ false
    by true e more = cc
    by false e more = more e

marks_good : (j : Tree) (n : ℕ) (r : Result (List HolePlace) HoleFault) → places j n ≡ r → is_ok r ≡ true → list_any (is_bad n) (all_marks j) ≡ false
marks_good j n (Err why) e h = cc
marks_good j n (Ok ps) e h = none_bad n (all_marks j) (unless_ok (first_bad n (all_marks j)) bad_hole _ ps e).0

index_low : (n i : ℕ) (o : Option ℕ) → is_bad_index n o ≡ false → is_some_index i o ≡ true → i < n
index_low n i None b e = cc
index_low n i (Some k) b e = let same = eqb-true i k e in let low = leb-false n k b in omega arith

mark_low : (g : HolePlace → Bool) (n i : ℕ) (ms : List Mark) → list_any (is_bad n) ms ≡ false → list_any (is_mark_of g i) ms ≡ true → i < n
mark_low g n i [] b e = cc
mark_low g n i (m ∷ ms) b e =
    let p = or_parts (is_bad n m) _ b in
    step (or_cases (is_mark_of g i m) _ e) p.0 (mark_low g n i ms p.1)
  where
    step : (is_mark_of g i m ≡ true) ⊎ (list_any (is_mark_of g i) ms ≡ true) → is_bad n m ≡ false → (list_any (is_mark_of g i) ms ≡ true → i < n) → i < n
    step (inl h) good rest = index_low n i m.index good (and_parts (g m.place) _ h).1
    step (inr h) good rest = rest h

-- ---- so that each is held

held_number : (n i : ℕ) → n ≤ 1024 → i < n → nat_lt i (2 ^ 32) ≡ true
held_number n i few low = lt-ltb i (2 ^ 32) (omega arith)

part_held : (n : ℕ) (p : Part) → n ≤ 1024 → ((i : ℕ) → is_hole i (Some p) ≡ true → i < n) → is_held p ≡ true
part_held n (clear s) few h = refl
part_held n (hole_part i) few h = held_number n i few (h i (eq-eqb i i refl))

value_held : (n : ℕ) (o : Option Part) → n ≤ 1024 → ((i : ℕ) → is_hole i o ≡ true → i < n) → is_held_value o ≡ true
value_held n None few h = refl
value_held n (Some p) few h = part_held n p few h

all_by_place : {X : Type 0} (test : X → Bool) (xs : List X) → ((i : ℕ) (x : X) → slice_get xs i ≡ Some x → test x ≡ true) → list_all test xs ≡ true
all_by_place test [] h = refl
all_by_place test (x ∷ xs) h = and_from (test x) _ (h zero x refl) (all_by_place test xs (λ i y e. h (suc i) y e))

head_held : (ms : Members) (n : ℕ) (h : Head) → n ≤ 1024 → list_any (is_bad n) (all_marks (members ms)) ≡ false → head_of block_parts ms ≡ Ok h → is_held_head h ≡ true
head_held ms n (response s) few good e = refl
head_held ms n (request l) few good e = and_from _ _
    (all_by_place is_held l.segments (λ x p at. part_held n p few (λ i hole. mark_low (is_text_spot path_pointer x) n i (all_marks (members ms)) good (segment-hole ms (request l) x i e ∙ ap (is_hole i) at ∙ hole))))
    (all_by_place (λ p. is_held_value p.value) l.query (λ x p at. value_held n p.value few (λ i hole. mark_low (is_text_spot query_pointer x) n i (all_marks (members ms)) good (pair-hole ms (request l) x i e ∙ ap (λ o. is_hole i (pair_part o)) at ∙ hole))))

headers_held : (ms : Members) (n : ℕ) (hs : List Header) → n ≤ 1024 → list_any (is_bad n) (all_marks (members ms)) ≡ false → headers_of block_parts (get_member (codes "headers") ms) ≡ Some hs → are_held_headers hs ≡ true
headers_held ms n hs few good e =
    all_by_place (λ h. is_held h.value) hs (λ x h at. part_held n h.value few (λ i hole. mark_low (is_header_spot x) n i (all_marks (members ms)) good (header-hole ms hs x i e ∙ ap (λ o. is_hole i (header_value o)) at ∙ hole)))

-- ---- the line and the headers that are read

line_read : (ms : Members) (n : ℕ) (h : Head) → n ≤ 1024 → list_any (is_bad n) (all_marks (members ms)) ≡ false → head_of block_parts ms ≡ Ok h → result_ok (head_of (parts_of form.Block) ms) ≡ Some h
line_read ms n h few good e = ap result_ok (head_kept ms ∙ ap (ok_map kept_head) e ∙ ap Ok (same_head h (head_held ms n h few good e)))

headers_read : (ms : Members) (n : ℕ) (hs : List Header) → n ≤ 1024 → list_any (is_bad n) (all_marks (members ms)) ≡ false
    → headers_of block_parts (get_member (codes "headers") ms) ≡ Some hs → headers_of (parts_of form.Block) (get_member (codes "headers") ms) ≡ Some hs
headers_read ms n hs few good e = headers_kept (get_member (codes "headers") ms) ∙ ap (option_map (map kept_header)) e ∙ ap Some (same_headers hs (headers_held ms n hs few good e))

-- ---- the items that are read: each path, and its value

plain_root : (r : Result Pointer ℕ) (q : Pointer) → r ≡ Ok q → is_some (plain_pointer r) ≡ true → or_root (plain_pointer r) ≡ q
plain_root (Err i) q e h = cc
plain_root (Ok p) q e h = by (list_any (bytes_eq mark) p) h
  where
    by : (b : Bool) → is_some (if b then None else Some p) ≡ true → or_root (if b then None else Some p) ≡ q
    by true h = cc
    by false h = cc

pointed_is : (r : Result Pointer ℕ) (v : Tree) (i : Pointer × Tree) → pointed_at r v ≡ Some i → (r ≡ Ok i.0) × (v ≡ i.1)
pointed_is (Err k) v i e = cc
pointed_is (Ok q) v i e = let same : ◌≡◌ {A = Pointer × Tree} (q, v) i = cc in (ap (λ x. Ok x.0) same, ap (λ x. x.1) same)

member_item : (ms : Members) (s : Option (List ℕ)) (v : Option Tree) (i : Pointer × Tree) → pointed s v ≡ Some i → is_some (plain_pointer (read_pointer (or_empty s))) ≡ true → (or_root (plain_pointer (read_pointer (or_empty s))) ≡ i.0) × (or_null v ≡ i.1)
member_item ms None v i e h = cc
member_item ms (Some s) None i e h = cc
member_item ms (Some s) (Some v) i e h = let p = pointed_is (read_pointer s) v i e in (plain_root (read_pointer s) i.0 p.0 h, p.1)

item_is : (t : Tree) (i : Pointer × Tree) → item_of t ≡ Some i → is_some (path_of t) ≡ true → (or_root (path_of t) ≡ i.0) × (member_or_null (codes "value") (members_of t) ≡ i.1)
item_is null i e h = cc
item_is (truth b) i e h = cc
item_is (whole z) i e h = cc
item_is (words s) i e h = cc
item_is (items ts) i e h = cc
item_is (members ms) i e h = member_item ms (text_at any_text (codes "iePath") ms) (get_member (codes "value") ms) i e h

passed : (b : Bool) (k : ℕ) (o : Option ℕ) → (if b then o else Some k) ≡ None → (b ≡ true) × (o ≡ None)
passed true k o e = (refl, e)
passed false k o e = cc

items_read : (k : ℕ) (ts : List Tree) (is : Items) → all_read item_of ts ≡ Some is → first_pathless k ts ≡ None → is ≡ items_with (paths_of ts) ts
items_read k [] is e h = cc
items_read k (t ∷ ts) is e h = by (λ js b n. items_read (suc k) ts js b n) (item_of t) (all_read item_of ts) refl refl e
  where
    by : ((js : Items) → all_read item_of ts ≡ Some js → first_pathless (suc k) ts ≡ None → js ≡ items_with (paths_of ts) ts)
        → (o : Option (Pointer × Tree)) (r : Option Items) → item_of t ≡ o → all_read item_of ts ≡ r → onto_read o r ≡ Some is → is ≡ items_with (paths_of (t ∷ ts)) (t ∷ ts)
    by more None r a b e = cc
    by more (Some i) None a b e = cc
    by more (Some i) (Some js) a b e =
        let p = passed (is_some (path_of t)) k _ h in
        let this = item_is t i a p.0 in
        let all : is ≡ i ∷ js = cc in
        all ∙ ap₂ (λ x y. (x, y) ∷ js) (sym this.0) (sym this.1) ∙ ap (λ xs. (or_root (path_of t), member_or_null (codes "value") (members_of t)) ∷ xs) (more js b p.1)

listed : (o : Option Tree) (is : Items) → items_of o ≡ Some is → all_read item_of (list_of o) ≡ Some is
listed None is e = e
listed (Some t) is e = by (items_in (Some t)) e
  where
    by : (l : Option (List Tree)) → option_and_then (all_read item_of) l ≡ Some is → all_read item_of (unwrap_or l []) ≡ Some is
    by None e = cc
    by (Some ts) e = e

pub few_by_fault : (j : Tree) (n : ℕ) → block_fault j n ≡ None → n ≤ 1024
few_by_fault j n e =
    let limits = fault_none beyond (limit_fault j n) (first_none _ _ (first_none (as_fault bad_member (member_fault j)) _ e).1).0 in
    ltb-false 1024 n (when_none (nat_lt 1024 n) many_values (first_none _ _ (first_none _ _ limits).1).1)

pub few_values : (j : Tree) (n : ℕ) (c : Message) → IsBlock j n c → n ≤ 1024
few_values j n c k = leb-true n 1024 (and_parts _ (nat_le n 1024) k.limits).1

items_body : (j : Tree) (n : ℕ) (c : Message) → (k : IsBlock j n c) → c.body ≡ body_of k.stands.items
items_body j n c k = body-unique k.stands.items c.body k.apart k.stands.ordered k.stands.body

pathless_none : (j : Tree) (n : ℕ) → block_fault j n ≡ None → first_pathless 1 (payload_of j) ≡ None
pathless_none j n e =
    let past = (first_none (as_fault bad_member (member_fault j)) _ e).1 in
    let later = (first_none (as_fault beyond (limit_fault j n)) _ past).1 in
    fault_none ie_path (first_pathless 1 (payload_of j)) (first_none (as_fault ie_path (first_pathless 1 (payload_of j))) _ later).0

pub block_low : (j : Tree) (n : ℕ) (c : Message) → IsBlock j n c → body_depth c.body ≤ 65
block_low j n c k = subst (λ b. body_depth b ≤ 65) (sym (items_body j n c k)) (low_body k.stands.items (block_items_low j n c k))

pub block_stands : (j : Tree) (n : ℕ) (c : Message) → IsBlock j n c → block_fault j n ≡ None → clear_message j ≡ Some c → Stands j
block_stands j n c k e told =
    let ms = block_members k.block in
    let few = few_values j n c k in
    let good : list_any (is_bad n) (all_marks (members ms)) ≡ false = ap (λ t. list_any (is_bad n) (all_marks t)) (sym k.is) ∙ marks_good j n (places j n) refl k.holes in
    let head : head_of block_parts ms ≡ Ok c.head = ap (λ t. head_of block_parts (members_of t)) (sym k.is) ∙ k.stands.head in
    let headers : headers_of block_parts (get_member (codes "headers") ms) ≡ Some c.headers = ap (λ t. headers_of block_parts (get_member (codes "headers") (members_of t))) (sym k.is) ∙ k.stands.headers in
    let items : k.stands.items ≡ items_with (paths_of (payload_of j)) (payload_of j) = items_read 1 (payload_of j) k.stands.items (listed (get_member (codes "payload") (members_of j)) k.stands.items k.stands.items_are) (pathless_none j n e) in
    record {
      message = c;
      clear = told;
      head = ap (λ t. result_ok (head_of (parts_of form.Block) (members_of t))) k.is ∙ line_read ms n c.head few good head;
      headers = ap (λ t. headers_of (parts_of form.Block) (get_member (codes "headers") (members_of t))) k.is ∙ headers_read ms n c.headers few good headers;
      body = items_body j n c k ∙ ap body_of items;
      low = block_low j n c k;
    }
