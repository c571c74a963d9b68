-- In a block each object with the mark is a hole below the count, so no item is deeper than its open depth and 1.
use Rattle.std.proofs.Common.{◌≡◌, ℕ, suc, ◌+◌, ◌≤◌, length, List, [], ◌∷◌, ◌++◌, map, Bool, true, false, ◌||◌, Option, Some, None, Ok, Err, Result, is_ok, Ordering, Less, Equal, Greater, refl, sym, ap, ◌∙◌, subst, if◌then◌else◌, codes, arith}
use Rattle.std.proofs.lemmas.Bool.{or_parts}
use Rattle.std.specs.List.{list_any}
use Rattle.std.specs.Ordering.{match_ordering}
use Rattle.spec_documents.specs.Tree.{Tree, null, truth, whole, words, items, members, Trees, no_items, item, Members, no_members, member, name_cmp, depth, items_depth, members_depth}
use Rattle.spec_documents.specs.Place.{no_place, found, child}
use Rattle.spec_documents.specs.Text.{index_text}
use Rattle.spec_documents.specs.Hole.{mark, has_mark, natural, hole_members, Marks, beneath, marks, items_marks, members_marks, mark_here, marks_in, value_marks, list_marks, object_marks, object_mark, text_marks, all_marks, HolePlace, HoleFault, bad_hole, is_bad, is_bad_index, first_bad, places}
use Rattle.spec_messages.specs.Message.{Message, all_read}
use Rattle.spec_messages.specs.Block.{Block, header_tree, item_tree, list_tree, block_tree, block_items, Items, item_of, IsBlock, open_depth, items_open_depth, members_open_depth, is_apart, body_of}
use Rattle.spec_documents.proofs.MarkLemmas.{any-append}
use Rattle.spec_documents.proofs.PlaceLemmas.{unless_ok}
use Rattle.spec_messages.proofs.BlockLemmas.{list_node, payload-block}
use Rattle.spec_messages.proofs.GrownLemmas.{Each}
use Rattle.spec_messages.proofs.BodyLemmas.{body-unique, body-high}
use Rattle.spec_messages.proofs.ItemFaults.{Named, PathsOf, item_list, items-paths, any_bad, bad-beneath}
use Rattle.spec_messages.proofs.BlockLaws.{named_of, payload_items, none_bad}

-- ---- a tree whose marked objects are holes

bad_append : (n : ℕ) (ms ns : Marks) → any_bad n (ms ++ ns) ≡ false → (any_bad n ms ≡ false) × (any_bad n ns ≡ false)
bad_append n ms ns e = or_parts _ _ (sym (any-append (λ m. is_bad_index n m.1) ms ns) ∙ e)

number_low : (u : Tree) (i : ℕ) → natural u ≡ Some i → depth u ≤ 0
number_low null i e = cc
number_low (truth b) i e = cc
number_low (whole z) i e = omega arith
number_low (words s) i e = cc
number_low (items ts) i e = cc
number_low (members ms) i e = cc

hole_low : (ms : Members) (i : ℕ) → hole_members ms ≡ Some i → depth (members ms) ≤ 1
hole_low no_members i e = cc
hole_low (member k u no_members) i e = by (name_cmp mark k) e
  where
    by : (o : Ordering) → match_ordering o None (natural u) None ≡ Some i → depth (members (member k u no_members)) ≤ 1
    by Less f = cc
    by Equal f = let d = number_low u i f in omega arith
    by Greater f = cc
hole_low (member k u (member l w ms)) i e = cc

marked_low : (n : ℕ) (o : Option ℕ) (ms : Members) → hole_members ms ≡ o → (is_bad_index n o || false) ≡ false → depth (members ms) ≤ 1
marked_low n None ms e b = cc
marked_low n (Some i) ms e b = hole_low ms i e

object_deep : (n : ℕ) (c : Bool) (ms : Members) → any_bad n (if c then ([], hole_members ms) ∷ [] else members_marks ms) ≡ false → (any_bad n (members_marks ms) ≡ false → members_depth ms ≤ suc (members_open_depth ms))
    → depth (members ms) ≤ suc (if c then 0 else suc (members_open_depth ms))
object_deep n true ms b more = marked_low n (hole_members ms) ms refl b
object_deep n false ms b more = let h = more b in omega arith

mutual
  pub sound_depth : (n : ℕ) (t : Tree) → any_bad n (marks t) ≡ false → depth t ≤ suc (open_depth t)
  sound_depth n null b = omega arith
  sound_depth n (truth c) b = omega arith
  sound_depth n (whole z) b = omega arith
  sound_depth n (words s) b = omega arith
  sound_depth n (items ts) b = let h = sound_items n 0 ts b in omega arith
  sound_depth n (members ms) b = object_deep n (has_mark ms) ms b (λ c. sound_members n ms c)

  sound_items : (n i : ℕ) (ts : Trees) → any_bad n (items_marks i ts) ≡ false → items_depth ts ≤ suc (items_open_depth ts)
  sound_items n i no_items b = omega arith
  sound_items n i (item t ts) b =
      let p = bad_append n (beneath (index_text i) (marks t)) (items_marks (suc i) ts) b in
      let one = sound_depth n t (sym (bad-beneath n (index_text i) (marks t)) ∙ p.0) in
      let rest = sound_items n (suc i) ts p.1 in omega arith

  sound_members : (n : ℕ) (ms : Members) → any_bad n (members_marks ms) ≡ false → members_depth ms ≤ suc (members_open_depth ms)
  sound_members n no_members b = omega arith
  sound_members n (member k t ms) b =
      let p = bad_append n (beneath k (marks t)) (members_marks ms) b in
      let one = sound_depth n t (sym (bad-beneath n k (marks t)) ∙ p.0) in
      let rest = sound_members n ms p.1 in omega arith

-- ---- the marks of a block whose places are there

bad_objects : (n : ℕ) (ms : Marks) → list_any (is_bad n) (map object_mark ms) ≡ any_bad n ms
bad_objects n [] = refl
bad_objects n (m ∷ ms) = ap (λ b. is_bad_index n m.1 || b) (bad_objects n ms)

-- no mark of its texts, its headers and its payload is bad
pub record Sound (n : ℕ) (j : Tree) : Type 0 where
  pub texts : list_any (is_bad n) (text_marks j) ≡ false
  pub headers : any_bad n (marks_in (list_marks mark_here) (child (codes "headers") j)) ≡ false
  pub payload : any_bad n (marks_in (list_marks marks) (child (codes "payload") j)) ≡ false

sound_by : (n : ℕ) (j : Tree) (r : Result (List HolePlace) HoleFault) → places j n ≡ r → is_ok r ≡ true → Sound n j
sound_by n j (Err why) e h = cc
sound_by n j (Ok ps) e h =
    let first = (unless_ok (first_bad n (all_marks j)) bad_hole _ ps e).0 in
    let all = or_parts _ _ (sym (any-append (is_bad n) (text_marks j) (map object_mark (object_marks j))) ∙ none_bad n (all_marks j) first) in
    let objects : any_bad n (object_marks j) ≡ false = sym (bad_objects n (object_marks j)) ∙ all.1 in
    let hs : Marks = marks_in (list_marks mark_here) (child (codes "headers") j) in
    let ps : Marks = marks_in (list_marks marks) (child (codes "payload") j) in
    let two = bad_append n (beneath (codes "headers") hs) (beneath (codes "payload") ps) objects in
    record { texts = all.0; headers = sym (bad-beneath n (codes "headers") hs) ∙ two.0; payload = sym (bad-beneath n (codes "payload") ps) ∙ two.1 }

pub block_sound : (j : Tree) (n : ℕ) (c : Message) → IsBlock j n c → Sound n j
block_sound j n c k = sound_by n j (places j n) refl k.holes

-- ---- its items

items_sound : (n i : ℕ) (xs : Named) (is : Items) → PathsOf xs is → any_bad n (value_marks marks i (list_tree item_tree xs)) ≡ false → Each (λ p v. any_bad n (marks v) ≡ false) is
items_sound n i [] [] h b = tt
items_sound n i [] (k ∷ is) h b = absurd h
items_sound n i (x ∷ xs) [] h b = absurd h
items_sound n i (x ∷ xs) (k ∷ is) h b =
    let p = bad_append n (beneath (index_text i) (beneath (codes "value") (marks x.1))) (value_marks marks (suc i) (list_tree item_tree xs)) b in
    let here : any_bad n (marks x.1) ≡ false = sym (bad-beneath n (index_text i) (beneath (codes "value") (marks x.1)) ∙ bad-beneath n (codes "value") (marks x.1)) ∙ p.0 in
    (subst (λ v. any_bad n (marks v) ≡ false) h.1 here, items_sound n (suc i) xs is h.3 p.1)

payload_sound : (n : ℕ) (o : Option Named) (is : Items) → PathsOf (named_of o) is → any_bad n (marks_in (list_marks marks) (found (list_node item_tree o) no_place)) ≡ false → Each (λ p v. any_bad n (marks v) ≡ false) is
payload_sound n None is h b = items_sound n 0 [] is h refl
payload_sound n (Some xs) is h b = items_sound n 0 xs is h b

low_each : (n : ℕ) (is : Items) → Each (λ p v. length p + open_depth v ≤ 64) is → Each (λ p v. any_bad n (marks v) ≡ false) is → Each (λ p v. length p + depth v ≤ 65) is
low_each n [] l b = tt
low_each n (i ∷ is) l b = (let h = sound_depth n i.1 b.0 in let d = l.0 in omega arith, low_each n is l.1 b.1)

-- no item of a block is deeper than 65, the tokens of its path counted
pub block_items_low : (j : Tree) (n : ℕ) (c : Message) → (k : IsBlock j n c) → Each (λ p v. length p + depth v ≤ 65) k.stands.items
block_items_low j n c k =
    let sound = block_sound j n c k in
    let read : all_read item_of (item_list (named_of k.block.payload)) ≡ Some k.stands.items = sym (payload_items k.block) ∙ ap block_items (sym k.is) ∙ k.stands.items_are in
    let paths = items-paths (named_of k.block.payload) k.stands.items read k.apart in
    let marked = payload_sound n k.block.payload k.stands.items paths
    (sym (ap (λ o. any_bad n (marks_in (list_marks marks) (found o no_place))) (payload-block k.block)) ∙ ap (λ t. any_bad n (marks_in (list_marks marks) (child (codes "payload") t))) (sym k.is) ∙ sound.payload) in
    low_each n k.stands.items (body-high k.stands.items 64 k.apart (subst (λ b. Rattle.spec_messages.specs.Block.open_body_depth b ≤ 64) (body-unique k.stands.items c.body k.apart k.stands.ordered k.stands.body) k.deep)) marked
