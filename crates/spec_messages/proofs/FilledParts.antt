-- The headers and the items of a filled block are read to the filled headers and the filled items.
use Rattle.std.proofs.Common.{◌≡◌, ℕ, List, [], ◌∷◌, map, Bool, true, not, ◌&&◌, ◌||◌, Option, Some, None, option_map, Result, Ok, Err, refl, sym, ap, ap₂, ◌∙◌, bytes_eq, codes}
use Rattle.std.proofs.lemmas.Bool.{and_parts}
use Rattle.std.specs.List.{list_any, list_all}
use Rattle.spec_documents.specs.Tree.{Tree, null, truth, whole, words, items, members, Members, tree_list}
use Rattle.spec_documents.specs.Place.{Pointer, is_prefix, read_pointer}
use Rattle.spec_documents.specs.Text.{is_header_name, is_header_value, lower}
use Rattle.spec_documents.specs.Hole.{mark, value_at, text_value, is_words, object_or, hole_members, fill, fill_members}
use Rattle.spec_messages.specs.Message.{Part, clear, hole_part, Header, text_at, all_read, onto_read, header_from, header_of, headers_of}
use Rattle.spec_messages.specs.Split.{fill_part, fill_header, has_text}
use Rattle.spec_messages.specs.Block.{header_tree, item_tree, list_tree, header_part, block_parts, Items, pointed_at, item_of, items_of, members_of, is_apart}
use Rattle.spec_messages.proofs.BlockLemmas.{list_node}
use Rattle.spec_messages.proofs.BlockFill.{filled_pairs, opt_pairs}
use Rattle.spec_messages.proofs.HoleReads.{onto_some}
use Rattle.spec_messages.proofs.FillGrown.{filled_items}
use Rattle.spec_messages.proofs.FilledTexts.{clear_is}

-- ---- headers

words_header : (v : Tree) → is_words is_header_value v ≡ true → header_part v ≡ Some (clear (text_value v))
words_header null e = cc
words_header (truth b) e = cc
words_header (whole z) e = cc
words_header (words s) e = rw e refl
words_header (items ts) e = cc
words_header (members ms) e = cc

hole_filled : (vs : List Tree) (ms : Members) (o : Option ℕ) (p : Part) → option_map hole_part o ≡ Some p → has_text is_header_value vs p ≡ true → header_part (object_or o vs ms) ≡ Some (fill_part vs p)
hole_filled vs ms None p e h = cc
hole_filled vs ms (Some n) p e h =
    let is : hole_part n ≡ p = cc in
    words_header (value_at vs n) (ap (has_text is_header_value vs) is ∙ h) ∙ ap (λ q. Some (fill_part vs q)) is

value_filled : (vs : List Tree) (v : Tree) (p : Part) → header_part v ≡ Some p → has_text is_header_value vs p ≡ true → header_part (fill vs v) ≡ Some (fill_part vs p)
value_filled vs null p e h = cc
value_filled vs (truth b) p e h = cc
value_filled vs (whole z) p e h = cc
value_filled vs (words s) p e h = let k = clear_is (is_header_value s) s p e in e ∙ ap Some (sym k.1 ∙ ap (fill_part vs) k.1)
value_filled vs (items ts) p e h = cc
value_filled vs (members ms) p e h = hole_filled vs (fill_members vs ms) (hole_members ms) p e h

from_filled : (vs : List Tree) (n : Option (List ℕ)) (o r : Option Part) (h : Header) → header_from n o ≡ Some h → ((p : Part) → o ≡ Some p → p ≡ h.value → r ≡ Some (fill_part vs p)) → header_from n r ≡ Some (fill_header vs h)
from_filled vs None o r h e k = cc
from_filled vs (Some n) None r h e k = cc
from_filled vs (Some n) (Some p) r h e k =
    let is : record { name = lower n; value = p } ≡ h = cc in
    ap (header_from (Some n)) (k p refl (ap (λ (x : Header). x.value) is)) ∙ ap (λ (x : Header). Some (fill_header vs x)) is

header_filled : (vs : List Tree) (x : List ℕ × Tree) (h : Header) → header_of block_parts (header_tree x) ≡ Some h → has_text is_header_value vs h.value ≡ true → header_of block_parts (header_tree (x.0, fill vs x.1)) ≡ Some (fill_header vs h)
header_filled vs x h e t =
    from_filled vs (text_at is_header_name (codes "header") (members_of (header_tree x))) (header_part x.1) (header_part (fill vs x.1)) h e (λ p g is. value_filled vs x.1 p g (ap (has_text is_header_value vs) is ∙ t))

list_filled : (vs : List Tree) (xs : List (List ℕ × Tree)) (hs : List Header) → all_read (header_of block_parts) (tree_list (list_tree header_tree xs)) ≡ Some hs → list_all (λ h. has_text is_header_value vs h.value) hs ≡ true
    → all_read (header_of block_parts) (tree_list (list_tree header_tree (filled_pairs (fill vs) xs))) ≡ Some (map (fill_header vs) hs)
list_filled vs [] hs e h = let is : [] ≡ hs = cc in ap (λ (ys : List Header). Some (map (fill_header vs) ys)) is
list_filled vs (x ∷ xs) hs e h =
    let s = onto_some (header_of block_parts (header_tree x)) (all_read (header_of block_parts) (tree_list (list_tree header_tree xs))) hs e in
    let g = and_parts (has_text is_header_value vs s.0.value) _ (ap (list_all (λ h. has_text is_header_value vs h.value)) (sym s.4) ∙ h) in
    ap₂ onto_read (header_filled vs x s.0 s.2 g.0) (list_filled vs xs s.1 s.3 g.1) ∙ ap (λ (ys : List Header). Some (map (fill_header vs) ys)) (sym s.4)

pub headers_filled : (vs : List Tree) (o : Option (List (List ℕ × Tree))) (hs : List Header) → headers_of block_parts (list_node header_tree o) ≡ Some hs → list_all (λ h. has_text is_header_value vs h.value) hs ≡ true
    → headers_of block_parts (list_node header_tree (opt_pairs (fill vs) o)) ≡ Some (map (fill_header vs) hs)
headers_filled vs None hs e h = let is : [] ≡ hs = cc in ap (λ (ys : List Header). Some (map (fill_header vs) ys)) is
headers_filled vs (Some xs) hs e h = list_filled vs xs hs e h

-- ---- items

pointed_filled : (vs : List Tree) (r : Result Pointer ℕ) (v : Tree) (i : Pointer × Tree) → pointed_at r v ≡ Some i → pointed_at r (fill vs v) ≡ Some (i.0, fill vs i.1)
pointed_filled vs (Err n) v i e = cc
pointed_filled vs (Ok q) v i e = let is : (q, v) ≡ i = cc in ap (λ (x : Pointer × Tree). Some (x.0, fill vs x.1)) is

read_filled : (vs : List Tree) (xs : List (List ℕ × Tree)) (is : Items) → all_read item_of (tree_list (list_tree item_tree xs)) ≡ Some is → all_read item_of (tree_list (list_tree item_tree (filled_pairs (fill vs) xs))) ≡ Some (filled_items vs is)
read_filled vs [] is e = let same : [] ≡ is = cc in ap (λ (ys : Items). Some (filled_items vs ys)) same
read_filled vs (x ∷ xs) is e =
    let s = onto_some (item_of (item_tree x)) (all_read item_of (tree_list (list_tree item_tree xs))) is e in
    ap₂ onto_read (pointed_filled vs (read_pointer x.0) x.1 s.0 s.2) (read_filled vs xs s.1 s.3) ∙ ap (λ (ys : Items). Some (filled_items vs ys)) (sym s.4)

pub items_filled : (vs : List Tree) (o : Option (List (List ℕ × Tree))) (is : Items) → items_of (list_node item_tree o) ≡ Some is → items_of (list_node item_tree (opt_pairs (fill vs) o)) ≡ Some (filled_items vs is)
items_filled vs None is e = let same : [] ≡ is = cc in ap (λ (ys : Items). Some (filled_items vs ys)) same
items_filled vs (Some xs) is e = read_filled vs xs is e

any_filled : (vs : List Tree) (f : Pointer → Bool) (is : Items) → list_any (λ k. f k.0) (filled_items vs is) ≡ list_any (λ k. f k.0) is
any_filled vs f [] = refl
any_filled vs f (i ∷ is) = ap (λ b. f i.0 || b) (any_filled vs f is)

-- the paths stay
pub apart_filled : (vs : List Tree) (is : Items) → is_apart (filled_items vs is) ≡ is_apart is
apart_filled vs [] = refl
apart_filled vs (i ∷ is) = ap₂ (λ b c. (not (list_any (bytes_eq mark) i.0) && not b) && c) (any_filled vs (λ q. is_prefix i.0 q || is_prefix q i.0) is) (apart_filled vs is)
