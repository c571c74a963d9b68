-- The sent block and the values of a message, put together from those of its parts.
use Rattle.std.proofs.Common.{◌≡◌, ℕ, ◌+◌, List, [], ◌∷◌, ◌++◌, map, length, Option, refl, sym, ap, append_assoc, ◌∙◌}
use Rattle.std.specs.Prelude.{codes}
use Rattle.spec_documents.specs.Tree.{Tree, items, members, Members, member, trees}
use Rattle.spec_documents.specs.Place.{Pointer, pointer_text}
use Rattle.spec_documents.specs.Text.{lower}
use Rattle.spec_messages.specs.Message.{Message, Header, kind_of}
use Rattle.spec_messages.specs.Policy.{Policy, Spot, line_secrets, body_secrets, numbered, header_spot, body_spot, part_value, is_secret_header, values}
use Rattle.spec_messages.specs.Printing.{header_pair}
use Rattle.spec_messages.specs.Split.{cleared, hide_head, hide_body, hide_each, hide_header}
use Rattle.spec_messages.specs.Block.{Items, Meta, item_tree, header_tree, meta_tree, with_list, list_tree, unless_empty, body_leaves, head_text, line_members, sent_block}
use Rattle.reformat_blocks.specs.Sent.{item_trees, stood, with_items, sent_members}
use Rattle.reformat_blocks.proofs.Hiding.{length-map, map-append}

-- ---- items as a member

trees-items : (is : Items) → trees (item_trees is) ≡ list_tree item_tree (map (λ i. (pointer_text i.0, i.1)) is)
trees-items [] = refl
trees-items (i ∷ is) = ap (Rattle.spec_documents.specs.Tree.item (item_tree (pointer_text i.0, i.1))) (trees-items is)

items_with : (is : Items) (ms : Members) → with_items (item_trees is) ms ≡ with_list (codes "payload") item_tree (unless_empty (map (λ i. (pointer_text i.0, i.1)) is)) ms
items_with [] ms = refl
items_with (i ∷ is) ms = ap (λ ts. member (codes "payload") (items ts) ms) (trees-items (i ∷ is))

-- ---- the block

abbrev header_secrets : Policy → Option ℕ → Message → ℕ
header_secrets pol k m = length (numbered (λ i. is_secret_header pol k (kind_of m)) header_spot (λ h. part_value h.value) 0 m.headers)

counted : {S : Type 0} (vs : List Tree) (ss : List (S × Tree)) → vs ≡ stood ss → length vs ≡ length ss
counted vs ss e = ap length e ∙ length-map (λ s. s.1) ss

pub assembled_block : (pol : Policy) (k : Option ℕ) (m : Message) (meta : Meta) (vs : List Tree) (line : Members) → vs ≡ stood (line_secrets pol k (kind_of m) m.head) → line ≡ line_members (head_text (hide_head pol k (kind_of m) m.head))
    → members (sent_members (hide_each (λ i. is_secret_header pol k (kind_of m)) hide_header 0 (length vs) m.headers) (record { context = lower meta.context; message = lower meta.message; ipx = meta.ipx })
    (item_trees (body_leaves (hide_body pol k (kind_of m) (length vs + header_secrets pol k m) m.body))) line) ≡ sent_block pol k m meta
assembled_block pol k m meta vs line stands is =
    let kind = kind_of m in
    let low : Meta = record { context = lower meta.context; message = lower meta.message; ipx = meta.ipx } in
    let hidden : ℕ → List Header = λ n. hide_each (λ i. is_secret_header pol k kind) hide_header 0 n m.headers in
    let own : ℕ → Items = λ n. body_leaves (hide_body pol k kind (n + header_secrets pol k m) m.body) in
    let first = length (line_secrets pol k kind m.head) in
    let own_line = line_members (head_text (hide_head pol k kind m.head)) in
    ap (λ n. members (sent_members (hidden n) low (item_trees (own n)) line)) (counted vs (line_secrets pol k kind m.head) stands)
    ∙ ap (λ l. members (sent_members (hidden first) low (item_trees (own first)) l)) is
    ∙ ap (λ z. members (with_list (codes "headers") header_tree (unless_empty (map header_pair (hidden first))) (member (codes "metaData") (meta_tree low) z))) (items_with (own first) own_line)

pub assembled_items : (pol : Policy) (k : Option ℕ) (m : Message) (vs : List Tree) → vs ≡ stood (line_secrets pol k (kind_of m) m.head)
    → length (body_leaves (hide_body pol k (kind_of m) (length vs + header_secrets pol k m) m.body)) ≡ length (body_leaves (cleared pol k m).body)
assembled_items pol k m vs stands = ap (λ n. length (body_leaves (hide_body pol k (kind_of m) (n + header_secrets pol k m) m.body))) (counted vs (line_secrets pol k (kind_of m) m.head) stands)

-- ---- the values

stood-spots : (ss : List (Pointer × Tree)) → stood (map (λ s. (body_spot s.0, s.1)) ss) ≡ stood ss
stood-spots [] = refl
stood-spots (s ∷ ss) = ap (λ ts. s.1 ∷ ts) (stood-spots ss)

pub assembled_values : (pol : Policy) (k : Option ℕ) (m : Message) (vs : List Tree) → vs ≡ stood (line_secrets pol k (kind_of m) m.head)
    → vs ++ (stood (numbered (λ i. is_secret_header pol k (kind_of m)) header_spot (λ h. part_value h.value) 0 m.headers) ++ stood (body_secrets pol k (kind_of m) m.body)) ≡ values pol k m
assembled_values pol k m vs stands =
    let kind = kind_of m in
    let lines = line_secrets pol k kind m.head in
    let headers = numbered (λ i. is_secret_header pol k kind) header_spot (λ h. part_value h.value) 0 m.headers in
    let spots : List (Spot × Tree) = map (λ s. (body_spot s.0, s.1)) (body_secrets pol k kind m.body) in
    ap (λ xs. xs ++ (stood headers ++ stood (body_secrets pol k kind m.body))) stands
    ∙ ap (λ xs. stood lines ++ (stood headers ++ xs)) (sym (stood-spots (body_secrets pol k kind m.body)))
    ∙ sym (append_assoc (stood lines) (stood headers) (stood spots))
    ∙ ap (λ xs. xs ++ stood spots) (sym (map-append (λ s. s.1) lines headers))
    ∙ sym (map-append (λ s. s.1) (lines ++ headers) spots)
