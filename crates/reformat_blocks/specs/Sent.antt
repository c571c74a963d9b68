-- A sent block, put together from its parts.
use Rattle.std.specs.Prelude.{ℕ, List, [], ◌∷◌, ◌+◌, map, length, Option, codes}
use Rattle.spec_documents.specs.Tree.{Tree, words, items, Members, no_members, member, trees}
use Rattle.spec_documents.specs.Place.{pointer_text}
use Rattle.spec_documents.specs.Text.{index_text}
use Rattle.spec_messages.specs.Message.{Header}
use Rattle.spec_messages.specs.Policy.{numbered, header_spot, part_value}
use Rattle.spec_messages.specs.Printing.{header_pair}
use Rattle.spec_messages.specs.Block.{Meta, Items, item_tree, header_tree, meta_tree, with_list, unless_empty}
use Rattle.spec_messages.specs.Split.{hide_body}
use Rattle.n32_values.specs.View.{tree_of}
use Rattle.policy_tables.specs.Covered.{Asked}
use Rattle.reformat_blocks.specs.Rules.{header_test}
use Rattle.reformat_blocks.specs.declared.sent.SentLine.{SentLine}
use Rattle.reformat_blocks.specs.declared.sent.SentLine.TheVariants as lines

abbrev pub item_trees : Items → List Tree
item_trees is = map (λ i. item_tree (pointer_text i.0, i.1)) is

-- what stood at the places
abbrev pub stood : {S : Type 0} → List (S × Tree) → List Tree
stood ss = map (λ s. s.1) ss

-- the member of the line
abbrev pub line_part : SentLine → Members
line_part (lines.Request n) = member (codes "requestLine") (tree_of n) no_members
line_part (lines.Status s) = member (codes "statusLine") (words (index_text s)) no_members

-- the list is absent where there is no item
abbrev pub with_items : List Tree → Members → Members
with_items [] ms = ms
with_items (t ∷ ts) ms = member (codes "payload") (items (trees (t ∷ ts))) ms

abbrev pub sent_members : List Header → Meta → List Tree → Members → Members
sent_members hs meta ts line =
    with_list (codes "headers") header_tree (unless_empty (map header_pair hs))
    (member (codes "metaData") (meta_tree meta) (with_items ts line))

-- the body with its holes, where n values stand before those of the headers
abbrev pub hidden_body : Asked → ℕ → List Header → Option Tree → Option Tree
hidden_body r n hs body = hide_body r.policy r.mapping r.kind (n + length (numbered (header_test r) header_spot (λ h. part_value h.value) 0 hs)) body
