-- What splitting a message comes to: the sent block and its values, or the first limit that they pass (after TS 33.501 clause 13.2.4.3; the limits and their order are this project's own).
use Rattle.std.specs.Prelude.{ℕ, List, length, not, nat_le, Option, Some, None, Result, Ok, Err}
use Rattle.spec_documents.specs.Tree.{Tree}
use Rattle.spec_documents.specs.Compact.{compact_text}
use Rattle.spec_messages.specs.Message.{Message}
use Rattle.spec_messages.specs.Policy.{Policy, values}
use Rattle.spec_messages.specs.Split.{cleared}
use Rattle.spec_messages.specs.Block.{Meta, Block, at_most, block_of, block_tree}
use Rattle.spec_messages.specs.Fault.{first_of, when}
use Rattle.spec_messages.specs.Limits.{Limit, many_headers, many_items, many_values, long_block}

-- the first limit that a block with n values passes
abbrev pub split_limit : Block → (n : ℕ) → Option Limit
split_limit b n =
    first_of (when (not (at_most 256 b.headers)) many_headers)
    (first_of (when (not (at_most 4096 b.payload)) many_items)
    (first_of (when (not (nat_le n 1024)) many_values)
    (when (not (nat_le (length (compact_text (block_tree b))) 4194304)) long_block)))

-- a block and the values of its holes
abbrev pub Parts : Type 0
Parts = Tree × List Tree

abbrev pub within : Option Limit → Parts → Result Parts Limit
within None parts = Ok parts
within (Some limit) parts = Err limit

abbrev pub limited : Block → List Tree → Result Parts Limit
limited b vs = within (split_limit b (length vs)) (block_tree b, vs)

-- the sent block and the values of a message
abbrev pub splitting : Policy → Option ℕ → Message → Meta → Result Parts Limit
splitting pol k m meta = limited (block_of (cleared pol k m) meta) (values pol k m)
