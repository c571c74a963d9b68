-- The messages whose sent block is a block: what the laws of splitting start from.
use Rattle.std.specs.Prelude.{◌≡◌, ◌≤◌, true, ℕ, length, Option, Ok, IsTrue}
use Rattle.spec_documents.specs.Tree.{Tree}
use Rattle.spec_documents.specs.Place.{Pointer, at}
use Rattle.spec_documents.specs.Hole.{hole, is_marked}
use Rattle.spec_messages.specs.Message.{Message, is_whole, body_depth}
use Rattle.spec_messages.specs.Policy.{Policy, values}
use Rattle.spec_messages.specs.Split.{cleared}
use Rattle.spec_messages.specs.Block.{Meta, is_meta, is_ordered_body, in_limits, block_of, sent_block, IsBlock}

-- a whole message with at most 1,024 secret values
pub record Splits (pol : Policy) (k : Option ℕ) (m : Message) : Type 0 where
  pub whole : IsTrue (is_whole m)
  pub ordered : IsTrue (is_ordered_body m.body)
  pub few : length (values pol k m) ≤ 1024

-- a whole message that nests at most 64 deep, whose block keeps the limits
pub record Sendable (pol : Policy) (k : Option ℕ) (m : Message) (meta : Meta) : Type 0 where
  pub whole : IsTrue (is_whole m)
  pub ordered : IsTrue (is_ordered_body m.body)
  pub shallow : body_depth m.body ≤ 64
  pub metadata : IsTrue (is_meta meta)
  pub limits : IsTrue (in_limits (block_of (cleared pol k m) meta) (length (values pol k m)))

-- each object of t with a member `encBlockIndex` is a hole
abbrev pub MarksAreHoles : Tree → Type 0
MarksAreHoles t = (q : Pointer) (u : Tree) → at t q ≡ Ok u → is_marked u ≡ true → (i : ℕ) × (u ≡ hole i)

-- the sent block is a block with as many holes as there are values, and stands for the cleared message
abbrev pub SentIsBlock : Policy → Option ℕ → Message → Meta → Type 0
SentIsBlock pol k m meta = IsBlock (sent_block pol k m meta) (length (values pol k m)) (cleared pol k m)
