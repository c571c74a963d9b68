-- Blocks whose messages have fills, before entries and after them.
use Rattle.std.specs.Prelude.{◌≡◌, List, length, Some, None}
use Rattle.spec_documents.specs.Tree.{Tree}
use Rattle.spec_messages.specs.Message.{Message}
use Rattle.spec_messages.specs.Block.{IsBlock, clear_message}
use Rattle.spec_messages.specs.Fault.{block_fault}
use Rattle.spec_messages.specs.Rebuilt.{fill_fault}
use Rattle.spec_messages.specs.Split.{filled}
use Rattle.spec_messages.specs.Steps.{InOrder}
use Rattle.receiving_sepp.specs.Groups.{Rebuilt}

-- the values, whose names are in order, fill the message of the block
pub record Stands (m : Rebuilt) : Type 0 where
  pub block : IsBlock m.block (length m.values) m.holed
  pub filled : filled m.values m.holed ≡ Some m.content
  pub ordered : InOrder m.values

-- the values fill the message
abbrev pub Fits : List Tree → Message → Type 0
Fits vs c = fill_fault vs c ≡ None

-- the message of a block with a hole for each of these values, which fill it
pub record HasFill (j : Tree) (vs : List Tree) : Type 0 where
  pub holed : Message
  pub right : block_fault j (length vs) ≡ None
  pub clear : clear_message j ≡ Some holed
  pub fits : Fits vs holed
