-- Patching commutes with filling, of an entry that was applied.
use Rattle.std.specs.Prelude.{◌≡◌, ℕ, List, Option, Some, Ok}
use Rattle.spec_documents.specs.Tree.{Tree}
use Rattle.spec_documents.specs.Patch.{Op}
use Rattle.spec_documents.specs.Hole.{fill_all, fill_tree}
use Rattle.spec_messages.specs.Message.{Message}
use Rattle.spec_messages.specs.Policy.{Policy}
use Rattle.spec_messages.specs.Split.{filled, fill_whole}
use Rattle.spec_messages.specs.Block.{IsBlock, StandsFor}
use Rattle.spec_messages.specs.Changed.{patched_all}
use Rattle.spec_messages.specs.Outcome.{Ground, AppliedOn}
use Rattle.spec_messages.specs.Steps.{EntryStep, Fills, InOrder, HoleOf, HasValue, EntryKept, EntryModifiable}

-- what a block is: how many holes it has, and the message that it stands for
pub record BlockOf (j : Tree) : Type 0 where
  pub holes : ℕ
  pub clear : Message
  pub block : IsBlock j holes clear

-- an intermediary is to change the block, under a policy's mapping
abbrev pub ground : Policy → Option ℕ → List ℕ → (j : Tree) → BlockOf j → Ground
ground pol k ipx j b = record { policy = pol; mapping = k; ipx = ipx; holes = b.holes; tree = j; clear = b.clear; block = b.block }

-- the operations, each allowed, make of the block the block w, which stands for d
abbrev pub entry_step : (g : Ground) (ops : List Op) (w : Tree) (d : Message) → AppliedOn g ops (w, d) → EntryStep
entry_step g ops w d applied = record {
  policy = g.policy;
  mapping = g.mapping;
  ipx = g.ipx;
  holes = g.holes;
  operations = ops;
  before = g.tree;
  clear = g.clear;
  after = w;
  patched = d;
  block = g.block;
  applied = applied;
}

-- the operations, each allowed, make of the block the block w, and P is true of that
pub record Applied (g : Ground) (ops : List Op) (w : Tree) (P : EntryStep → Type 0) : Type 0 where
  pub message : Message
  pub applied : AppliedOn g ops (w, message)
  pub holds : P (entry_step g ops w message applied)

-- the same operations make of the filled tree the filled tree of the new block, which stands for the filled message
pub record FillsAlike (s : EntryStep) : Type 0 where
  pub tree : (f : Fills s.clear) → patched_all s.operations (fill_all f.values s.before) ≡ Ok (fill_all f.values s.after)
  pub before : (f : Fills s.clear) → fill_tree f.values s.before ≡ Some (fill_all f.values s.before)
  pub after : (f : Fills s.clear) → fill_tree f.values s.after ≡ Some (fill_all f.values s.after)
  pub message : (f : Fills s.clear) → filled f.values s.patched ≡ Some (fill_whole f.values s.patched)
  pub stands : (f : Fills s.clear) → InOrder f.values → StandsFor (fill_all f.values s.after) (fill_whole f.values s.patched)

-- each value stands in the new filled message where it stood in the old one
pub record KeepsValues (s : EntryStep) : Type 0 where
  pub before : (f : Fills s.clear) (h : HoleOf s.clear) → HasValue h f.values f.full
  pub after : (f : Fills s.clear) (h : HoleOf s.clear) → HasValue h f.values (fill_whole f.values s.patched)

-- each address that was changed was modifiable in its step, and what stands at no such address stays
pub record ChangesAllowed (s : EntryStep) : Type 0 where
  pub modifiable : EntryModifiable s
  pub kept : (f : Fills s.clear) → InOrder f.values → EntryKept s f.full (fill_whole f.values s.patched)
