-- An operation, an entry and a chain of entries, each allowed, with the block before and after. What the laws of patching start from.
use Rattle.std.specs.Prelude.{◌≡◌, ◌≤◌, true, ℕ, List, Option, Some, Result, Ok}
use Rattle.std.specs.List.{list_all}
use Rattle.spec_documents.specs.Tree.{Tree, depth, is_ordered}
use Rattle.spec_documents.specs.Place.{Cause}
use Rattle.spec_documents.specs.Patch.{Op}
use Rattle.spec_documents.specs.Hole.{value_at, fill_all, fill_tree}
use Rattle.spec_messages.specs.Message.{Message}
use Rattle.spec_messages.specs.Policy.{Policy, Spot, Address, differs, is_modifiable}
use Rattle.spec_messages.specs.Split.{filled}
use Rattle.spec_messages.specs.Block.{IsBlock}
use Rattle.spec_messages.specs.Entry.{Allowed, EntryApplied}
use Rattle.spec_messages.specs.Changed.{Kept, changed_by, EachModifiable, Entries, ChainApplied, changed_along, AllModifiable}
use Rattle.spec_messages.specs.Standing.{standing, HoleAt}

-- the block `before` with n holes stands for `clear`, and the operation makes of it the block `after`, which stands for `patched`
pub record Step : Type 0 where
  pub policy : Policy
  pub mapping : Option ℕ
  pub ipx : List ℕ
  pub holes : ℕ
  pub operation : Op
  pub before : Tree
  pub clear : Message
  pub after : Tree
  pub patched : Message
  pub block : IsBlock before holes clear
  pub allowed : Allowed policy mapping ipx holes before clear operation after patched

-- the same for the operations of an entry, in order
pub record EntryStep : Type 0 where
  pub policy : Policy
  pub mapping : Option ℕ
  pub ipx : List ℕ
  pub holes : ℕ
  pub operations : List Op
  pub before : Tree
  pub clear : Message
  pub after : Tree
  pub patched : Message
  pub block : IsBlock before holes clear
  pub applied : EntryApplied policy mapping ipx holes before clear operations after patched

-- the same for a chain of entries, in order
pub record ChainStep : Type 0 where
  pub policy : Policy
  pub mapping : Option ℕ
  pub holes : ℕ
  pub entries : Entries
  pub before : Tree
  pub clear : Message
  pub after : Tree
  pub patched : Message
  pub block : IsBlock before holes clear
  pub applied : ChainApplied policy mapping holes before clear entries after patched

-- values with which the fill of a message is there: it is `full`
pub record Fills (m : Message) : Type 0 where
  pub values : List Tree
  pub full : Message
  pub is : filled values m ≡ Some full

-- the addresses in the differences of the entry's operations, and of all the chain's
abbrev pub entry_changes : EntryStep → List Address
entry_changes s = changed_by s.policy s.mapping s.ipx s.holes s.operations s.before s.clear s.after s.patched s.applied

abbrev pub chain_changes : ChainStep → List Address
chain_changes s = changed_along s.policy s.mapping s.holes s.entries s.before s.clear s.after s.patched s.applied

-- each of them was modifiable in its step, for the identity of its entry
abbrev pub EntryModifiable : EntryStep → Type 0
EntryModifiable s = EachModifiable s.policy s.mapping s.ipx s.holes s.operations s.before s.clear s.after s.patched s.applied

abbrev pub ChainModifiable : ChainStep → Type 0
ChainModifiable s = AllModifiable s.policy s.mapping s.holes s.entries s.before s.clear s.after s.patched s.applied

-- values with which the fill of a tree is there: it is `full`
pub record FillsTree (j : Tree) : Type 0 where
  pub values : List Tree
  pub full : Tree
  pub is : fill_tree values j ≡ Some full

-- at most as deep as a document may be
abbrev pub IsShallow : Tree → Type 0
IsShallow t = depth t ≤ 127

-- r is w filled with the values, which is there and at most so deep
abbrev pub GivesFilled : List Tree → Tree → ℕ → Result Tree Cause → Type 0
GivesFilled vs w limit r = (r ≡ Ok (fill_all vs w)) × (fill_tree vs w ≡ Some (fill_all vs w)) × (depth (fill_all vs w) ≤ limit)

-- the names of each value are in order
abbrev pub InOrder : List Tree → Type 0
InOrder vs = list_all is_ordered vs ≡ true

-- a hole of a message: its place and its index
pub record HoleOf (m : Message) : Type 0 where
  pub place : Spot
  pub index : ℕ
  pub stands : HoleAt m place index

-- the value of the hole stands at its place in x
abbrev pub HasValue : {m : Message} → HoleOf m → List Tree → Message → Type 0
HasValue h vs x = standing x h.place ≡ Some (value_at vs h.index)

-- what stands at no address that was changed is in both messages the same
abbrev pub StepKept : Step → Message → Message → Type 0
StepKept s m n = Kept s.policy s.mapping (differs s.policy s.mapping s.clear s.patched) m n

abbrev pub EntryKept : EntryStep → Message → Message → Type 0
EntryKept s m n = Kept s.policy s.mapping (entry_changes s) m n

abbrev pub ChainKept : ChainStep → Message → Message → Type 0
ChainKept s m n = Kept s.policy s.mapping (chain_changes s) m n

abbrev pub StepModifiable : Step → Type 0
StepModifiable s = list_all (λ a. is_modifiable s.policy s.mapping s.clear s.patched a s.ipx) (differs s.policy s.mapping s.clear s.patched) ≡ true
