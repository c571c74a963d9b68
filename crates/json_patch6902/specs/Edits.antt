-- What is done in place: a tree t becomes u, or stays where it is refused.
use Rattle.std.specs.Prelude.{◌≡◌, ⊤, ◌≤◌, ◌<◌, ◌+◌, ℕ, List, length, true, Option, Some, None, Result, Ok, Err}
use Rattle.std.specs.List.{insert}
use Rattle.spec_documents.specs.Tree.{Tree, items, trees, depth, is_tree}
use Rattle.spec_documents.specs.Place.{Pointer, Cause, ◌>>=◌, is_index, index_number, at, with}
use Rattle.spec_documents.specs.Patch.{child_added, added, patched}
use Rattle.spec_documents.specs.Patch as spec
use Rattle.spec_documents.proofs.EditLemmas.{Edit, adding, taking, replacing}
use Rattle.n32_values.specs.View.{tree_of}
use Rattle.n32_values.specs.declared.node.Node.{Node}
use Rattle.json_patch6902.specs.declared.fault.EditFault.{EditFault}
use Rattle.json_patch6902.specs.declared.fault.EditFault.TheVariants.{Cause as because, NoMemory}
use Rattle.json_patch6902.specs.declared.change.Change.{Change}
use Rattle.json_patch6902.specs.declared.change.Change.TheVariants.{Add, Take, Replace}
use Rattle.json_patch6902.specs.Faults.{cause_view}

-- a refusal tells the cause that is computed, and u is t. After want of memory nobody reads u
abbrev pub Refuses : Tree → Tree → Result Tree Cause → EditFault → Type 0
Refuses t u wanted (because why) = (wanted ≡ Err (cause_view why)) × (u ≡ t)
Refuses t u wanted NoMemory = ⊤

abbrev pub Edits : {A : Type 0} → Tree → Tree → Result Tree Cause → Result A EditFault → Type 0
Edits t u wanted (Ok x) = wanted ≡ Ok u
Edits t u wanted (Err e) = Refuses t u wanted e

-- an item of a list stands at i, where x points
pub record IsItemAt (x : List ℕ) (ts : List Tree) (i : ℕ) : Type 0 where
  pub index : is_index x ≡ true
  pub number : index_number x ≡ i
  pub within : i < length ts

-- what is added at x goes in before place i
pub record GoesInAt (x : List ℕ) (ts : List Tree) (i : ℕ) : Type 0 where
  pub within : i ≤ length ts
  pub becomes : (v : Tree) → child_added x v (items (trees ts)) ≡ Ok (items (trees (insert ts i v)))

-- whether something can be added: the result is there whatever is added, or the same cause
abbrev pub Takes : {A : Type 0} → (Tree → Result Tree Cause) → Result A EditFault → Type 0
Takes f (Ok x) = (v : Tree) → (w : Tree) × (f v ≡ Ok w)
Takes f (Err (because why)) = (v : Tree) → f v ≡ Err (cause_view why)
Takes f (Err NoMemory) = ⊤

-- what is said of v before it is added at p to t
pub record CanBeAdded (p : Pointer) (v t : Tree) : Type 0 where
  pub within : length p + depth v ≤ 127
  pub result : Tree
  pub there : added p v t ≡ Ok result
  pub value : is_tree v ≡ true

abbrev pub ChecksAdd : {A : Type 0} → Pointer → Tree → Tree → Result A EditFault → Type 0
ChecksAdd p v t (Ok x) = CanBeAdded p v t
ChecksAdd p v t (Err e) = Refuses t t (patched t (spec.add p v)) e

-- t with v in place of what stands at p
abbrev pub replaced : Pointer → Tree → Tree → Result Tree Cause
replaced p v t = at t p >>= λ u. Ok (with t p v)

-- a document's node
pub record IsDoc (t : Tree) : Type 0 where
  pub shallow : depth t ≤ 127
  pub tree : is_tree t ≡ true

-- ---- changes at a place

abbrev pub change_view : Change → Edit
change_view (Add v) = adding (tree_of v)
change_view Take = taking
change_view (Replace v) = replacing (tree_of v)

-- a node is handed out, which stood at p
abbrev pub Taken : Pointer → Tree → Option Node → Type 0
Taken p t None = ⊥
Taken p t (Some n) = at t p ≡ Ok (tree_of n)

abbrev pub TakenBy : Change → Pointer → Tree → Option Node → Type 0
TakenBy (Add v) p t o = ⊤
TakenBy Take p t o = Taken p t o
TakenBy (Replace v) p t o = ⊤

-- the value of an operation that puts it is a tree
abbrev pub HoldsTree : spec.Op → Type 0
HoldsTree (spec.add p v) = is_tree v ≡ true
HoldsTree (spec.remove p) = ⊤
HoldsTree (spec.replace p v) = is_tree v ≡ true
HoldsTree (spec.move from p) = ⊤
HoldsTree (spec.copy from p) = ⊤
HoldsTree (spec.test p v) = ⊤

-- a copy of what stands at from, which can be added at p
abbrev pub CopiesFrom : Pointer → Pointer → Tree → Result Node EditFault → Type 0
CopiesFrom from p t (Ok n) = (at t from ≡ Ok (tree_of n)) × CanBeAdded p (tree_of n) t
CopiesFrom from p t (Err e) = Refuses t t (patched t (spec.copy from p)) e
