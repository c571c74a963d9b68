-- What is kept of a block that was read.
use Rattle.std.specs.Prelude.{◌≡◌, ◌≤◌, ⊤, ℕ, List, [], ◌∷◌, Bool, false, Option, Some, None, Result, Ok, codes}
use Rattle.spec_documents.specs.Tree.{Tree, get_member}
use Rattle.spec_documents.specs.Place.{Pointer}
use Rattle.spec_documents.specs.Hole.{HolePlace, HoleFault, places}
use Rattle.spec_messages.specs.Message.{Message, head_of, headers_of, body_depth}
use Rattle.spec_messages.specs.Policy.{result_ok}
use Rattle.spec_messages.specs.Block.{Items, members_of, body_of, clear_message}
use Rattle.spec_messages.specs.Fault.{list_of, first_pathless, member_or_null}
use Rattle.http_message.specs.declared.form.Form.TheVariants.{Block}
use Rattle.http_message.specs.declared.line.Head.{Head}
use Rattle.http_message.specs.Forms.{parts_of}
use Rattle.http_message.specs.Reading.{head_view}
use Rattle.block_forms.specs.Paths.{paths_of}
use Rattle.block_forms.specs.Faults.{later_fault}
use Rattle.block_forms.specs.declared.line.LineRead.{LineRead}
use Rattle.block_forms.specs.declared.line.LineRead.TheVariants.{NoLine, NoMemory as NoRoom}
use Rattle.block_forms.specs.declared.parts.MembersRead.{MembersRead}
use Rattle.block_forms.specs.declared.parts.MembersRead.TheVariants.{Member, NoMemory}
use Rattle.block_forms.specs.declared.fault.Payload.{Payload}
use Rattle.block_forms.specs.declared.fault.BlockParts.{BlockParts}

-- the items of a block
abbrev pub payload_of : Tree → List Tree
payload_of j = list_of (get_member (codes "payload") (members_of j))

-- each item's path and its value
abbrev pub items_with : List Pointer → List Tree → Items
items_with [] ts = []
items_with (p ∷ ps) [] = []
items_with (p ∷ ps) (t ∷ ts) = (p, member_or_null (codes "value") (members_of t)) ∷ items_with ps ts

-- the line that is read of a block
abbrev pub ReadsHead : Head → Tree → Type 0
ReadsHead h j = result_ok (head_of (parts_of Block) (members_of j)) ≡ Some (head_view h)

-- why a line isn't read, where `read` says whether it can be
abbrev pub RefusesLine : LineRead → Bool → Type 0
RefusesLine NoLine read = read ≡ false
RefusesLine NoRoom read = ⊤

abbrev pub RefusesMembers : MembersRead → Option (List ℕ) → Type 0
RefusesMembers (Member name) fault = fault ≡ Some name.now
RefusesMembers NoMemory fault = ⊤

-- the paths of these items, and the holes that were found
pub record ReadsPayload (p : Payload) (ts : List Tree) (found : Result (List HolePlace) HoleFault) : Type 0 where
  pub right : later_fault ts found ≡ None
  pub paths : p.paths ≡ paths_of ts
  pub holes : found ≡ Ok p.holes

-- what is read of j, a block with n values
pub record ReadsParts (p : BlockParts) (j : Tree) (n : ℕ) : Type 0 where
  pub head : ReadsHead p.head j
  pub payload : ReadsPayload p.payload (payload_of j) (places j n)

-- the message that a block stands for, by what is read of the block
pub record Stands (j : Tree) : Type 0 where
  pub message : Message
  pub clear : clear_message j ≡ Some message
  pub head : result_ok (head_of (parts_of Block) (members_of j)) ≡ Some message.head
  pub headers : headers_of (parts_of Block) (get_member (codes "headers") (members_of j)) ≡ Some message.headers
  pub body : message.body ≡ body_of (items_with (paths_of (payload_of j)) (payload_of j))
  pub low : body_depth message.body ≤ 65
