-- What reading a document of the handshake may answer.
use Rattle.std.specs.Prelude.{ℕ, Bool, true, false, List, Option, Some, None, option_map, Result, Ok, Err}
use Rattle.spec_documents.specs.Tree.{Tree, Members}
use Rattle.spec_messages.specs.Message.{text_if, any_text, all_read}
use Rattle.spec_handshake.specs.Documents.{known, Content, Request, Response}
use Rattle.context_records.specs.declared.read.RecordRead.{RecordRead}
use Rattle.context_records.specs.declared.read.RecordRead.TheVariants as records
use Rattle.n32c_handshake.specs.declared.member.HandMember.{HandMember}
use Rattle.n32c_handshake.specs.declared.read.DocumentRead.{DocumentRead}
use Rattle.n32c_handshake.specs.declared.read.DocumentRead.TheVariants.{Member, NoMemory}
use Rattle.n32c_handshake.specs.Members.{member_name}

-- the member that is told, where memory sufficed
abbrev pub told : DocumentRead → Option (List ℕ)
told (Member k) = Some (member_name k)
told NoMemory = None

-- a refusal of a member is told by its name
abbrev pub of_member : {A : Type 0} → HandMember → Result A RecordRead → Result A DocumentRead
of_member k (Ok x) = Ok x
of_member k (Err records.Form) = Err (Member k)
of_member k (Err records.NoMemory) = Err NoMemory

-- what a document carries, where the test says whether it is a request
abbrev pub content_view : Bool → Members → Content
content_view true ms = Request ms
content_view false ms = Response ms

-- the known words of a list of texts
abbrev pub known_words : {A : Type 0} → (List ℕ → Option A) → List Tree → Option (List A)
known_words f ts = option_map (known f) (all_read (text_if any_text) ts)
