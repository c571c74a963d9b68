-- Entries of intermediaries (after TS 29.573 clause 5.3.2 and TS 33.501 clause 13.2.4.5; member names are this project's own): a signed list of JSON Patch operations, bound to the tag of the JWE that it is for.
use Rattle.std.specs.Prelude.{◌≡◌, ℕ, ◌≤◌, List, [], ◌∷◌, Option, Some, None, Result, Ok, Err, IsTrue, IsUtf8, codes}
use Rattle.base64.specs.GeneralPurpose.{IsBytes}
use Rattle.spec_documents.specs.Tree.{Tree, null, truth, whole, words, items, members, no_items, item, Members, get_member, object, depth}
use Rattle.spec_documents.specs.Document.{IsDocument}
use Rattle.spec_documents.specs.Chain.{◌>>=◌}
use Rattle.spec_documents.specs.Compact.{compact_text}
use Rattle.spec_documents.specs.Base64url.{base64url}
use Rattle.spec_documents.specs.Text.{is_identity}
use Rattle.spec_documents.specs.Patch.{Op}
use Rattle.spec_documents.specs.Operations.{ops_of}
use Rattle.spec_messages.specs.Message.{text_at, any_text, wanted}
use Rattle.spec_sealing.specs.Jws.{Algorithm, Jws, jws_in, payload_in, signing_input, signed_header, jws_members}

-- what the payload of an entry says: whose it is, its operations where it has any, and the text of the tag
pub record Entry : Type 0 where
  pub identity : List ℕ
  pub operations : Option Tree
  pub tag : List ℕ

-- an entry as it was signed
pub record SignedEntry : Type 0 where
  pub jws : Jws
  pub entry : Entry

-- ---- reading

abbrev pub if_patch : Tree → Result (List Op) ℕ → Option (Option Tree)
if_patch t (Ok ops) = Some (Some t)
if_patch t (Err k) = None

-- no member, null and an empty list change nothing, else the operations of a patch have the form
abbrev pub operations_in : Option Tree → Option (Option Tree)
operations_in None = Some None
operations_in (Some null) = Some None
operations_in (Some (truth b)) = None
operations_in (Some (whole z)) = None
operations_in (Some (words s)) = None
operations_in (Some (items no_items)) = Some None
operations_in (Some (items (item t ts))) = if_patch (items (item t ts)) (ops_of (items (item t ts)))
operations_in (Some (members ms)) = None

abbrev pub ops_or_none : Result (List Op) ℕ → List Op
ops_or_none (Ok ops) = ops
ops_or_none (Err k) = []

abbrev pub ops_in : Option Tree → List Op
ops_in None = []
ops_in (Some t) = ops_or_none (ops_of t)

-- its operations in order, none where it changes nothing
abbrev pub entry_ops : Entry → List Op
entry_ops e = ops_in e.operations

-- the entry of a payload's text, or the first member that has not its form
abbrev pub entry_of : List ℕ → Result Entry (List ℕ)
entry_of payload = do
  ms ← wanted (payload_in payload) (codes "payload")
  identity ← wanted (text_at is_identity (codes "identity") ms) (codes "identity")
  operations ← wanted (operations_in (get_member (codes "operations") ms)) (codes "operations")
  tag ← wanted (text_at any_text (codes "tag") ms) (codes "tag")
  Ok (record { identity = identity; operations = operations; tag = tag })

-- the entry that a tree is, or the first member that has not its form
abbrev pub entry_in : Tree → Result SignedEntry (List ℕ)
entry_in t = do
  w ← jws_in t
  e ← entry_of w.payload
  Ok (record { jws = w; entry = e })

-- ---- writing

abbrev pub payload_members : List ℕ → Tree → List ℕ → Members
payload_members identity operations tag = object (
    (codes "identity", words identity)
    ∷ (codes "operations", operations)
    ∷ (codes "tag", words tag) ∷ [])

abbrev pub entry_payload : List ℕ → Tree → List ℕ → List ℕ
entry_payload identity operations tag = base64url (compact_text (members (payload_members identity operations tag)))

-- what is signed of an entry
abbrev pub entry_input : Algorithm → List ℕ → Tree → List ℕ → List ℕ
entry_input a identity operations tag = signing_input (signed_header a) (entry_payload identity operations tag)

-- an entry with this signature
abbrev pub entry_tree : Algorithm → List ℕ → Tree → List ℕ → List ℕ → Tree
entry_tree a identity operations tag signature =
    members (jws_members (signed_header a) (entry_payload identity operations tag) signature)

-- with the signature that a function gives of the signing input
abbrev pub signed_entry : Algorithm → List ℕ → Tree → List ℕ → (List ℕ → List ℕ) → Tree
signed_entry a identity operations tag sign = entry_tree a identity operations tag (sign (entry_input a identity operations tag))

-- ---- what was written, as it is read

-- what it takes of an entry's parts that it is read as it was written: an identity, operations that come to these, and values as those of the program
pub record CanBeRead (identity : List ℕ) (operations : Tree) (tag signature : List ℕ) (ops : Option Tree) : Type 0 where
  pub is_one : IsTrue (is_identity identity)
  pub form : operations_in (Some operations) ≡ Some ops
  pub shallow : depth operations ≤ 126
  pub identity_text : IsUtf8 identity
  pub document : IsDocument operations
  pub tag_text : IsUtf8 tag
  pub payload_bytes : IsBytes (compact_text (members (payload_members identity operations tag)))
  pub signature_bytes : IsBytes signature

abbrev pub written_entry : Algorithm → List ℕ → Tree → List ℕ → List ℕ → Option Tree → SignedEntry
written_entry a identity operations tag signature ops = record {
  jws = record { protected = signed_header a; payload = entry_payload identity operations tag; algorithm = a; signature = signature };
  entry = record { identity = identity; operations = ops; tag = tag };
}
