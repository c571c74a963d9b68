-- What an intermediary makes of a reformatted document (TS 33.501 clause 13.2.4.5 in outline): the document with an entry of its own after the others.
use Rattle.std.specs.Prelude.{ℕ, List, [], ◌∷◌, ◌++◌, length, nat_le, Result, Ok, codes}
use Rattle.spec_documents.specs.Tree.{Tree, items, members, put_member, trees}
use Rattle.spec_documents.specs.Chain.{◌>>=◌, unless}
use Rattle.spec_documents.specs.Base64url.{base64url}
use Rattle.spec_messages.specs.Block.{members_of}
use Rattle.spec_sealing.specs.Jwe.{Jwe}
use Rattle.spec_sealing.specs.Jws.{Algorithm}
use Rattle.spec_sealing.specs.Entries.{signed_entry}
use Rattle.spec_sealing.specs.Received.{Received, received}

-- the parts of a document that has room for an entry, or the first member that has not its form
abbrev pub with_room : Tree → Result Received (List ℕ)
with_room t = do
  parts ← received t
  _ ← unless (nat_le 2 (length parts.entries)) (codes "modificationsBlock")
  Ok parts

-- the text of `tag`, as it stands: of some bytes there is one
abbrev pub tag_text : Jwe → List ℕ
tag_text w = base64url w.tag

-- the document t with these entries and one more
abbrev pub with_entry : Tree → List Tree → Tree → Tree
with_entry t entries e = members (put_member (codes "modificationsBlock") (items (trees (entries ++ e ∷ []))) (members_of t))

-- what is passed on for an identity with its operations, as the function signs, or the first member of the document that has not its form
abbrev pub passed : Algorithm → List ℕ → Tree → (List ℕ → List ℕ) → Tree → Result Tree (List ℕ)
passed a identity operations sign t = do
  parts ← with_room t
  Ok (with_entry t parts.entries (signed_entry a identity operations (tag_text parts.jwe) sign))
