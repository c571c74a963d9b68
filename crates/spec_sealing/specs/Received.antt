-- The reformatted document (after TS 29.573 clause 5.3.2 and TS 33.501 clause 13.2.4.3; member names are this project's own): `{"reformattedData":{flattened JWE},"modificationsBlock":[entries]}`.
use Rattle.std.specs.Prelude.{ℕ, List, [], ◌∷◌, length, ◌&&◌, nat_le, Option, Some, None, is_some, option_and_then, Result, Ok, if◌then◌else◌, codes}
use Rattle.spec_documents.specs.Tree.{Tree, null, truth, whole, words, items, members, get_member, tree_list, object}
use Rattle.spec_documents.specs.Chain.{◌>>=◌}
use Rattle.spec_documents.specs.Base64url.{bytes_of}
use Rattle.spec_documents.specs.Reading.{document_of}
use Rattle.spec_documents.specs.Ids.{hex_after}
use Rattle.spec_messages.specs.Message.{Kind, of_request, of_response, wanted}
use Rattle.spec_messages.specs.Block.{Meta, is_object, members_of}
use Rattle.spec_messages.specs.Fault.{is_meta_node, meta_of, member_or_null}
use Rattle.spec_sealing.specs.Header.{object_in}
use Rattle.spec_sealing.specs.Jwe.{Jwe, jwe_in, jwe_tree}

-- what a document of the form says
pub record Received : Type 0 where
  pub jwe : Jwe
  pub block : Tree
  -- the receiver's context, and the message in it
  pub context : ℕ
  pub message : ℕ
  pub authorized : List ℕ
  pub kind : Kind
  pub entries : List Tree

-- the block of an `aad` text, with `metaData` in its grammar
abbrev pub if_has_meta : Tree → Option Tree
if_has_meta j = if is_object j && is_meta_node (get_member (codes "metaData") (members_of j)) then Some j else None

abbrev pub block_in : List ℕ → Option Tree
block_in aad = option_and_then if_has_meta (option_and_then document_of (bytes_of aad))

abbrev pub metadata_of : Tree → Meta
metadata_of j = meta_of (members_of (member_or_null (codes "metaData") (members_of j)))

-- a block with a status is a response's
abbrev pub kind_in : Tree → Kind
kind_in j = if is_some (get_member (codes "statusLine") (members_of j)) then of_response else of_request

abbrev pub at_most_two : List Tree → Option (List Tree)
at_most_two ts = if nat_le (length ts) 2 then Some ts else None

-- no member, null and a list of at most two items have the form
abbrev pub entries_in : Option Tree → Option (List Tree)
entries_in None = Some []
entries_in (Some null) = Some []
entries_in (Some (truth b)) = None
entries_in (Some (whole z)) = None
entries_in (Some (words s)) = None
entries_in (Some (items ts)) = at_most_two (tree_list ts)
entries_in (Some (members ms)) = None

-- the parts of a document with this JWE, its block and its entries. The ids are those of `metaData`
abbrev pub parts_of : Jwe → Tree → List Tree → Received
parts_of w j entries = record {
  jwe = w;
  block = j;
  context = hex_after 0 (metadata_of j).context;
  message = hex_after 0 (metadata_of j).message;
  authorized = (metadata_of j).ipx;
  kind = kind_in j;
  entries = entries;
}

-- the document's parts, or the first member that has not its form
abbrev pub received : Tree → Result Received (List ℕ)
received t = do
  ms ← wanted (object_in t) (codes "document")
  inner ← wanted (option_and_then object_in (get_member (codes "reformattedData") ms)) (codes "reformattedData")
  w ← jwe_in inner
  j ← wanted (block_in w.aad) (codes "aad")
  entries ← wanted (entries_in (get_member (codes "modificationsBlock") ms)) (codes "modificationsBlock")
  Ok (parts_of w j entries)

-- ---- what is sent

-- the document that carries a JWE, without entries
abbrev pub carrier : Jwe → Tree
carrier w = members (object ((codes "reformattedData", jwe_tree w) ∷ []))
