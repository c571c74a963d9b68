-- What values of the program are in the words of the definitions.
use Rattle.std.specs.Prelude.{ℕ, List, [], Option, Some, None, unwrap_or, codes}
use Rattle.spec_documents.specs.Tree.{Tree, get_member, items_in}
use Rattle.spec_messages.specs.Block.{members_of}
use Rattle.spec_sealing.specs.Received.{Received}
use Rattle.http_message.specs.Reading.{kind_view}
use Rattle.jwe_flat.specs.View.{jwe_view, member_name}
use Rattle.prins_document.specs.declared.document.WireDoc.{WireDoc}
use Rattle.prins_document.specs.declared.document.WireMember.{WireMember}
use Rattle.prins_document.specs.declared.document.WireMember.TheVariants.{Document, Jwe, Block, ModificationsBlock}
use Rattle.prins_document.specs.declared.document.WireRead.{WireRead}
use Rattle.prins_document.specs.declared.document.WireRead.TheVariants.{Form, NoMemory}

-- the list `modificationsBlock` of a document, if it is one
abbrev pub entries_of : Tree → Option (List Tree)
entries_of t = items_in (get_member (codes "modificationsBlock") (members_of t))

-- what w says, with these entries
abbrev pub parts_view : List Tree → WireDoc → Received
parts_view entries w = record {
  jwe = jwe_view w.jwe;
  block = w.block;
  context = w.context.value;
  message = w.message.value;
  authorized = w.authorized;
  kind = kind_view w.kind;
  entries = entries;
}

-- what w says of the document that it was read of
abbrev pub wire_view : Tree → WireDoc → Received
wire_view t w = parts_view (unwrap_or (entries_of t) []) w

-- the name by which a refusal tells a part
abbrev pub part_name : WireMember → List ℕ
part_name Document = codes "document"
part_name (Jwe k) = member_name k
part_name Block = codes "aad"
part_name ModificationsBlock = codes "modificationsBlock"

-- the part that an error tells
abbrev pub part_told : WireRead → Option (List ℕ)
part_told (Form part) = Some (part_name part)
part_told NoMemory = None
