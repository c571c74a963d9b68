-- The texts of answers that hold a document or a message.
use Rattle.std.specs.Prelude.{ℕ, List, [], ◌∷◌, Option, None, codes}
use Rattle.spec_documents.specs.Tree.{Tree, null, truth, whole, words, items, members, object, get_member}
use Rattle.spec_documents.specs.Compact.{compact_text}
use Rattle.spec_documents.specs.Ids.{id_text}
use Rattle.spec_messages.specs.Message.{Message}
use Rattle.spec_messages.specs.Printing.{message_tree}
use Rattle.spec_script.specs.Answers.{number_tree, document_tree}

-- the document has this number on the wire
abbrev pub document_answer : ℕ → Tree → ℕ → List ℕ
document_answer n document wire = compact_text (document_tree n document wire)

-- the message of this id is delivered
abbrev pub delivered_answer : ℕ → Message → ℕ → List ℕ
delivered_answer n m id = compact_text (members (object ((codes "delivered", message_tree m) ∷ (codes "line", number_tree n) ∷ (codes "message", words (id_text id)) ∷ [])))

-- the document that an answer holds
abbrev pub document_in : Tree → Option Tree
document_in null = None
document_in (truth b) = None
document_in (whole z) = None
document_in (words s) = None
document_in (items ts) = None
document_in (members ms) = get_member (codes "document") ms
