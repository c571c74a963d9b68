-- What it takes that a document which nobody touched is delivered, of a request or of a response (this project's own).
use Rattle.std.specs.Prelude.{◌≡◌, ⊤, true, ℕ, ◌<◌, ◌≤◌, ◌^◌, List, length, Option, Some, None, IsTrue, ◌||◌, bytes_eq, codes}
use Rattle.base64.specs.GeneralPurpose.{IsBytes}
use Rattle.spec_documents.specs.Tree.{Tree, items, trees, depth}
use Rattle.spec_documents.specs.Compact.{compact_text}
use Rattle.spec_documents.specs.Document.{IsDocument}
use Rattle.spec_messages.specs.Message.{Message, kind_of, is_whole, body_depth}
use Rattle.spec_messages.specs.HeadMapping.{mapping_of_head}
use Rattle.spec_messages.specs.Policy.{values}
use Rattle.spec_messages.specs.Block.{Block, block_tree, is_ordered_body}
use Rattle.spec_records.specs.Keys.{nonce, send_key, receive_key}
use Rattle.spec_records.specs.Records.{OneKey, KeySet, Context, Record, record_limit, open_context, keys as keys_of, delivered_at, mapping_sent}
use Rattle.spec_sealing.specs.Suites.{content_key}
use Rattle.spec_sealing.specs.Jwe.{sealed}
use Rattle.spec_sealing.specs.Forms.{HasParts}
use Rattle.spec_sealing.specs.Plaintext.{plaintext}
use Rattle.spec_exchange.specs.Stages.{Delivery}
use Rattle.spec_exchange.specs.Calls.{Outgoing, Asks, Replies, Sealed, kind_of_outgoing, message_id, sent_block_of, sealed_document, authorized}
use Rattle.spec_messages.specs.Splitting.{split_limit}
use Rattle.spec_exchange.specs.Screens.{Passes}
use Rattle.spec_documents.specs.Text.{is_identity}

-- a message on its way: the sender's context, key and sequence number, and the mapping that it goes by
pub record Shipment : Type 0 where
  pub context : Context
  pub key : OneKey
  pub outgoing : Outgoing
  pub mapping : Option ℕ
  pub seq : ℕ
  pub content : Message

abbrev pub id_of : Shipment → ℕ
id_of s = message_id s.outgoing s.seq

abbrev pub block_of : Shipment → Block
block_of s = sent_block_of s.context s.mapping (id_of s) s.content

abbrev pub values_of : Shipment → List Tree
values_of s = values s.context.policy s.mapping s.content

abbrev pub document_of : Shipment → Tree
document_of s = sealed_document s.context s.key s.seq (block_of s) (values_of s)

-- what was answered to a message, as it goes
abbrev pub shipment : Context → KeySet → Outgoing → Message → Sealed → Shipment
shipment x k o m s = record { context = x; key = send_key (kind_of_outgoing o) k; outgoing = o; mapping = s.mapping; seq = s.seq; content = m }

-- ---- the sender's side

-- the request that is answered has an id of 64 bits
abbrev pub AnswersId : Outgoing → Type 0
AnswersId Asks = ⊤
AnswersId (Replies to) = to < 2 ^ 64

-- a request goes by its own head
abbrev pub OwnMapping : Outgoing → Context → Message → Option ℕ → Type 0
OwnMapping Asks x m mapping = mapping ≡ mapping_of_head x.policy m.head
OwnMapping (Replies to) x m mapping = ⊤

-- the peer's id has 64 bits, and the intermediary is an identity or `null`
pub record HasNames (x : Context) : Type 0 where
  pub peer : x.peer < 2 ^ 64
  pub ipx : IsTrue (is_identity (authorized x.own_ipx) || bytes_eq (authorized x.own_ipx) (codes "null"))

-- a whole message within the limits
pub record IsSendable (s : Shipment) : Type 0 where
  pub whole : IsTrue (is_whole s.content)
  pub ordered : IsTrue (is_ordered_body s.content.body)
  pub shallow : body_depth s.content.body ≤ 64
  pub kind : kind_of s.content ≡ kind_of_outgoing s.outgoing
  pub limits : split_limit (block_of s) (length (values_of s)) ≡ None
  pub mapped : OwnMapping s.outgoing s.context s.content s.mapping
  pub fits : id_of s < 2 ^ 64

-- texts are UTF-8, numbers are in range and bytes are bytes, as in each value of the program
pub record AreValues (s : Shipment) : Type 0 where
  pub block : IsDocument (block_tree (block_of s))
  pub block_bytes : IsBytes (compact_text (block_tree (block_of s)))
  pub plain : IsDocument (items (trees (values_of s)))
  pub plain_depth : depth (items (trees (values_of s))) ≤ 126
  pub parts : HasParts (sealed (content_key s.context.suite s.key.key) (nonce s.key s.seq) (compact_text (block_tree (block_of s))) (plaintext (values_of s)))

-- ---- the receiver's side

-- it sent the request of this id under the mapping, where the message is a response
abbrev pub AskedIt : Outgoing → List Record → (node : List ℕ) → (id : ℕ) → (mapping : Option ℕ) → Type 0
AskedIt Asks records node id mapping = ⊤
AskedIt (Replies to) records node id mapping = mapping_sent node id to records ≡ Some mapping

-- the paired context is open, goes by the same suite, policy and key, and had no such message; the screen passes it
pub record IsReady (passes : Passes) (s : Shipment) (node : List ℕ) (records : List Record) : Type 0 where
  pub context : Context
  pub keys : KeySet
  pub is_open : open_context node s.context.peer records ≡ Some context
  pub suite_is : context.suite ≡ s.context.suite
  pub policy_is : context.policy ≡ s.context.policy
  pub has_keys : keys_of node s.context.peer records ≡ Some keys
  pub key_is : (receive_key (kind_of_outgoing s.outgoing) keys).key ≡ s.key.key
  pub first : delivered_at node s.context.peer (kind_of_outgoing s.outgoing) (id_of s) records ≡ None
  pub asked : AskedIt s.outgoing records node s.context.peer s.mapping
  pub passed : passes s.content context.plmn ≡ true
  pub room : length records < record_limit

-- the message as it was sealed
abbrev pub delivery_of : Shipment → (node : List ℕ) → Delivery
delivery_of s node = record { content = s.content; node = node; id = s.context.peer; kind = kind_of_outgoing s.outgoing; message = id_of s; mapping = s.mapping }
