-- Sending and receiving, over the records that are held and the choices of keeper and verifier (after TS 33.501 clauses 13.2.4.4 to 13.2.4.6; the order of checks is this project's own).
use Rattle.std.specs.Prelude.{ℕ, List, [], ◌∷◌, length, not, nat_le, nat_lt, Option, Result, Ok, codes}
use Rattle.spec_documents.specs.Tree.{Tree}
use Rattle.spec_documents.specs.Compact.{compact_text}
use Rattle.spec_documents.specs.Ids.{id_text}
use Rattle.spec_messages.specs.Message.{Message, Kind, of_request, of_response, wanted}
use Rattle.spec_messages.specs.Policy.{values}
use Rattle.spec_messages.specs.Split.{cleared}
use Rattle.spec_messages.specs.Block.{Meta, Block, block_of, block_tree, at_most}
use Rattle.spec_messages.specs.Splitting.{split_limit}
use Rattle.spec_messages.specs.HeadMapping.{mapping_of_head}
use Rattle.spec_records.specs.Keys.{nonce, send_key}
use Rattle.spec_records.specs.Records.{OneKey, Context, Record, Sent, Delivered, record_limit, open_context, keys, mapping_delivered, answered, next_seq}
use Rattle.spec_exchange.specs.Chain.{◌>>=◌, unless, none_of}
use Rattle.spec_sealing.specs.Suites.{content_key}
use Rattle.spec_sealing.specs.Jwe.{sealed}
use Rattle.spec_sealing.specs.Plaintext.{plaintext}
use Rattle.spec_sealing.specs.Received.{carrier}
use Rattle.spec_messages.specs.Limits.{Limit, many_headers, many_items, many_values, long_block, many_records}
use Rattle.spec_exchange.specs.SendingRefusals.{Refusal, Beyond, ContextNotFound, NoKeys, NoRequest, Answered, SeqSpent}
use Rattle.spec_exchange.specs.AcceptRefusals as accepting
use Rattle.spec_exchange.specs.Stages.{Delivery}
use Rattle.spec_exchange.specs.EntryChecks.{Verifying}
use Rattle.spec_exchange.specs.Screens.{Passes}
use Rattle.spec_exchange.specs.Accepting.{first_failed}
use Rattle.spec_exchange.specs.Outside.{Choice, Outcome, puts, behind_reading, or_refusal}

-- ---- receiving

abbrev pub delivered_record : Delivery → Record
delivered_record d = Delivered d.node d.id d.kind d.message d.mapping

-- what the outside comes to in one event
pub record Choices : Type 0 where
  pub keeper : Choice
  pub verifier : Verifying

-- the document is accepted at the node
abbrev pub accepted : Passes → Choices → List Record → (node : List ℕ) → Tree → Outcome accepting.Refusal Delivery
accepted passes f records node t = behind_reading f.keeper.reading (or_refusal (first_failed passes f.verifier records node t) (λ d. puts f.keeper.putting (delivered_record d) d))

-- ---- sending

-- a message to send: a request, or the reply to the request of that id
pub data Outgoing : Type 0 where
  Asks : Outgoing
  Replies : (to : ℕ) → Outgoing

abbrev pub kind_of_outgoing : Outgoing → Kind
kind_of_outgoing Asks = of_request
kind_of_outgoing (Replies to) = of_response

-- a request's id is its sequence number, a reply has the id of its request
abbrev pub message_id : Outgoing → ℕ → ℕ
message_id Asks seq = seq
message_id (Replies to) seq = to

-- the mapping for the message: for a reply that of the request, which was delivered and has no reply yet
abbrev pub mapping_to_send : Outgoing → Context → Message → List Record → (node : List ℕ) → (id : ℕ) → Result (Option ℕ) Refusal
mapping_to_send Asks x m records node id = Ok (mapping_of_head x.policy m.head)
mapping_to_send (Replies to) x m records node id = do
  k ← wanted (mapping_delivered node id to records) NoRequest
  _ ← unless (answered node id to records) Answered
  Ok k

-- the intermediary that may modify the message, or `null`
abbrev pub authorized : List (List ℕ) → List ℕ
authorized [] = codes "null"
authorized (ipx ∷ rest) = ipx

-- what the block says of itself
abbrev pub metadata_for : Context → ℕ → Meta
metadata_for x message = record { context = id_text x.peer; message = id_text message; ipx = authorized x.own_ipx }

abbrev pub sent_block_of : Context → Option ℕ → ℕ → Message → Block
sent_block_of x k message m = block_of (cleared x.policy k m) (metadata_for x message)

-- the document that carries the block and the values, sealed under the key and the nonce of the sequence number
abbrev pub sealed_document : Context → OneKey → ℕ → Block → List Tree → Tree
sealed_document x k seq b vs = carrier (sealed (content_key x.suite k.key) (nonce k seq) (compact_text (block_tree b)) (plaintext vs))

-- what is sent, with what its record needs
pub record Sealed : Type 0 where
  pub document : Tree
  pub node : List ℕ
  pub id : ℕ
  pub kind : Kind
  pub seq : ℕ
  pub message : ℕ
  pub mapping : Option ℕ

abbrev pub sent_record : Sealed → Record
sent_record s = Sent s.node s.id s.kind s.seq s.message s.mapping

-- the document of a message, or the first refusal
abbrev pub protected : List Record → (node : List ℕ) → (id : ℕ) → Outgoing → Message → Result Sealed Refusal
protected records node id o m = do
  x ← wanted (open_context node id records) ContextNotFound
  k ← wanted (keys node id records) NoKeys
  mapping ← mapping_to_send o x m records node id
  seq ← wanted (next_seq node id (kind_of_outgoing o) records) SeqSpent
  let message : ℕ = message_id o seq
  _ ← none_of Beyond (split_limit (sent_block_of x mapping message m) (length (values x.policy mapping m)))
  _ ← unless (nat_le record_limit (length records)) (Beyond many_records)
  Ok (record {
    document = sealed_document x (send_key (kind_of_outgoing o) k) seq (sent_block_of x mapping message m) (values x.policy mapping m);
    node = node;
    id = id;
    kind = kind_of_outgoing o;
    seq = seq;
    message = message;
    mapping = mapping;
  })

-- the message is sent at the node
abbrev pub sends : Choice → List Record → (node : List ℕ) → (id : ℕ) → Outgoing → Message → Outcome Refusal Sealed
sends f records node id o m = behind_reading f.reading (or_refusal (protected records node id o m) (λ s. puts f.putting (sent_record s) s))
