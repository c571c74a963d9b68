-- Stages of what a receiving SEPP checks of a document, each by itself (after TS 33.501 clause 13.2.4.6). Accepting has them all in their order.
use Rattle.std.specs.Prelude.{ℕ, List, length, nat_le, Option, Result, Ok}
use Rattle.spec_documents.specs.Tree.{Tree}
use Rattle.spec_messages.specs.Message.{Message, Kind, wanted}
use Rattle.spec_messages.specs.Policy.{Policy}
use Rattle.spec_records.specs.Keys.{receive_key}
use Rattle.spec_records.specs.Records.{KeySet, Context, Record, record_limit, open_context, keys, delivered_at}
use Rattle.spec_exchange.specs.Chain.{◌>>=◌, unless, none_of, or_refused}
use Rattle.spec_sealing.specs.Suites.{ContentKey, content_key}
use Rattle.spec_sealing.specs.Jwe.{Jwe, misfit, opened}
use Rattle.spec_sealing.specs.Plaintext.{values_of}
use Rattle.spec_sealing.specs.Received.{Received}
use Rattle.spec_exchange.specs.Rebuilding.{no_values, no_block, no_fill, read_block, filled_with, in_clear}
use Rattle.spec_exchange.specs.ReceivingRefusals.{Refusal, NoContext, NoReceiveKeys, Cipher, Integrity, Replay, Reconstruction, InClear, NoRoom}

-- what is delivered, with what its record needs
pub record Delivery : Type 0 where
  pub content : Message
  pub node : List ℕ
  pub id : ℕ
  pub kind : Kind
  pub message : ℕ
  pub mapping : Option ℕ

-- ---- the context and its keys

pub record KeyedContext : Type 0 where
  pub context : Context
  pub key_set : KeySet

-- the key under which the peer seals messages of the kind
abbrev pub key_for : Kind → KeyedContext → ContentKey
key_for kind c = content_key c.context.suite (receive_key kind c.key_set).key

abbrev pub keyed_context : List Record → (node : List ℕ) → (id : ℕ) → Result KeyedContext Refusal
keyed_context records node id = do
  x ← wanted (open_context node id records) NoContext
  k ← wanted (keys node id records) NoReceiveKeys
  Ok (record { context = x; key_set = k })

-- ---- the header and the tag

-- the plaintext of a JWE whose header is of the suite and whose tag recomputes
abbrev pub opens : ContentKey → Jwe → Result (List ℕ) Refusal
opens key w = do
  _ ← none_of Cipher (misfit key w)
  wanted (opened key w) Integrity

-- ---- the first of its id

abbrev pub is_first : List Record → (node : List ℕ) → (id : ℕ) → Kind → (message : ℕ) → Result (Unit {0}) Refusal
is_first records node id kind message = none_of Replay (delivered_at node id kind message records)

-- ---- rebuilt

-- the message with its holes, and with its values
pub record Rebuilt : Type 0 where
  pub holed : Message
  pub content : Message

abbrev pub rebuilt : (block : Tree) → (plain : List ℕ) → Result Rebuilt Refusal
rebuilt block plain = do
  values ← wanted (values_of plain) (Reconstruction no_values)
  holed ← or_refused (λ why. Reconstruction (no_block why)) (read_block block (length values))
  content ← or_refused (λ why. Reconstruction (no_fill why)) (filled_with values holed)
  Ok (record { holed = holed; content = content })

-- ---- nothing secret in clear

abbrev pub is_sealed : Policy → (mapping : Option ℕ) → Rebuilt → Result (Unit {0}) Refusal
is_sealed policy mapping m = none_of InClear (in_clear policy mapping m.holed m.content)

-- ---- room for the record

abbrev pub has_room : List Record → Result (Unit {0}) Refusal
has_room records = unless (nat_le record_limit (length records)) NoRoom

-- ---- delivered

abbrev pub delivery_at : (node : List ℕ) → Received → (mapping : Option ℕ) → Message → Delivery
delivery_at node d mapping m = record { content = m; node = node; id = d.context; kind = d.kind; message = d.message; mapping = mapping }
