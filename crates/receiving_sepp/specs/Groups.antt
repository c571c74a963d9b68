-- Stages of the checks that the program takes together.
use Rattle.std.specs.Prelude.{ℕ, List, length, Option, Result, Ok}
use Rattle.spec_documents.specs.Chain.{◌>>=◌}
use Rattle.spec_documents.specs.Base64url.{base64url}
use Rattle.spec_documents.specs.Tree.{Tree}
use Rattle.spec_messages.specs.Message.{Kind, Message, wanted}
use Rattle.spec_messages.specs.Policy.{Policy}
use Rattle.spec_messages.specs.Split.{fill_whole}
use Rattle.spec_records.specs.Records.{Context, Record, open_context, keys}
use Rattle.spec_sealing.specs.Jwe.{Jwe}
use Rattle.spec_sealing.specs.Plaintext.{values_of}
use Rattle.spec_sealing.specs.Received.{Received}
use Rattle.context_store.specs.Changes.{with_room}
use Rattle.spec_exchange.specs.Chain.{or_refused}
use Rattle.spec_exchange.specs.ReceivingRefusals.{NoContext, NoReceiveKeys, Reconstruction, NoRoom}
use Rattle.spec_exchange.specs.Rebuilding.{no_values, no_block, no_fill, read_block, filled_with}
use Rattle.spec_exchange.specs.Stages.{KeyedContext, Delivery, key_for, opens, is_first, is_sealed}
use Rattle.spec_exchange.specs.AcceptRefusals.{Refusal, Receiving}
use Rattle.spec_exchange.specs.Route.{route}
use Rattle.spec_exchange.specs.Asked.{MappedBy, asked_for, mapping_by}
use Rattle.spec_exchange.specs.EntryChecks.{Verifying, Terms, entries_applied}
use Rattle.spec_exchange.specs.Screens.{Passes}
use Rattle.spec_exchange.specs.Accepting.{stage, formed, is_passed}

-- ---- unsealed

abbrev pub keyed : List Record → (node : List ℕ) → (id : ℕ) → Result KeyedContext Refusal
keyed records node id = do
  x ← stage (wanted (open_context node id records) NoContext)
  k ← stage (wanted (keys node id records) NoReceiveKeys)
  Ok (record { context = x; key_set = k })

-- the first of its id, and what it was asked for by
abbrev pub first_asked : List Record → (node : List ℕ) → (id : ℕ) → Kind → (message : ℕ) → Result MappedBy Refusal
first_asked records node id kind message = do
  _ ← stage (is_first records node id kind message)
  asked_for records node id kind message

-- what a JWE opens to, with the context under which it was sealed, and what its message was asked for by
pub record Unsealed : Type 0 where
  pub context : Context
  pub plain : List ℕ
  pub by : MappedBy

abbrev pub unsealed : List Record → (node : List ℕ) → (id : ℕ) → Kind → (message : ℕ) → Jwe → Result Unsealed Refusal
unsealed records node id kind message w = do
  c ← keyed records node id
  plain ← stage (opens (key_for kind c) w)
  by ← first_asked records node id kind message
  Ok (record { context = c.context; plain = plain; by = by })

-- ---- revealed

-- a block and its values, the message with holes that it stands for, and the one with all its values
pub record Rebuilt : Type 0 where
  pub block : Tree
  pub values : List Tree
  pub holed : Message
  pub content : Message

abbrev pub rebuilt_block : (block : Tree) → (plain : List ℕ) → Result Rebuilt Refusal
rebuilt_block block plain = do
  vs ← stage (wanted (values_of plain) (Reconstruction no_values))
  holed ← stage (or_refused (λ why. Reconstruction (no_block why)) (read_block block (length vs)))
  content ← stage (or_refused (λ why. Reconstruction (no_fill why)) (filled_with vs holed))
  Ok (record { block = block; values = vs; holed = holed; content = content })

-- a message before any entry, and the mapping that it goes by
pub record Revealed : Type 0 where
  pub rebuilt : Rebuilt
  pub mapping : Option ℕ

-- rebuilt, and nothing secret in clear
abbrev pub revealed : Policy → MappedBy → (block : Tree) → (plain : List ℕ) → Result Revealed Refusal
revealed policy by block plain = do
  m ← rebuilt_block block plain
  let mapping : Option ℕ = mapping_by by policy m.content
  _ ← stage (is_sealed policy mapping (record { holed = m.holed; content = m.content }))
  Ok (record { rebuilt = m; mapping = mapping })

-- ---- opened

-- what a document says beside its block and its seal
pub record Outline : Type 0 where
  pub tag : List ℕ
  pub authorized : List ℕ
  pub context : ℕ
  pub kind : Kind
  pub message : ℕ
  pub entries : List Tree

abbrev pub outline_of : Received → Outline
outline_of d = record {
  tag = d.jwe.tag;
  authorized = d.authorized;
  context = d.context;
  kind = d.kind;
  message = d.message;
  entries = d.entries;
}

pub record Opened : Type 0 where
  pub context : Context
  pub outline : Outline
  pub revealed : Revealed

-- every check before those of the entries
abbrev pub opened : List Record → (node : List ℕ) → Tree → Result Opened Refusal
opened records node t = do
  d ← formed t
  u ← unsealed records node d.context d.kind d.message d.jwe
  x ← revealed u.context.policy u.by d.block u.plain
  Ok (record { context = u.context; outline = outline_of d; revealed = x })

-- ---- all checks

-- what the entries of a document with so many values go by
abbrev pub terms_by : Context → Outline → (mapping : Option ℕ) → (values : ℕ) → Terms
terms_by x o mapping n = record { policy = x.policy; mapping = mapping; values = n; tag = base64url o.tag; route = route o.authorized x.peer_ipx x.own_ipx }

-- the message that the entries leave, with all its values
abbrev pub changed : Terms → Verifying → Rebuilt → List Tree → Result Message Refusal
changed t v m es = do
  p ← entries_applied t v m.block m.holed es
  Ok (fill_whole m.values p.holed)

abbrev pub changed_in : Context → Outline → Revealed → Verifying → Result Message Refusal
changed_in x o r v = changed (terms_by x o r.mapping (length r.rebuilt.values)) v r.rebuilt o.entries

abbrev pub delivery_of : (node : List ℕ) → Outline → (mapping : Option ℕ) → Message → Delivery
delivery_of node o mapping m = record { content = m; node = node; id = o.context; kind = o.kind; message = o.message; mapping = mapping }

-- the checks of an opened document
abbrev pub ending : Passes → Verifying → List Record → (node : List ℕ) → Opened → Result Delivery Refusal
ending passes v records node o = do
  content ← changed_in o.context o.outline o.revealed v
  _ ← is_passed passes o.context content
  with_room (Receiving NoRoom) records (delivery_of node o.outline o.revealed.mapping content)
