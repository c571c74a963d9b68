-- What stands behind a document that is delivered: the opened message, changed by its entries in order, each verified, authorized, bound and allowed (this project's own).
use Rattle.std.specs.Prelude.{◌≡◌, ⊤, true, ℕ, suc, List, [], ◌∷◌, ◌++◌, length, map, Some, Ok}
use Rattle.spec_documents.specs.Tree.{Tree}
use Rattle.spec_documents.specs.Hole.{fill_all}
use Rattle.spec_messages.specs.Message.{Message}
use Rattle.spec_messages.specs.Block.{IsBlock, StandsFor}
use Rattle.spec_messages.specs.Split.{fill_whole, filled}
use Rattle.spec_messages.specs.Steps.{ChainStep, Fills, InOrder, HoleOf, HasValue, ChainKept, ChainModifiable}
use Rattle.spec_messages.specs.Changed.{Entries, ChainApplied, patched_along}
use Rattle.spec_records.specs.Records.{Record}
use Rattle.spec_sealing.specs.Entries.{SignedEntry, entry_in, entry_ops}
use Rattle.spec_sealing.specs.Received.{Received, received}
use Rattle.spec_exchange.specs.Stages.{Delivery, KeyedContext, Rebuilt, keyed_context, key_for, opens, rebuilt, is_sealed}
use Rattle.spec_exchange.specs.Route.{in_route}
use Rattle.spec_exchange.specs.Asked.{MappedBy, asked_for, mapping_by}
use Rattle.spec_exchange.specs.EntryChecks.{Verifying, Signed, claim_of, Terms}
use Rattle.spec_exchange.specs.Screens.{Passes}
use Rattle.spec_exchange.specs.Accepting.{sealed_values, terms_of}

-- the entry of this number is of the form, in the route behind the earlier ones, signed, and bound to the document
pub record IsBound (t : Terms) (v : Verifying) (number : ℕ) (earlier : List (List ℕ)) (e : Tree) (x : SignedEntry) : Type 0 where
  pub form : entry_in e ≡ Ok x
  pub on_route : in_route (earlier ++ x.entry.identity ∷ []) t.route ≡ true
  pub signed : v number (claim_of x) ≡ Signed
  pub tag : x.entry.tag ≡ t.tag

-- so are all entries, the first of them being of this number
abbrev pub AreBound : Terms → Verifying → (number : ℕ) → (earlier : List (List ℕ)) → List Tree → List SignedEntry → Type 0
AreBound t v number earlier [] [] = ⊤
AreBound t v number earlier [] (x ∷ xs) = ⊥
AreBound t v number earlier (e ∷ es) [] = ⊥
AreBound t v number earlier (e ∷ es) (x ∷ xs) = IsBound t v number earlier e x × AreBound t v (suc number) (earlier ++ x.entry.identity ∷ []) es xs

-- the identity and the operations of each
abbrev pub changes : List SignedEntry → Entries
changes xs = map (λ x. (x.entry.identity, entry_ops x.entry)) xs

-- what stands behind a document that is delivered at the node, whose block has its names in order
pub record IsDelivered (passes : Passes) (v : Verifying) (records : List Record) (node : List ℕ) (t : Tree) (y : Delivery) : Type 0 where
  pub parts : Received
  pub form : received t ≡ Ok parts
  -- its context and its plaintext, and what it was asked for by
  pub keyed : KeyedContext
  pub has_keys : keyed_context records node parts.context ≡ Ok keyed
  pub plain : List ℕ
  pub is_opened : opens (key_for parts.kind keyed) parts.jwe ≡ Ok plain
  pub by : MappedBy
  pub asked : asked_for records node parts.context parts.kind parts.message ≡ Ok by
  -- the opened message, which has nothing secret in clear
  pub message : Rebuilt
  pub is_rebuilt : rebuilt parts.block plain ≡ Ok message
  pub is_block : IsBlock parts.block (length (sealed_values plain)) message.holed
  pub is_filled : filled (sealed_values plain) message.holed ≡ Some message.content
  pub hidden : is_sealed keyed.context.policy (mapping_by by keyed.context.policy message.content) message ≡ Ok tt
  -- its entries, and what they make of the block, one after the other
  pub entries : List SignedEntry
  pub bound : AreBound (terms_of keyed.context parts (mapping_by by keyed.context.policy message.content) (sealed_values plain)) v 1 [] parts.entries entries
  pub block : Tree
  pub holed : Message
  pub applied : ChainApplied keyed.context.policy (mapping_by by keyed.context.policy message.content) (length (sealed_values plain)) parts.block message.holed (changes entries) block holed
  -- what is delivered
  pub content_is : y.content ≡ fill_whole (sealed_values plain) holed
  pub mapping_is : y.mapping ≡ mapping_by by keyed.context.policy message.content
  pub passed : passes y.content keyed.context.plmn ≡ true

-- its entries as a chain on its block, with the values that fill the message
abbrev pub chain_of : {passes : Passes} {v : Verifying} {records : List Record} {node : List ℕ} {t : Tree} {y : Delivery} → IsDelivered passes v records node t y → ChainStep
chain_of h = record {
  policy = h.keyed.context.policy;
  mapping = mapping_by h.by h.keyed.context.policy h.message.content;
  holes = length (sealed_values h.plain);
  entries = changes h.entries;
  before = h.parts.block;
  clear = h.message.holed;
  after = h.block;
  patched = h.holed;
  block = h.is_block;
  applied = h.applied;
}

abbrev pub fills_of : {passes : Passes} {v : Verifying} {records : List Record} {node : List ℕ} {t : Tree} {y : Delivery} → (h : IsDelivered passes v records node t y) → Fills h.message.holed
fills_of h = record { values = sealed_values h.plain; full = h.message.content; is = h.is_filled }

-- patching commutes with filling for what is delivered
pub record Commutes {passes : Passes} {v : Verifying} {records : List Record} {node : List ℕ} {t : Tree} {y : Delivery} (h : IsDelivered passes v records node t y) : Type 0 where
  -- the operations of the entries make of the filled block the filled block that they leave, which stands for what is delivered
  pub tree : patched_along (changes h.entries) (fill_all (sealed_values h.plain) h.parts.block) ≡ Ok (fill_all (sealed_values h.plain) h.block)
  pub stands : InOrder (sealed_values h.plain) → StandsFor (fill_all (sealed_values h.plain) h.block) y.content
  -- each sealed value stands where its hole stood
  pub values : (o : HoleOf h.message.holed) → HasValue o (sealed_values h.plain) y.content
  -- what stands at no changed address is that of the opened message, and each changed address was modifiable
  pub kept : InOrder (sealed_values h.plain) → ChainKept (chain_of h) h.message.content y.content
  pub modifiable : ChainModifiable (chain_of h)
