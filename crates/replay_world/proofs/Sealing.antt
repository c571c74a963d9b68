-- Requests to send, and the documents that they are sealed to.
use Rattle.std.proofs.Common.{◌≡◌, ℕ, List, Option, Result, Ok, Err, refl, sym, ap, subst, arith}
use Rattle.spec_documents.specs.Tree.{Tree, depth}
use Rattle.spec_messages.specs.Message.{Message}
use Rattle.spec_documents.specs.Compact.{compact_text}
use Rattle.spec_messages.specs.Policy.{values}
use Rattle.spec_messages.specs.Block.{Block, block_tree}
use Rattle.spec_records.specs.Records.{OneKey, Context, Record}
use Rattle.context_store.specs.Stores.{Stored}
use Rattle.spec_exchange.specs.Chain.{◌>>=◌}
use Rattle.spec_exchange.specs.SendingRefusals as sending
use Rattle.spec_sealing.specs.Suites.{content_key}
use Rattle.spec_sealing.specs.Jwe.{Jwe, sealed}
use Rattle.spec_sealing.specs.Plaintext.{plaintext}
use Rattle.spec_sealing.specs.Received.{carrier}
use Rattle.spec_records.specs.Keys.{nonce, send_key}
use Rattle.spec_exchange.specs.Outside.{Reading, Read, ReadFails, BadRecord, Putting, Kept, Lost, KeptUntold, puts, behind_reading, or_refusal}
use Rattle.spec_exchange.specs.Calls.{Sealed, Outgoing, protected, sent_record, sealed_document, sent_block_of, message_id, kind_of_outgoing}
use Rattle.sending_sepp.specs.Outcome as sent
use Rattle.replay_world.specs.Worlds.{IsShallow}

-- ---- what is sealed is shallow

record AllLow (r : Result Sealed sending.Refusal) : Type 0 where
  pub low : (s : Sealed) → r ≡ Ok s → IsShallow s.document

bind_low : {A : Type 0} (r : Result A sending.Refusal) (k : A → Result Sealed sending.Refusal) → ((x : A) → AllLow (k x)) → AllLow (r >>= k)
unfolding ◌>>=◌
bind_low (Ok x) k h = h x
bind_low (Err e) k h = record { low = λ s is. cc }

ok_low : (s : Sealed) → IsShallow s.document → AllLow (Ok s)
ok_low s h = record { low = λ t is. let same : s ≡ t = cc in subst (λ (z : Sealed). IsShallow z.document) same h }

carrier_low : (w : Jwe) → IsShallow (carrier w)
carrier_low w = let two : depth (carrier w) ≡ 2 = refl in omega (arith, two)

document_of_low : (x : Context) (k : OneKey) (seq : ℕ) (b : Block) (vs : List Tree) → IsShallow (sealed_document x k seq b vs)
document_of_low x k seq b vs = carrier_low (sealed (content_key x.suite k.key) (nonce k seq) (compact_text (block_tree b)) (plaintext vs))

protected_low : (records : List Record) (node : List ℕ) (id : ℕ) (o : Outgoing) (m : Message) → AllLow (protected records node id o m)
protected_low records node id o m =
    bind_low _ _ λ x. bind_low _ _ λ k. bind_low _ _ λ mapping. bind_low _ _ λ seq. bind_low _ _ λ few. bind_low _ _ λ room.
    ok_low _ (document_of_low x (send_key (kind_of_outgoing o) k) seq (sent_block_of x mapping (message_id o seq) m) (values x.policy mapping m))

put_result : (p : Putting) (r : Record) (x s : Sealed) → (puts {R = sending.Refusal} p r x).result ≡ Ok s → x ≡ s
put_result Kept r x s e = cc
put_result Lost r x s e = cc
put_result KeptUntold r x s e = cc

sent_result : (reading : Reading) (p : Putting) (r : Result Sealed sending.Refusal) (s : Sealed) → (behind_reading reading (or_refusal r (λ x. puts p (sent_record x) x))).result ≡ Ok s → r ≡ Ok s
sent_result Read p (Ok x) s e = ap (λ (z : Sealed). Ok z) (put_result p (sent_record x) x s e)
sent_result Read p (Err d) s e = cc
sent_result ReadFails p r s e = cc
sent_result (BadRecord k) p r s e = cc

pub document_low : (o : Outgoing) (held now : Option (List (List ℕ))) (old new : Stored) (node : List ℕ) (id : ℕ) (m : Message) (t : Tree) → sent.ProtectsAs o held now old new node id m (Ok t) → IsShallow t
document_low o held now old new node id m t h =
    let a = h.comes.answer in
    subst (λ (z : Tree). IsShallow z) (sym a.2)
    ((protected_low h.records node id o m).low a.0 (sent_result h.choice.reading h.choice.putting (protected h.records node id o m) a.0 a.1))
