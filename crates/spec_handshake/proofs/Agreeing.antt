-- Two contexts that name each other agree, where the invariant holds.
use Rattle.std.proofs.Common.{◌≡◌, ℕ, Bool, true, false, List, sym, ap, ◌∙◌, ⊎_elim}
use Rattle.spec_records.specs.Records.{Context, Record, Opened, offered}
use Rattle.spec_handshake.specs.Documents.{Document}
use Rattle.spec_handshake.specs.Starts.{Start}
use Rattle.spec_handshake.specs.Agreement.{In, AreMutual, AgreeOn, Agrees, IsAnswering, IsFinishing, Invariant}

pub unlike : {A : Type 0} (b : Bool) → b ≡ true → b ≡ false → A
unlike b e f = cc

turned : (x y : Context) → AreMutual x y → AreMutual y x
turned x y m = record { there = m.back; there_id = m.back_id; back = m.there; back_id = m.there_id }

agree_turned : (x y : Context) → AgreeOn y x → AgreeOn x y
agree_turned x y g = record { suite = sym g.suite; policy = sym g.policy; own_ipx = g.peer_ipx; peer_ipx = g.own_ipx }

-- offered under one name is offered under an equal one
offered_at : (records : List Record) (n m : List ℕ) (i j : ℕ) (b : Bool) → offered n i records ≡ b → n ≡ m → i ≡ j → offered m j records ≡ b
offered_at records n m i j b e p q = rw (← p, ← q) e

finishing_answering : (records : List Record) (starts : List Start) (made : List Document) → Invariant records starts made → (x y : Context) → In (Opened x) records → In (Opened y) records → AreMutual x y
    → IsFinishing records made x → IsAnswering records made y → AgreeOn x y
finishing_answering records starts made inv x y hx hy m f a =
    let backed = inv.selection_backed f.selection f.is_made in
    let same : backed.context ≡ y = inv.opened_alone backed.context y backed.held hy (backed.node_is ∙ (sym f.peer_node_is ∙ m.there)) (backed.id_is ∙ (sym f.peer_is ∙ m.there_id)) in
    let same_ask : f.own_ask.ask ≡ a.ask.ask = inv.ask_alone f.own_ask.ask a.ask.ask f.own_ask.is_made a.ask.is_made (f.own_ask.node_is ∙ (sym m.back ∙ sym a.ask.node_is)) (f.own_ask.id_is ∙ (sym m.back_id ∙ sym a.ask.id_is)) in
    record {
      suite = f.suite_is ∙ (sym backed.suite_is ∙ ap (λ z. z.suite) same);
      policy = f.policy_is ∙ (sym backed.policy_is ∙ ap (λ z. z.policy) same);
      own_ipx = sym f.own_ask.ipx_is ∙ (ap (λ z. z.ipx) same_ask ∙ a.ask.ipx_is);
      peer_ipx = sym (ap (λ z. z.own_ipx) same) ∙ (backed.ipx_is ∙ sym f.peer_ipx_is);
    }

answering_answering : (records : List Record) (starts : List Start) (made : List Document) → Invariant records starts made → (x y : Context) → AreMutual x y
    → IsAnswering records made x → IsAnswering records made y → AgreeOn x y
answering_answering records starts made inv x y m a b =
    unlike (offered y.node y.id records)
    (offered_at records a.ask.ask.sender y.node a.ask.ask.id y.id true (inv.ask_offered a.ask.ask a.ask.is_made) (a.ask.node_is ∙ m.there) (a.ask.id_is ∙ m.there_id))
    b.unoffered

finishing_finishing : (records : List Record) (starts : List Start) (made : List Document) → Invariant records starts made → (x y : Context) → In (Opened y) records → AreMutual x y
    → IsFinishing records made x → IsFinishing records made y → AgreeOn x y
finishing_finishing records starts made inv x y hy m f g =
    let backed = inv.selection_backed f.selection f.is_made in
    unlike (offered y.node y.id records) g.is_offered
    (offered_at records backed.context.node y.node backed.context.id y.id false backed.answering.unoffered (backed.node_is ∙ (sym f.peer_node_is ∙ m.there)) (backed.id_is ∙ (sym f.peer_is ∙ m.there_id)))

pub agreed : (records : List Record) (starts : List Start) (made : List Document) → Invariant records starts made → Agrees records
agreed records starts made inv x y hx hy m =
    ⊎_elim
    (λ a. ⊎_elim (λ b. answering_answering records starts made inv x y m a b)
    (λ g. agree_turned x y (finishing_answering records starts made inv y x hy hx (turned x y m) g a)) (inv.opened_from y hy))
    (λ f. ⊎_elim (λ b. finishing_answering records starts made inv x y hx hy m f b)
    (λ g. finishing_finishing records starts made inv x y hy m f g) (inv.opened_from y hy))
    (inv.opened_from x hx)
