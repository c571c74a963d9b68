use Rattle.std.proofs.Common.{◌≡◌, ℕ, List, codes, Ok, refl, ap, ◌∙◌, Some}
use Rattle.spec_documents.specs.Chain as chain
use Rattle.spec_documents.proofs.Chains.{bind_at, bind_err}
use Rattle.spec_messages.specs.Message.{wanted}
use Rattle.spec_sealing.specs.Jwe.{Jwe}
use Rattle.spec_exchange.specs.Chain.{none_of}
use Rattle.spec_exchange.specs.Rebuilding.{no_values}
use Rattle.spec_exchange.specs.ReceivingRefusals.{Cipher, Integrity, Replay, Reconstruction}
use Rattle.spec_exchange.specs.AcceptRefusals.{Receiving, Unasked}
use Rattle.spec_exchange.specs.Stages.{KeyedContext, keyed_context, opens}
use Rattle.spec_exchange.specs.Asked.{ItsRequest}
use Rattle.spec_exchange.specs.Accepting.{stage}
use Rattle.spec_exchange.specs.Rows.{keys_from, context_a, keyed_both, key_b, OpensTo}
use Rattle.spec_exchange.specs.AcceptRows.{asked_a, answered_a}
use Rattle.spec_exchange.proofs.rows.answering_rows.Goals as goal

-- ---- stages that pass

abbrev held_a : KeyedContext
held_a = record { context = context_a; key_set = keys_from 0 }

keyed : keyed_context (keyed_both 0) (codes "A") 161 ≡ Ok held_a
unfolding chain.◌>>=◌
keyed = refl

keyed_asked : keyed_context asked_a (codes "A") 161 ≡ Ok held_a
unfolding chain.◌>>=◌
keyed_asked = refl

keyed_answered : keyed_context answered_a (codes "A") 161 ≡ Ok held_a
unfolding chain.◌>>=◌
keyed_answered = refl

opens_to : (w : Jwe) (plain : List ℕ) → OpensTo w plain → opens key_b w ≡ Ok plain
opens_to w plain h = bind_at _ _ tt (ap (none_of (λ z. Cipher z)) h.fits) ∙ ap (λ o. wanted o Integrity) h.opens_is

pub returns-clause-again : goal.returns-clause-again
returns-clause-again c w plain h = bind_at _ _ held_a (ap stage keyed_answered) ∙ (bind_at _ _ plain (ap stage (opens_to w plain h)) ∙ bind_err _ _ (Receiving (Replay 4)) refl)

pub returns-clause-unasked : goal.returns-clause-unasked
returns-clause-unasked c w plain h none = bind_at _ _ held_a (ap stage keyed) ∙ (bind_at _ _ plain (ap stage (opens_to w plain h)) ∙ (bind_at _ _ tt refl ∙ bind_err _ _ Unasked (bind_err _ _ Unasked refl)))

pub returns-clause-values : goal.returns-clause-values
returns-clause-values c w plain h none =
    bind_at _ _ held_a (ap stage keyed_asked)
    ∙ (bind_at _ _ plain (ap stage (opens_to w plain h))
    ∙ (bind_at _ _ tt refl
    ∙ (bind_at _ _ (ItsRequest (Some 0)) (bind_at _ _ (Some 0) refl)
    ∙ bind_err _ _ (Receiving (Reconstruction no_values)) (ap stage (bind_err _ _ (Reconstruction no_values) (ap (λ o. wanted o (Reconstruction no_values)) none))))))
