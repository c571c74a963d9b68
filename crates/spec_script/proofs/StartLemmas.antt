-- What a step leaves of the starts that wait, and the documents with which contexts open.
use Rattle.std.proofs.Common.{◌≡◌, ℕ, List, Option, Some, Result, Ok, Err, refl, inl, false, ap, ◌∙◌}
use Rattle.spec_documents.specs.Tree.{Tree}
use Rattle.spec_records.specs.Records.{Record}
use Rattle.spec_exchange.specs.Outside.{Cause, Own, Outside, Journal, Keeper, Putting, Kept, Lost, KeptUntold, Outcome}
use Rattle.spec_exchange.specs.Calls.{sends, accepted, Sealed}
use Rattle.spec_exchange.specs.Screens.{Passes}
use Rattle.spec_exchange.specs.AcceptRefusals as accepting
use Rattle.spec_exchange.specs.SendingRefusals as sending
use Rattle.spec_exchange.specs.Stages.{Delivery}
use Rattle.spec_handshake.specs.Documents.{Document}
use Rattle.spec_handshake.specs.Refusals as handshake
use Rattle.spec_handshake.specs.Starts.{Start}
use Rattle.spec_script.specs.Refusals.{Refusal, OfOutside, OfHandshake}
use Rattle.spec_script.specs.Events.{line_event}
use Rattle.spec_script.specs.Choices.{Choices, of_accepting}
use Rattle.spec_script.specs.Steps.{State, Step, Answer, Opens, Refuses, next_number, puts, sends_sealed, delivers, shakes, line_step}
use Rattle.spec_script.specs.Output.{is_keeper_refusal, is_ending_refusal, LosesOne}
use Rattle.spec_script.proofs.HandLemmas.{IsTold, IsCall}
use Rattle.spec_script.proofs.StepLemmas.{line_covered}
use Rattle.spec_script.proofs.StateLemmas.{other_than_keeper}

pub record Starts (s : State) (r : Step) : Type 0 where
  pub same : (e : Refusal) → r.answer ≡ Refuses e → is_keeper_refusal e ≡ false → is_ending_refusal e ≡ false → r.starts ≡ s.starts
  pub one : (e : Refusal) → r.answer ≡ Refuses e → LosesOne s.starts r.starts
  pub opened : (t : Tree) (k id : ℕ) → r.answer ≡ Opens t k id → (r.sent ≡ Some t) × (k ≡ next_number s)

put_starts : (s : State) (p : Putting) (name : List ℕ) (r : Record) → Starts s (puts s p name r)
put_starts s Kept name r = record { same = λ e h k l. refl; one = λ e h. inl refl; opened = λ t k id h. cc }
put_starts s Lost name r = record { same = λ e h k l. refl; one = λ e h. inl refl; opened = λ t k id h. cc }
put_starts s KeptUntold name r = record { same = λ e h k l. refl; one = λ e h. inl refl; opened = λ t k id h. cc }

sealed_starts : (s : State) (r : Result Sealed (Cause sending.Refusal)) (p : Option Record) → Starts s (sends_sealed s (record { result = r; put = p }))
sealed_starts s (Ok x) p = record { same = λ e h k l. refl; one = λ e h. inl refl; opened = λ t k id h. cc }
sealed_starts s (Err d) p = record { same = λ e h k l. refl; one = λ e h. inl refl; opened = λ t k id h. cc }

delivery_starts : (s : State) (t : Tree) (r : Result Delivery (Cause accepting.Refusal)) (p : Option Record) → Starts s (delivers s t (record { result = r; put = p }))
delivery_starts s t (Ok x) p = record { same = λ e h k l. refl; one = λ e h. inl refl; opened = λ t k id h. cc }
delivery_starts s t (Err d) p = record { same = λ e h k l. refl; one = λ e h. inl refl; opened = λ t k id h. cc }

shaken_starts : {T : Type 0} (s : State) (told : T → Answer) (made : T → Option Document) (starts : List Start) (o : Outcome handshake.Refusal T)
    → ((x : T) → IsTold s (told x) (made x)) → IsCall s starts o → Starts s (shakes s told made starts o)
shaken_starts {T} s told made starts o is call = by_result o.result refl
  where
    by_result : (r : Result T (Cause handshake.Refusal)) → o.result ≡ r → Starts s (shakes s told made starts (record { result = r; put = o.put }))
    by_result (Ok x) at = record { same = λ e h k l. absurd ((is x).refused e h); one = λ e h. absurd ((is x).refused e h); opened = (is x).opened }
    by_result (Err (Own d)) at = record {
      same = λ e h k l. let own : OfHandshake d ≡ e = cc in call.waits.own d at (ap is_ending_refusal own ∙ l);
      one = λ e h. call.waits.one (Own d) at;
      opened = λ t k id h. cc;
    }
    by_result (Err (Outside (Journal n))) at = record { same = λ e h k l. call.waits.journal n at; one = λ e h. call.waits.one (Outside (Journal n)) at; opened = λ t k id h. cc }
    by_result (Err (Outside Keeper)) at = record {
      same = λ e h k l. let same : OfOutside Keeper ≡ e = cc in other_than_keeper e same k;
      one = λ e h. call.waits.one (Outside Keeper) at;
      opened = λ t k id h. cc;
    }

pub line_starts : (passes : Passes) (s : State) (f : Choices) (line : List ℕ) → Starts s (line_step passes s f line)
line_starts passes s f line = line_covered (λ r. Starts s r) passes s f (record {
  refused = λ d. record { same = λ e h k l. refl; one = λ e h. inl refl; opened = λ t k id h. cc };
  restarted = λ node. record { same = λ e h k l. cc; one = λ e h. cc; opened = λ t k id h. cc };
  node = λ n plmn. record { same = λ e h k l. refl; one = λ e h. inl refl; opened = λ t k id h. cc };
  put = put_starts s f.keeper.putting;
  injected = λ u. record { same = λ e h k l. refl; one = λ e h. inl refl; opened = λ t k id h. cc };
  forwarded = λ u. record { same = λ e h k l. refl; one = λ e h. inl refl; opened = λ t k id h. cc };
  reported = λ r. record { same = λ e h k l. refl; one = λ e h. inl refl; opened = λ t k id h. cc };
  sealed = λ n i o m. sealed_starts s (sends f.keeper s.records n i o m).result (sends f.keeper s.records n i o m).put;
  came = λ n t. delivery_starts s t (accepted passes (of_accepting f) s.records n t).result (accepted passes (of_accepting f) s.records n t).put;
  shaken = shaken_starts s;
}) (line_event line)
