-- A delivery that is refused: told with its report, or, where memory was refused for that, not told.
use Rattle.std.proofs.Common.{◌≡◌, ◌≤◌, ⊎_elim, ℕ, List, Option, Err, sym, subst}
use Rattle.n32_outside.specs.Causes.{Rose}
use Rattle.spec_documents.specs.Tree.{Tree}
use Rattle.spec_records.specs.Records.{Record}
use Rattle.spec_exchange.specs.Outside.{Choice}
use Rattle.spec_exchange.specs.EntryChecks.{Verifying}
use Rattle.spec_exchange.specs.Screens.{Passes}
use Rattle.spec_script.specs.Steps.{State, Step, delivers}
use Rattle.receiving_sepp.specs.Outcome as received
use Rattle.context_store.specs.declared.call_faults.CallFault.{CallFault}
use Rattle.receiving_sepp.specs.declared.refused.Refused.{Refused}
use Rattle.context_store.specs.declared.call_faults.CallFault.TheVariants as calling
use Rattle.script_lines.specs.declared.unanswered.Unanswered.{Unanswered}
use Rattle.replay_world.specs.Refusing.{Undelivers}
use Rattle.replay_world.specs.Worlds.{IsReady, state_of}
use Rattle.replay_world.specs.Handling.{Handles}
use Rattle.replay_world.specs.declared.world.World.{World}
use Rattle.replay_world.proofs.Documents.{taken, comes_undelivered, refusal_gives_up}
use Rattle.replay_world.proofs.Handling.{undelivered_keeper}

pub handles_undelivered : (passes : Passes) (v : Verifying) (steps : State → Choice → Step) (held now : Option (List (List ℕ))) (before after_ : ℕ) (old new : World) (number : ℕ) (node : List ℕ) (t : Tree) (e : CallFault Refused) (why : Unanswered)
    → Undelivers t e why → received.Accepts passes v held now old.store new.store node t (Err e)
    → ((records : List Record) (f : Choice) → steps (state_of old records) f ≡ delivers (state_of old records) t (taken passes v node t f records))
    → new.sites ≡ old.sites → new.hands ≡ old.hands → new.wire ≡ old.wire → IsReady now new → before ≤ after_ → (e ≡ calling.Keeper → Rose before after_)
    → Handles steps held now before after_ old new number (Err why)
handles_undelivered passes v steps held now before after_ old new number node t e why told h same sites starts wire ready later failed = ⊎_elim
    (λ is. subst (λ (w : Unanswered). Handles steps held now before after_ old new number (Err w)) (sym is) (record {
      comes = comes_undelivered passes v steps held now old new number node t e h same sites starts wire;
      ready = ready;
      later = later;
      failed = λ is_keeper. failed (undelivered_keeper t e is_keeper);
    }))
    (λ is. subst (λ (w : Unanswered). Handles steps held now before after_ old new number (Err w)) (sym is) (record {
      comes = refusal_gives_up passes v steps held now old new node t e h same sites wire;
      ready = ready;
      later = later;
      failed = λ e. cc;
    }))
    told
