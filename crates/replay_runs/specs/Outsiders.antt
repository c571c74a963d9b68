-- What stays the same of signer, verifier and screen in a run, and how often keeper, signer and verifier failed.
use Rattle.std.specs.Prelude.{ℕ, ◌≤◌, List, true, Option, Some, None}
use Rattle.n32_outside.specs.declared.algorithm.JwsAlg.{JwsAlg}
use Rattle.jws_flat.specs.View.{alg_view}
use Rattle.entry_checks.specs.Verifiers.{Meaning, says}
use Rattle.spec_exchange.specs.Screens.{Passes}
use Rattle.spec_script.specs.Choices.{Meanings}
use Rattle.replay_world.specs.Outsiders.{Outsiders, Told}

-- how often keeper, signer and verifier failed
pub record Counts : Type 0 where
  pub keeper : ℕ
  pub signer : ℕ
  pub verifier : ℕ

abbrev pub counts : (keeper signer verifier : ℕ) → Counts
counts keeper signer verifier = record { keeper = keeper; signer = signer; verifier = verifier }

abbrev pub counts_of : Told → Counts
counts_of t = counts t.keeper_faults t.others.signer.faults t.others.verifier.faults

-- no count has fallen
pub record Later (before after_ : Counts) : Type 0 where
  pub keeper : before.keeper ≤ after_.keeper
  pub signer : before.signer ≤ after_.signer
  pub verifier : before.verifier ≤ after_.verifier

-- how a signer signs, which signatures are true, and what the screen passes, where signer and verifier tell it
abbrev pub meanings_told : JwsAlg → Option (JwsAlg → List ℕ → List ℕ → List ℕ) → Option Meaning → Passes → Option Meanings
meanings_told algorithm None truth passes = None
meanings_told algorithm (Some signing) None passes = None
meanings_told algorithm (Some signing) (Some truth) passes = Some (record {
  signer = record { algorithm = alg_view algorithm; sign = signing algorithm };
  verifier = λ claim. says (Some truth) true claim;
  passes = passes;
})

abbrev pub meanings_of : Outsiders → Option Meanings
meanings_of o = meanings_told o.signer.algorithm o.signer.meaning o.verifier.meaning o.screen
