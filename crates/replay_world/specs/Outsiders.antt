-- What keeper, signer, verifier and screen tell before and after an event, and what an event may go by of signer and verifier.
use Rattle.std.specs.Prelude.{◌≡◌, ℕ, ◌≤◌, List, true, Option, Some, None, IfSome}
use Rattle.n32_outside.specs.Causes.{Rose}
use Rattle.n32_outside.specs.declared.algorithm.JwsAlg.{JwsAlg}
use Rattle.jws_flat.specs.View.{alg_view}
use Rattle.entry_checks.specs.Verifiers.{Meaning, Saying, verifying}
use Rattle.spec_exchange.specs.Outside.{Choice}
use Rattle.spec_exchange.specs.EntryChecks.{Verifying, Fails}
use Rattle.spec_exchange.specs.Screens.{Passes}
use Rattle.spec_script.specs.Choices.{Signing, Signs, SignerFails, Choices}
use Rattle.spec_script.specs.Events.{Event}
use Rattle.spec_script.specs.Steps.{State, Step, step, line_step}

-- ---- what is told

-- what a signer tells: its algorithm, its signatures where it tells them, and how often it failed
pub record OfSigner : Type 0 where
  pub algorithm : JwsAlg
  pub meaning : Option (JwsAlg → List ℕ → List ℕ → List ℕ)
  pub faults : ℕ

abbrev pub of_signer : JwsAlg → Option (JwsAlg → List ℕ → List ℕ → List ℕ) → ℕ → OfSigner
of_signer algorithm meaning faults = record { algorithm = algorithm; meaning = meaning; faults = faults }

-- what a verifier tells: which signatures are true, where it tells that, and how often it failed
pub record OfVerifier : Type 0 where
  pub meaning : Option Meaning
  pub faults : ℕ

abbrev pub of_verifier : Option Meaning → ℕ → OfVerifier
of_verifier meaning faults = record { meaning = meaning; faults = faults }

-- what both tell, and which messages the screen's rule passes
pub record Outsiders : Type 0 where
  pub signer : OfSigner
  pub verifier : OfVerifier
  pub screen : Passes

abbrev pub outsiders : JwsAlg → Option (JwsAlg → List ℕ → List ℕ → List ℕ) → (signed : ℕ) → Option Meaning → (verified : ℕ) → Passes → Outsiders
outsiders algorithm signing signed truth verified passes = record {
  signer = of_signer algorithm signing signed;
  verifier = of_verifier truth verified;
  screen = passes;
}

-- with what a keeper tells: the texts that it holds, where it tells them, and how often it failed
pub record Told : Type 0 where
  pub held : Option (List (List ℕ))
  pub keeper_faults : ℕ
  pub others : Outsiders

abbrev pub told : Option (List (List ℕ)) → ℕ → Outsiders → Told
told held faults others = record { held = held; keeper_faults = faults; others = others }

-- ---- what stays

-- the signer signs as before, and its count hasn't fallen
pub record SignerStays (before after_ : OfSigner) : Type 0 where
  pub same_algorithm : after_.algorithm ≡ before.algorithm
  pub same_meaning : after_.meaning ≡ before.meaning
  pub later : before.faults ≤ after_.faults

-- the same signatures are true as before, and the verifier's count hasn't fallen
pub record VerifierStays (before after_ : OfVerifier) : Type 0 where
  pub same_meaning : after_.meaning ≡ before.meaning
  pub later : before.faults ≤ after_.faults

-- both stay so, and the screen is the same
pub record OthersStay (before after_ : Outsiders) : Type 0 where
  pub signer : SignerStays before.signer after_.signer
  pub verifier : VerifierStays before.verifier after_.verifier
  pub same_screen : after_.screen ≡ before.screen

-- ---- what an event goes by

-- what signer and verifier come to
pub record Acting : Type 0 where
  pub signer : Signing
  pub verifier : Verifying

-- the choices of an event
abbrev pub by : Acting → Choice → Choices
by x choice = record { keeper = choice; signer = x.signer; verifier = x.verifier }

-- it signs by the signer's algorithm, and as the signer tells; it fails only where the signer's count rose
abbrev pub IsMeant : JwsAlg → Option (JwsAlg → List ℕ → List ℕ → List ℕ) → (before after_ : ℕ) → Signing → Type 0
IsMeant algorithm told before after_ SignerFails = Rose before after_
IsMeant algorithm None before after_ (Signs g) = g.algorithm ≡ alg_view algorithm
IsMeant algorithm (Some meaning) before after_ (Signs g) = g ≡ record { algorithm = alg_view algorithm; sign = meaning algorithm }

-- signatures are true as the verifier tells; it fails at one entry at most, and only where its count rose
pub record IsVerified (told : Option Meaning) (before after_ : ℕ) (v : Verifying) : Type 0 where
  pub saying : Saying
  pub failed : IfSome saying.failing (λ number. Rose before after_)
  pub is : v ≡ verifying told saying

-- so signer and verifier act
pub record IsActing (before after_ : Outsiders) (x : Acting) : Type 0 where
  pub signer : IsMeant before.signer.algorithm before.signer.meaning before.signer.faults after_.signer.faults x.signer
  pub verifier : IsVerified before.verifier.meaning before.verifier.faults after_.verifier.faults x.verifier

-- under some acting of that kind
pub record Acted (before after_ : Outsiders) (P : Acting → Type 0) : Type 0 where
  pub acting : Acting
  pub meant : IsActing before after_ acting
  pub holds : P acting

-- under some signing of that kind, for an event that asks no verifier
pub record Signed (before after_ : OfSigner) (P : Signing → Type 0) : Type 0 where
  pub signing : Signing
  pub meant : IsMeant before.algorithm before.meaning before.faults after_.faults signing
  pub holds : P signing

-- ---- steps

-- the steps of an event behind a screen
abbrev pub event_steps : Passes → Acting → Event → State → Choice → Step
event_steps passes x e s f = step passes s (by x f) e

abbrev pub line_steps : Passes → Acting → (line : List ℕ) → State → Choice → Step
line_steps passes x line s f = line_step passes s (by x f) line

-- one that asks no verifier, and one that asks no signer
abbrev pub only_signs : Signing → Acting
only_signs x = record { signer = x; verifier = λ number claim. Fails }

abbrev pub only_verifies : Verifying → Acting
only_verifies v = record { signer = SignerFails; verifier = v }

abbrev pub idle : Acting
idle = only_signs SignerFails

abbrev pub all_pass : Passes
all_pass m plmn = true

-- the steps of an event that asks neither of them, nor a screen
abbrev pub unasked : Event → State → Choice → Step
unasked e s f = event_steps all_pass idle e s f
