-- What the outside may come to in one event: the free choices of keeper, signer and verifier (this project's own).
use Rattle.std.specs.Prelude.{◌≡◌, ⊤, ℕ, List, Bool, Option, None}
use Rattle.spec_sealing.specs.Jws.{Algorithm}
use Rattle.spec_exchange.specs.Outside.{Choice, no_fault}
use Rattle.spec_exchange.specs.EntryChecks.{Claim, Verifying, by_meaning}
use Rattle.spec_exchange.specs.Screens.{Passes}
use Rattle.spec_exchange.specs.Calls as accepting

-- what signs: by which algorithm, and the signature for an identity of an input
pub record Signer : Type 0 where
  pub algorithm : Algorithm
  pub sign : (identity input : List ℕ) → List ℕ

-- what signing comes to
pub data Signing : Type 0 where
  Signs : (signer : Signer) → Signing
  SignerFails : Signing

-- the choices of one event
pub record Choices : Type 0 where
  pub keeper : Choice
  pub signer : Signing
  pub verifier : Verifying

-- as those of accepting
abbrev pub of_accepting : Choices → accepting.Choices
of_accepting f = record { keeper = f.keeper; verifier = f.verifier }

-- what stays the same in a whole run: who signs, what the verifier says of a claim, and which messages the screen passes
pub record Meanings : Type 0 where
  pub signer : Signer
  pub verifier : Claim → Bool
  pub passes : Passes

-- what is signed is by this signer
abbrev pub SignsBy : Signer → Signing → Type 0
SignsBy g (Signs signer) = signer ≡ g
SignsBy g SignerFails = ⊤

-- the verifier says what is meant, and fails at one entry at most
pub record VerifiesBy (meaning : Claim → Bool) (v : Verifying) : Type 0 where
  pub failing : Option ℕ
  pub is : v ≡ by_meaning meaning failing

-- the choices go by these meanings
pub record IsBy (m : Meanings) (f : Choices) : Type 0 where
  pub signs : SignsBy m.signer f.signer
  pub verifies : VerifiesBy m.verifier f.verifier

-- nothing fails
abbrev pub unfailing : Meanings → Choices
unfailing m = record { keeper = no_fault; signer = Signs m.signer; verifier = by_meaning m.verifier None }
