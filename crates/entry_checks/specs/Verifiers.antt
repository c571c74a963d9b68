-- What a verifier comes to at the entries of one call: what it means, where it tells that (this project's own).
use Rattle.std.specs.Prelude.{ℕ, List, Bool, Option, Some, None, IfSome, if◌then◌else◌}
use Rattle.spec_sealing.specs.Jws as jwses
use Rattle.n32_outside.specs.Causes.{Rose}
use Rattle.n32_outside.specs.declared.algorithm.JwsAlg.{JwsAlg}
use Rattle.n32_outside.specs.declared.algorithm.JwsAlg.TheVariants.{Hs256, Es256}
use Rattle.spec_exchange.specs.EntryChecks.{Claim, Verdict, Fails, Verifying, verdict_of, is_entry}

-- whether a signature by an algorithm, for an identity, of an input is true
abbrev pub Meaning : Type 0
Meaning = JwsAlg → (identity input signature : List ℕ) → Bool

abbrev pub algorithm_of : jwses.Algorithm → JwsAlg
algorithm_of jwses.Hs256 = Hs256
algorithm_of jwses.Es256 = Es256

-- what is said of a claim: what is meant, where that is told
abbrev pub says : Option Meaning → (said : Bool) → Claim → Bool
says None said claim = said
says (Some meaning) said claim = meaning (algorithm_of claim.algorithm) claim.identity claim.input claim.signature

abbrev pub verdict : Option Meaning → (said fails : Bool) → Claim → Verdict
verdict meaning said fails claim = if fails then Fails else verdict_of (says meaning said claim)

-- the free choices of a call: what a verifier that doesn't tell its meaning says at each entry, and the entry at which the verifier fails, if it does
pub record Saying : Type 0 where
  pub said : ℕ → Bool
  pub failing : Option ℕ

abbrev pub verifying : Option Meaning → Saying → Verifying
verifying meaning s number claim = verdict meaning (s.said number) (is_entry s.failing number) claim

-- so it comes under some choice of the verifier, which fails at an entry only where its count rose
pub record UnderVerifier (meaning : Option Meaning) (before now : ℕ) (Comes : Verifying → Type 0) : Type 0 where
  pub saying : Saying
  pub failed : IfSome saying.failing (λ number. Rose before now)
  pub comes : Comes (verifying meaning saying)
