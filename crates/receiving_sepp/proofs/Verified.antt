-- What comes whatever a verifier says comes where it is not asked, and what follows from what comes comes too.
use Rattle.std.proofs.Common.{◌≡◌, ℕ, Bool, true, false, Option, Some, None, refl}
use Rattle.std.specs.Prelude.{IfSome, if◌then◌else◌}
use Rattle.n32_outside.specs.Causes.{Rose}
use Rattle.spec_exchange.specs.EntryChecks.{Claim, Fails, Verifying, verdict_of, is_entry}
use Rattle.entry_checks.specs.Verifiers.{Meaning, Saying, UnderVerifier, says, verifying}

pub under_any : (meaning : Option Meaning) (before now : ℕ) (Comes : Verifying → Type 0) → ((v : Verifying) → Comes v) → UnderVerifier meaning before now Comes
under_any meaning before now Comes h =
    let saying : Saying = record { said = λ number. true; failing = None } in
    record { saying = saying; failed = tt; comes = h (verifying meaning saying) }

pub under_on : (meaning : Option Meaning) (before now : ℕ) (Comes Follows : Verifying → Type 0) → ((v : Verifying) → Comes v → Follows v) → UnderVerifier meaning before now Comes → UnderVerifier meaning before now Follows
under_on meaning before now Comes Follows h u = record { saying = u.saying; failed = u.failed; comes = h (verifying meaning u.saying) u.comes }

-- ---- that the verifier failed

fails_by : (b c : Bool) → (if b then Fails else verdict_of c) ≡ Fails → b ≡ true
fails_by true c e = refl
fails_by false true e = cc
fails_by false false e = cc

rose_by : (failing : Option ℕ) (number before now : ℕ) → IfSome failing (λ k. Rose before now) → is_entry failing number ≡ true → Rose before now
rose_by None number before now rose e = cc
rose_by (Some k) number before now rose e = rose

-- a verifier fails at an entry only where its count rose
pub rose_at : (meaning : Option Meaning) (s : Saying) (before now number : ℕ) (claim : Claim) → IfSome s.failing (λ k. Rose before now) → verifying meaning s number claim ≡ Fails → Rose before now
rose_at meaning s before now number claim rose e = rose_by s.failing number before now rose (fails_by (is_entry s.failing number) (says meaning (s.said number) claim) e)
