-- A listed call counts as a fault beside those of the object that is held.
use Rattle.std.proofs.Common.{◌≡◌, ◌≤◌, ◌+◌, ℕ, Result, arith}
use Rattle.n32_outside.specs.Causes.{HasOutCause, Rose}
use Rattle.n32_outside.specs.declared.faults.OutFault.{OutFault}

pub listed_cause : {T : Type 0} (before now inner same : ℕ) (result : Result T OutFault) → same ≡ inner → before ≤ now → Rose before now → HasOutCause (before + inner) (now + same) result
listed_cause before now inner same result e later rose = record { later = omega (arith, e, later); failed = λ _. omega (arith, e, rose) }
