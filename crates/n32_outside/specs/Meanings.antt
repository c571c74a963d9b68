-- What signing and verifying answer, by the meaning of the object where it tells one.
use Rattle.std.specs.Prelude.{◌≡◌, ℕ, List, Bool, Option, None, Some, Result, Ok, Err}
use Rattle.n32_outside.specs.declared.faults.OutFault.{OutFault}
use Rattle.n32_outside.specs.declared.algorithm.JwsAlg.{JwsAlg}

-- the signature by the algorithm, for the identity, of the input
abbrev pub Signs : Option (JwsAlg → List ℕ → List ℕ → List ℕ) → Result (List ℕ) OutFault → JwsAlg → List ℕ → List ℕ → Type 0
Signs (Some meaning) (Ok signature) alg identity input = signature ≡ meaning alg identity input
Signs None (Ok signature) alg identity input = Unit {0}
Signs told (Err _) alg identity input = Unit {0}

-- whether the signature by the algorithm, for the identity, of the input is true
abbrev pub Verifies : Option (JwsAlg → List ℕ → List ℕ → List ℕ → Bool) → Result Bool OutFault → JwsAlg → List ℕ → List ℕ → List ℕ → Type 0
Verifies (Some meaning) (Ok truth) alg identity input signature = truth ≡ meaning alg identity input signature
Verifies None (Ok truth) alg identity input signature = Unit {0}
Verifies told (Err _) alg identity input signature = Unit {0}
