-- What signing and verifying an entry come to, by the meaning of the signer or verifier where it tells one.
use Rattle.std.specs.Prelude.{◌≡◌, ⊤, ℕ, List, Bool, true, false, Option, Some, None, Result, Ok, Err}
use Rattle.spec_documents.specs.Tree.{Tree}
use Rattle.spec_sealing.specs.Entries.{signed_entry}
use Rattle.n32_outside.specs.Meanings.{Verifies}
use Rattle.n32_outside.specs.declared.algorithm.JwsAlg.{JwsAlg}
use Rattle.jws_flat.specs.declared.verify.VerifyFault.{VerifyFault}
use Rattle.jws_flat.specs.declared.verify.VerifyFault.TheVariants.{Signature, Verifier, NoMemory}
use Rattle.jws_flat.specs.View.{alg_view}

-- the function signs as the signer means for the algorithm and the identity
abbrev pub SignsAs : Option (JwsAlg → List ℕ → List ℕ → List ℕ) → JwsAlg → List ℕ → (List ℕ → List ℕ) → Type 0
SignsAs None alg identity sign = ⊤
SignsAs (Some meaning) alg identity sign = sign ≡ meaning alg identity

-- e is the entry with the signature that the signer means
pub record IsSigned (meaning : Option (JwsAlg → List ℕ → List ℕ → List ℕ)) (alg : JwsAlg) (identity : List ℕ) (operations : Tree) (tag : List ℕ) (e : Tree) : Type 0 where
  pub sign : List ℕ → List ℕ
  pub by : SignsAs meaning alg identity sign
  pub entry : e ≡ signed_entry (alg_view alg) identity operations tag sign

-- the verifier says of the signature what the result says
abbrev pub Judges : Option (JwsAlg → List ℕ → List ℕ → List ℕ → Bool) → Result (Unit {0}) VerifyFault → JwsAlg → List ℕ → List ℕ → List ℕ → Type 0
Judges meaning (Ok u) alg identity input signature = Verifies meaning (Ok true) alg identity input signature
Judges meaning (Err Signature) alg identity input signature = Verifies meaning (Ok false) alg identity input signature
Judges meaning (Err Verifier) alg identity input signature = ⊤
Judges meaning (Err NoMemory) alg identity input signature = ⊤
