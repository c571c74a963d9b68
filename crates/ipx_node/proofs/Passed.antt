-- What is passed on, over what its parts come to.
use Rattle.std.proofs.Common.{◌≡◌, ℕ, List, [], Option, Some, None, Ok, Err, refl, sym, ap, ◌∙◌}
use Rattle.spec_documents.specs.Gives.{Tells}
use Rattle.spec_documents.specs.Tree.{Tree}
use Rattle.spec_documents.proofs.Chains.{bind_at, tells_on}
use Rattle.spec_sealing.specs.Received.{Received}
use Rattle.spec_sealing.specs.Passing.{tag_text, with_room, with_entry}
use Rattle.n32_outside.specs.declared.algorithm.JwsAlg.{JwsAlg}
use Rattle.jws_flat.specs.Signing.{SignsAs, IsSigned}
use Rattle.ipx_node.specs.declared.passing.PassFault.{PassFault}
use Rattle.ipx_node.specs.Passes.{Passes, form_told}

module _ (meaning : Option (JwsAlg → List ℕ → List ℕ → List ℕ)) (alg : JwsAlg) (identity : List ℕ) (operations : Tree) (t : Tree) where
  pub passed_on : (parts : Received) (e d : Tree) → with_room t ≡ Ok parts → IsSigned meaning alg identity operations (tag_text parts.jwe) e → d ≡ with_entry t parts.entries e → Passes meaning alg identity operations t (Ok d)
  passed_on parts e d room signed is = record {
    sign = signed.sign;
    by = signed.by;
    gives = bind_at (with_room t) _ parts room ∙ (ap (λ n. Ok (with_entry t parts.entries n)) (sym signed.entry) ∙ ap (λ n. Ok n) (sym is));
  }

  some_sign : (told : Option (JwsAlg → List ℕ → List ℕ → List ℕ)) → (sign : List ℕ → List ℕ) × SignsAs told alg identity sign
  some_sign None = (λ input. [], tt)
  some_sign (Some f) = (f alg identity, refl)

  pub not_passed : (e : PassFault) → Tells (form_told e) (with_room t) → Passes meaning alg identity operations t (Err e)
  not_passed e h = record {
    sign = (some_sign meaning).0;
    by = (some_sign meaning).1;
    gives = tells_on (form_told e) (with_room t) _ h;
  }
