-- The entry with a signature is that of a function which signs so.
use Rattle.std.proofs.Common.{◌≡◌, ℕ, List, Option, Some, None, Ok, refl, ap, ◌∙◌}
use Rattle.spec_documents.specs.Tree.{Tree}
use Rattle.spec_sealing.specs.Entries.{entry_input, entry_tree}
use Rattle.n32_outside.specs.Meanings.{Signs}
use Rattle.n32_outside.specs.declared.algorithm.JwsAlg.{JwsAlg}
use Rattle.jws_flat.specs.View.{alg_view}
use Rattle.jws_flat.specs.Signing.{IsSigned}

pub signed_by : (meaning : Option (JwsAlg → List ℕ → List ℕ → List ℕ)) (alg : JwsAlg) (identity : List ℕ) (operations : Tree) (tag signature : List ℕ) (e : Tree)
    → Signs meaning (Ok signature) alg identity (entry_input (alg_view alg) identity operations tag) → e ≡ entry_tree (alg_view alg) identity operations tag signature
    → IsSigned meaning alg identity operations tag e
signed_by None alg identity operations tag signature e s is = record { sign = λ input. signature; by = tt; entry = is }
signed_by (Some meaning) alg identity operations tag signature e s is =
    record { sign = meaning alg identity; by = refl; entry = is ∙ ap (entry_tree (alg_view alg) identity operations tag) s }
