-- What passing a document on comes to, by the signer's meaning where it tells one.
use Rattle.std.specs.Prelude.{ℕ, List, Option, Some, None, Result}
use Rattle.spec_documents.specs.Gives.{Gives}
use Rattle.spec_documents.specs.Tree.{Tree}
use Rattle.spec_sealing.specs.Passing.{passed}
use Rattle.n32_outside.specs.declared.algorithm.JwsAlg.{JwsAlg}
use Rattle.prins_document.specs.View.{part_name}
use Rattle.jws_flat.specs.View.{alg_view}
use Rattle.jws_flat.specs.Signing.{SignsAs}
use Rattle.ipx_node.specs.declared.passing.PassFault.{PassFault}
use Rattle.ipx_node.specs.declared.passing.PassFault.TheVariants.{Form, Signer, NoMemory}

-- the part of the document that a fault tells
abbrev pub form_told : PassFault → Option (List ℕ)
form_told (Form part) = Some (part_name part)
form_told Signer = None
form_told NoMemory = None

-- the document t with one entry more, which is signed as the signer means, or the part of t that has not its form
pub record Passes (meaning : Option (JwsAlg → List ℕ → List ℕ → List ℕ)) (alg : JwsAlg) (identity : List ℕ) (operations : Tree) (t : Tree) (result : Result Tree PassFault) : Type 0 where
  pub sign : List ℕ → List ℕ
  pub by : SignsAs meaning alg identity sign
  pub gives : Gives form_told (λ d. d) result (passed (alg_view alg) identity operations sign t)
