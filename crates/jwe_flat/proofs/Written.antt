-- A JWE whose tree is the written one is read back.
use Rattle.std.proofs.Common.{◌≡◌, Ok, ap, ◌∙◌, codes}
use Rattle.spec_documents.specs.Tree.{Tree}
use Rattle.spec_documents.proofs.Chains.{bind_at}
use Rattle.spec_messages.specs.Message.{wanted}
use Rattle.spec_sealing.specs.Header.{object_in}
use Rattle.spec_sealing.specs.Jwe.{Jwe, jwe_in, jwe_members, jwe_tree}
use Rattle.jwe_flat.specs.Documents.{jwe_of}

pub read_back : (w : Jwe) (t : Tree) → t ≡ jwe_tree w → jwe_in (jwe_members w) ≡ Ok w → jwe_of t ≡ Ok w
read_back w t written read = bind_at (wanted (object_in t) (codes "reformattedData")) jwe_in (jwe_members w) (ap (λ x. wanted (object_in x) (codes "reformattedData")) written) ∙ read
