-- The JWE of a tree.
use Rattle.std.specs.Prelude.{ℕ, List, Result, codes}
use Rattle.spec_documents.specs.Tree.{Tree}
use Rattle.spec_documents.specs.Chain.{◌>>=◌}
use Rattle.spec_messages.specs.Message.{wanted}
use Rattle.spec_sealing.specs.Header.{object_in}
use Rattle.spec_sealing.specs.Jwe.{Jwe, jwe_in}

-- the JWE of an object, or the first part that has not its form. The whole is told as the member that it is of a reformatted document (TS 29.573 clause 5.3.2)
abbrev pub jwe_of : Tree → Result Jwe (List ℕ)
jwe_of t = wanted (object_in t) (codes "reformattedData") >>= jwe_in
