-- What a node tells intermediaries.
use Rattle.std.specs.Prelude.{ℕ, List, [], Bool, Option, Some, None, unwrap_or}
use Rattle.spec_documents.specs.Tree.{Tree}
use Rattle.spec_messages.specs.PolicyDocument.{grants_of, truth_of}

abbrev pub grants_in : Tree → List (List ℕ × Bool)
grants_in t = unwrap_or (grants_of t) []

abbrev pub truth_in : Option Tree → Option Bool
truth_in None = None
truth_in (Some t) = truth_of t
