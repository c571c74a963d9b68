-- A document on the wire that is altered by the operations of a JSON Patch (RFC 6902). The bounds on depth and length are this project's own.
use Rattle.std.specs.Prelude.{List, [], ◌∷◌, length, nat_lt, Result, Ok, codes}
use Rattle.spec_documents.specs.Tree.{Tree, depth}
use Rattle.spec_documents.specs.Compact.{compact_text}
use Rattle.spec_documents.specs.Patch.{Op, patched}
use Rattle.spec_messages.specs.Limits.{long_document}
use Rattle.spec_exchange.specs.Chain.{◌>>=◌, unless, or_refused}
use Rattle.spec_script.specs.Refusals.{Refusal, BadEvent, Beyond}

-- an operation that fails, or whose result is deeper than 126, is told as the member that holds it; then its length counts
abbrev pub altered_by : Op → Tree → Result Tree Refusal
altered_by op t = do
  u ← or_refused (λ cause. BadEvent (codes "operations")) (patched t op)
  _ ← unless (nat_lt 126 (depth u)) (BadEvent (codes "operations"))
  _ ← unless (nat_lt 16777216 (length (compact_text u))) (Beyond long_document)
  Ok u

-- the operations in order
abbrev pub altered : List Op → Tree → Result Tree Refusal
altered [] t = Ok t
altered (op ∷ ops) t = altered_by op t >>= λ u. altered ops u
