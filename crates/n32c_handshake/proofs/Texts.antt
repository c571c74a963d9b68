-- The text of a document is UTF-8.
use Rattle.std.proofs.Common.{◌≡◌, ◌≤◌, ℕ, List}
use Rattle.std.specs.Str.Lossy.{utf8_lossy}
use Rattle.std.proofs.lemmas.Str.{utf8_lossy-IsUtf8}
use Rattle.spec_documents.specs.Tree.{Tree, depth}
use Rattle.spec_documents.specs.Reading.{ReadsTo}

pub lossless : (b : List ℕ) (t : Tree) → depth t ≤ 127 → (depth t ≤ 127 → ReadsTo b t) → utf8_lossy b ≡ b
lossless b t shallow reads = utf8_lossy-IsUtf8 b (reads shallow).has.utf8
