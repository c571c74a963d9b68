use Rattle.std.proofs.Common.{◌≡◌, map, take}
use Rattle.spec_documents.specs.Tree.{words}
use Rattle.context_records.proofs.write.texts_node.Given as goal

abbrev pub invariant-loop-i : goal.invariant-loop-i
invariant-loop-i l = l.list ≡ map words (take l.i l.texts)
