use Rattle.std.proofs.Common.{◌≡◌, ◌++◌, None, map}
use Rattle.std.specs.Vec.Iter.{into_iter_items}
use Rattle.spec_documents.specs.Hole.{first_bad}
use Rattle.enc_index.specs.Marks.{mark_view}
use Rattle.enc_index.specs.Tables.{Enters}
use Rattle.enc_index.proofs.settle.table_of.Given as goal

abbrev pub invariant-loop-mark : goal.invariant-loop-mark
invariant-loop-mark l = record {
  all : l.fn.found ≡ l.yielded ++ into_iter_items l.mark-iterator;
  good : first_bad l.count (map mark_view l.yielded) ≡ None;
  table : Enters l.table (map mark_view l.yielded);
}
