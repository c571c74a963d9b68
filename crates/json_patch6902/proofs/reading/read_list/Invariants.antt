use Rattle.std.proofs.Common.{◌≡◌, ◌+◌, map, drop}
use Rattle.spec_documents.specs.Operations.{ops_from}
use Rattle.json_patch6902.specs.View.{op_view}
use Rattle.json_patch6902.proofs.ReadLists.{onto}
use Rattle.json_patch6902.proofs.reading.read_list.Given as goal

abbrev pub invariant-loop-i : goal.invariant-loop-i
invariant-loop-i l = onto (map op_view l.ops) (ops_from (l.i + 1) (drop l.i l.list)) ≡ ops_from 1 l.list
