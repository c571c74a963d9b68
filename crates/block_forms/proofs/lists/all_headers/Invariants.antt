use Rattle.std.proofs.Common.{◌≡◌, drop}
use Rattle.std.specs.List.{list_all}
use Rattle.spec_messages.specs.Fault.{is_header_node}
use Rattle.block_forms.proofs.lists.all_headers.Given as goal

abbrev pub invariant-loop-i : goal.invariant-loop-i
invariant-loop-i l = list_all is_header_node (drop l.i l.list) ≡ list_all is_header_node l.list
