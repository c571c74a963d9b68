use Rattle.n32_values.specs.View.{tree_of}
use Rattle.ipx_node.proofs.Deep.{fits}
use Rattle.ipx_node.proofs.append.with_entry.Goals as goal

pub from_shallow-requires : goal.from_shallow-requires
from_shallow-requires c =
    fits c.args.doc.now (tree_of c.args.entry) c.in_ok-map.map c.append.new.map c.in_ok-map.ensures.shallow c.requires c.in_ok-map.ensures.members c.in_ok-append.ensures
