use Rattle.std.specs.Prelude.{option_map, codes}
use Rattle.n32_values.specs.View.{tree_of}
use Rattle.ipx_node.proofs.Putting.{appended}
use Rattle.ipx_node.proofs.append.append.Goals as goal

pub returns : goal.returns
returns c =
    appended (codes "modificationsBlock") c.args.map.now c.set_aside.new.map c.put.new.map (option_map tree_of c.in_ok-earlier.earlier) c.entries_in-list.result c.push.new.self (tree_of c.args.entry)
    c.in_ok-earlier.ensures.after c.in_ok-earlier.ensures.earlier c.entries_in-list.ensures c.in_ok-push.ensures.ok c.in_ok-put.ensures.ok
