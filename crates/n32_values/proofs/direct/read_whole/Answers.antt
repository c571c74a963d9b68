use Rattle.std.proofs.Common.{◌≡◌, [], rules}
use Rattle.n32_values.specs.View.{tree_of}
use Rattle.n32_values.proofs.StraightReading.{whole_same}
use Rattle.n32_values.proofs.direct.read_whole.Goals as goal

pub returns : goal.returns
returns c =
    let none : c.read_node.new.reader ≡ [] = search rules in
    whole_same c.args.text.now (tree_of c.in_ok-node.node) (rw (c.in-Ok.ensures.ok, none) at c.in_ok-node.ensures.ok)
