use Rattle.std.proofs.Common.{◌≡◌, ◌<◌, [], length, refl, arith}
use Rattle.n32_values.specs.View.{tree_of}
use Rattle.json_patch6902.proofs.NewPlaces.{takes_under, get_last}
use Rattle.json_patch6902.proofs.OpLaws.{no_token, some_token}
use Rattle.json_patch6902.proofs.place.takes_at.Goals as goal

pub returns-then-is_empty : goal.returns-then-is_empty
returns-then-is_empty c =
    let none : c.args.path.now ≡ [] = no_token _ c.args.path.now c.is_empty.ensures c.if-is_empty.true in rw none (λ v. (v, refl))

pub returns : goal.returns
returns c =
    let some : 0 < length c.args.path.now = some_token _ c.args.path.now c.is_empty.ensures c.if-is_empty.false in
    takes_under c.args.path.now (tree_of c.args.node.now) (tree_of c.in_ok-parent.parent.now) c.token.result.now c.takes_child.result some c.in_ok-parent.ensures
    (get_last c.args.path.now _ c.token.result.now c.token.ensures (omega arith)) (rw c.as_str.ensures at c.takes_child.ensures)
