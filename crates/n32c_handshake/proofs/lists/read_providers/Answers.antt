use Rattle.std.proofs.Common.{◌≡◌, ◌<◌, length, arith}
use Rattle.n32_values.specs.View.{tree_of}
use Rattle.n32c_handshake.proofs.Checks.{one_listed}
use Rattle.n32c_handshake.proofs.lists.read_providers.Goals as goal

pub returns : goal.returns
returns c =
    let none : length c.args.list.now ≡ 0 → ⊥ = λ e. omega (arith, c.len-count.ensures, c.if-count-eq0.false, e) in
    let many : 1 < length c.args.list.now → ⊥ = λ e. omega (arith, c.len-count.ensures, c.if-count-gt1.false, e) in
    rw (one_listed c.args.list.now (tree_of c.item.result.now) none many c.item.ensures) c.one_provider.ensures
