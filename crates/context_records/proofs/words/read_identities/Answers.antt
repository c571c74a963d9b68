use Rattle.std.proofs.Common.{◌≡◌, ◌<◌, length, arith}
use Rattle.n32_values.specs.View.{tree_of}
use Rattle.context_records.proofs.Lists.{one_identity}
use Rattle.context_records.proofs.words.read_identities.Goals as goal

pub returns : goal.returns
returns c =
    let none : length c.args.list.now ≡ 0 → ⊥ = λ e. omega (arith, c.len-count.ensures, c.if-count-eq0.false, e) in
    let many : 1 < length c.args.list.now → ⊥ = λ e. omega (arith, c.len-count.ensures, c.if-count-gt1.false, e) in
    rw (one_identity c.args.list.now (tree_of c.item.result.now) none many c.item.ensures) c.one_identity.ensures
