use Rattle.std.proofs.Common.{arith}
use Rattle.n32_values.proofs.Lengths.{most_quoted}
use Rattle.n32_values.proofs.length.most_quoted.Goals as goal

pub returns : goal.returns
returns c = omega (arith, most_quoted c.args.text.now, c.saturating_mul.ensures, c.saturating_add.ensures)
