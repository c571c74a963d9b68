use Rattle.std.proofs.Common.{◌∙◌, arith}
use Rattle.n32_values.proofs.Escapes.{byte_cost-escape}
use Rattle.n32_values.proofs.length.byte_length.Goals as goal

pub returns : goal.returns
returns c = c.byte_cost.ensures ∙ byte_cost-escape c.args.byte (omega (arith, c.ranges.byte.fits))
