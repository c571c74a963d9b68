use Rattle.std.proofs.Common.{ap, ◌∙◌}
use Rattle.gcm_mode.specs.Table.{nibble_products}
use Rattle.gcm_mode.proofs.Nibbles.{entry-at}
use Rattle.gcm_mode.proofs.field.GhashTable.of_degree_3.Goals as goal

pub returns : goal.returns
returns c = entry-at _ c.args.self.now c.args.i (c.self.invariant ∙ ap nibble_products c.self.view_is) c.requires
