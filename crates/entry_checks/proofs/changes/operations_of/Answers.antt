use Rattle.n32_values.specs.View.{tree_of}
use Rattle.entry_checks.proofs.Operations.{at_most_64}
use Rattle.entry_checks.proofs.changes.operations_of.Goals as goal

pub returns-in-Ok-clause-few : goal.returns-in-Ok-clause-few
returns-in-Ok-clause-few c = at_most_64 (tree_of c.node.result.now) c.in-Ok.operations c.in-Ok.ensures
