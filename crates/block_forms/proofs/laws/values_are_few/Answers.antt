use Rattle.block_forms.proofs.Standing.{few_by_fault}
use Rattle.block_forms.proofs.laws.values_are_few.Goals as goal

pub returns : goal.returns
returns c = few_by_fault
