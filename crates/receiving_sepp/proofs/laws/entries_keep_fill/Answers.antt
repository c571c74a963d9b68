use Rattle.receiving_sepp.proofs.Filling.{keeps_fill}
use Rattle.receiving_sepp.proofs.laws.entries_keep_fill.Goals as goal

pub returns : goal.returns
returns c = keeps_fill c.entry_outcome_decides.ensures.made c.fill_fault_decides.ensures.some c.filling_stays.ensures.chain
