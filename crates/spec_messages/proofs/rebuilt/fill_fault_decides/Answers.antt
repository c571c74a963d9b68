use Rattle.spec_messages.proofs.RebuiltLemmas.{faultless_filled, faulty_unfilled}
use Rattle.spec_messages.proofs.rebuilt.fill_fault_decides.Goals as goal

pub returns : goal.returns
returns c = record { none = λ vs m e. faultless_filled vs m e; some = λ vs m why e. faulty_unfilled vs m why e }
