use Rattle.spec_messages.proofs.FilledStands.{operation_stands, entry_stands}
use Rattle.spec_messages.proofs.commutation.filled_steps_stand.Goals as goal

pub returns : goal.returns
returns c = record {
  operation = λ s f h. (operation_stands s.policy s.mapping s.ipx s.holes s.before s.clear s.operation s.after s.patched f.values f.full s.block s.allowed f.is h).2;
  entry = λ s f h. (entry_stands s.policy s.mapping s.ipx s.holes s.operations s.before s.clear s.after s.patched f.values f.full s.block s.applied f.is h).2;
}
