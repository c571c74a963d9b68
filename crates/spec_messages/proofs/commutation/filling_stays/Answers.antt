use Rattle.spec_messages.proofs.FilledStays.{filled-stays, filled-stays-entry, filled-stays-chain}
use Rattle.spec_messages.proofs.TextsStay.{texts-stay-entry}
use Rattle.spec_messages.proofs.commutation.filling_stays.Goals as goal

pub returns : goal.returns
returns c = record {
  operation = λ s f. filled-stays s.policy s.mapping s.ipx s.holes s.before s.clear s.operation s.after s.patched f.values f.full s.block s.allowed f.is;
  entry = λ s f. filled-stays-entry s.policy s.mapping s.ipx s.holes s.operations s.before s.clear s.after s.patched f.values f.full s.block s.applied f.is;
  chain = λ s f. filled-stays-chain s.policy s.mapping s.holes s.entries s.before s.clear s.after s.patched f.values f.full s.block s.applied f.is;
  texts = λ s vs e. texts-stay-entry s.policy s.mapping s.ipx s.holes s.operations s.before s.clear s.after s.patched vs s.block s.applied e;
}
