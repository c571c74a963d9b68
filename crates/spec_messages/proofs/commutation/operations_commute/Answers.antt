use Rattle.spec_messages.proofs.AllowedLemmas.{allowed-objects}
use Rattle.spec_messages.proofs.CommuteLemmas.{allowed-commutes}
use Rattle.spec_messages.proofs.EntryLemmas.{entry-filled, fill_tree-still, patched-filled}
use Rattle.spec_messages.proofs.commutation.operations_commute.Goals as goal

pub returns : goal.returns
returns c = record {
  objects = λ s vs. allowed-objects s.policy s.mapping s.ipx s.holes s.before s.clear s.operation s.after s.patched vs s.block s.allowed;
  operation = λ s vs. allowed-commutes s.policy s.mapping s.ipx s.holes s.before s.clear s.operation s.after s.patched vs s.block s.allowed;
  entry = λ s vs. entry-filled s.policy s.mapping s.ipx s.holes s.operations s.before s.clear s.after s.patched vs s.block s.applied;
  there = λ s f. fill_tree-still s.policy s.mapping s.ipx s.holes s.before s.clear s.operation s.after s.patched f.values f.full s.block s.allowed f.is;
  patch = λ s f d. patched-filled s.policy s.mapping s.ipx s.holes s.before s.clear s.operation s.after s.patched f.values f.full s.block s.allowed f.is d;
}
