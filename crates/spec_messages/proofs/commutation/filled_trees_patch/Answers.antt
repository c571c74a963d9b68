use Rattle.spec_messages.proofs.DepthStays.{step-patches, entry-patches, chain-patches}
use Rattle.spec_messages.proofs.StartDepth.{chain-fills}
use Rattle.spec_messages.proofs.TreeThere.{tree-there}
use Rattle.spec_messages.proofs.commutation.filled_trees_patch.Goals as goal

pub returns : goal.returns
returns c = record {
  operation = λ s f d. step-patches s.policy s.mapping s.ipx s.holes s.before s.clear s.operation s.after s.patched f.values f.full s.block s.allowed f.is d;
  entry = λ s f d. entry-patches s.policy s.mapping s.ipx s.holes s.operations s.before s.clear s.after s.patched f.values f.full s.block s.applied f.is d;
  chain = λ s f d. chain-patches s.policy s.mapping s.holes s.entries s.before s.clear s.after s.patched f.values f.full s.block s.applied f.is d;
  shallow = λ s f. chain-fills s.policy s.mapping s.holes s.entries s.before s.clear s.after s.patched f.values f.full _ s.block s.applied f.is (tree-there s.before s.holes s.clear f.values f.full s.block f.is);
}
