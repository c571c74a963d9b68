use Rattle.spec_messages.specs.Changed.{Kept}
use Rattle.spec_messages.specs.Split.{fill_whole}
use Rattle.spec_messages.specs.Steps.{chain_changes}
use Rattle.std.proofs.Common.{subst}
use Rattle.spec_messages.proofs.StartDepth.{chain-fills}
use Rattle.spec_messages.proofs.TreeThere.{tree-there}
use Rattle.spec_messages.proofs.FilledStays.{filled-stays-chain}
use Rattle.spec_messages.proofs.FilledStands.{chain_stands, fill_parts_of}
use Rattle.spec_messages.proofs.ValuesStay.{value-stands, value-stays-chain}
use Rattle.spec_messages.proofs.StepKept.{chain-kept, chain-modifiable}
use Rattle.spec_messages.proofs.OnePlaces.{one-place}
use Rattle.spec_messages.proofs.commutation.patching_commutes_with_filling.Goals as goal

pub returns : goal.returns
returns c = record {
  tree_before = λ s f. tree-there s.before s.holes s.clear f.values f.full s.block f.is;
  tree_after = λ s f. (chain-fills s.policy s.mapping s.holes s.entries s.before s.clear s.after s.patched f.values f.full _ s.block s.applied f.is (tree-there s.before s.holes s.clear f.values f.full s.block f.is)).1;
  tree = λ s f. (chain-fills s.policy s.mapping s.holes s.entries s.before s.clear s.after s.patched f.values f.full _ s.block s.applied f.is (tree-there s.before s.holes s.clear f.values f.full s.block f.is)).0;
  filled = λ s f. filled-stays-chain s.policy s.mapping s.holes s.entries s.before s.clear s.after s.patched f.values f.full s.block s.applied f.is;
  stands = λ s f h.
      (chain_stands s.policy s.mapping s.holes s.entries s.before s.clear s.after s.patched f.values f.full _ s.block s.applied f.is (tree-there s.before s.holes s.clear f.values f.full s.block f.is) h).3;
  place = λ s i l. one-place s.before s.holes s.clear i s.block l;
  value_before = λ s f h. (value-stands f.values s.clear f.full h.place h.index f.is h.stands).0;
  value_after = λ s f h. (value-stays-chain s.policy s.mapping s.holes s.entries s.before s.clear s.after s.patched f.values f.full h.place h.index s.block s.applied f.is h.stands).1;
  kept = λ s f o.
      subst (λ m. Kept s.policy s.mapping (chain_changes s) m (fill_whole f.values s.patched)) (fill_parts_of s.clear f.values f.full f.is).1
      (chain-kept s.policy s.mapping s.holes s.entries s.before s.clear s.after s.patched f.values s.block s.applied o).0;
  modifiable = λ s. chain-modifiable s.policy s.mapping s.holes s.entries s.before s.clear s.after s.patched s.applied;
}
