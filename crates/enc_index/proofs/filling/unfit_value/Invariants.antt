use Rattle.std.proofs.Common.{◌≡◌, drop, length}
use Rattle.enc_index.specs.Filling.{first_unfit}
use Rattle.enc_index.proofs.filling.unfit_value.Given as goal

abbrev pub invariant-loop-i : goal.invariant-loop-i
invariant-loop-i l = record {
  long : length l.holes ≡ length l.values;
  left : first_unfit 0 l.holes l.values ≡ first_unfit l.i (drop l.i l.holes) (drop l.i l.values);
}
