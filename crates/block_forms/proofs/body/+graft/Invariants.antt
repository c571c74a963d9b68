use Rattle.std.proofs.Common.{length, ◌-◌}
use Rattle.block_forms.proofs.body.+graft.Given as goal

abbrev pub decreases-grafted : goal.decreases-grafted
decreases-grafted l = length l.path.now - l.from
