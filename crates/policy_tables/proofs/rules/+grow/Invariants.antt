use Rattle.std.proofs.Common.{length, ◌-◌}
use Rattle.policy_tables.proofs.rules.+grow.Given as goal

abbrev pub decreases-grown : goal.decreases-grown
decreases-grown l = length l.pointer.now - l.from
