use Rattle.std.proofs.Common.{◌≡◌, map, drop}
use Rattle.http_message.specs.Reading.{pair_view}
use Rattle.policy_tables.specs.View.{address_view}
use Rattle.policy_tables.specs.Secrecy.{secret_pair}
use Rattle.policy_tables.proofs.secret.any_pair.Given as goal

abbrev pub invariant-loop-i : goal.invariant-loop-i
invariant-loop-i l = secret_pair (address_view l.address) l.covered (map pair_view (drop l.i l.pairs)) ≡ secret_pair (address_view l.address) l.covered (map pair_view l.pairs)
