use Rattle.std.proofs.Common.{◌≡◌, map, drop}
use Rattle.spec_messages.specs.Policy.{patterns_of, mapping_at}
use Rattle.http_message.specs.Reading.{part_view}
use Rattle.policy_tables.specs.View.{address_view}
use Rattle.policy_tables.specs.Secrecy.{secret_segment}
use Rattle.policy_tables.proofs.secret.any_segment.Given as goal

abbrev pub invariant-loop-i : goal.invariant-loop-i
invariant-loop-i l = secret_segment (patterns_of (mapping_at l.policy l.mapping)) (address_view l.address) l.covered l.i (map part_view (drop l.i l.parts)) ≡ secret_segment (patterns_of (mapping_at l.policy l.mapping)) (address_view l.address) l.covered 0 (map part_view l.parts)
