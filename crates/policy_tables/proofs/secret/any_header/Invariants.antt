use Rattle.std.proofs.Common.{◌≡◌, map, drop}
use Rattle.http_message.specs.Reading.{header_view}
use Rattle.policy_tables.specs.View.{address_view}
use Rattle.policy_tables.specs.Secrecy.{secret_header}
use Rattle.policy_tables.proofs.secret.any_header.Given as goal

abbrev pub invariant-loop-i : goal.invariant-loop-i
invariant-loop-i l = secret_header (address_view l.address) l.covered (map header_view (drop l.i l.headers)) ≡ secret_header (address_view l.address) l.covered (map header_view l.headers)
