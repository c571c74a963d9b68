use Rattle.std.proofs.Common.{◌≡◌, map, drop}
use Rattle.http_message.specs.Reading.{header_view}
use Rattle.sealing_check.specs.Rules.{header_test}
use Rattle.sealing_check.specs.Found.{first_address, header_site}
use Rattle.sealing_check.proofs.parts.clear_header.Given as goal

abbrev pub invariant-loop-i : goal.invariant-loop-i
invariant-loop-i l = first_address (header_test l.sealed) header_site l.i (map header_view (drop l.i l.headers)) ≡ first_address (header_test l.sealed) header_site 0 (map header_view l.headers)
