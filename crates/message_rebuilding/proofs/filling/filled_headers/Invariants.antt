use Rattle.std.proofs.Common.{◌≡◌, map, take}
use Rattle.spec_messages.specs.Split.{fill_header}
use Rattle.http_message.specs.Reading.{header_view}
use Rattle.message_rebuilding.proofs.filling.filled_headers.Given as goal

abbrev pub invariant-loop-i : goal.invariant-loop-i
invariant-loop-i l = map header_view l.filled ≡ map (fill_header l.values) (map header_view (take l.i l.headers))
