use Rattle.std.proofs.Common.{◌≡◌, map, take}
use Rattle.spec_messages.specs.Policy.{headers_named}
use Rattle.http_message.specs.Reading.{header_view}
use Rattle.message_differences.specs.Named.{named_view}
use Rattle.message_differences.proofs.named.named_headers.Given as goal

abbrev pub invariant-loop-i : goal.invariant-loop-i
invariant-loop-i l = map named_view l.list.items ≡ headers_named (map header_view (take l.i l.headers))
