use Rattle.std.proofs.Common.{◌≡◌, map, drop}
use Rattle.spec_messages.specs.Message.{all_read, header_of}
use Rattle.http_message.specs.Forms.{parts_of}
use Rattle.http_message.specs.Reading.{header_view}
use Rattle.http_message.proofs.Lists.{with_front}
use Rattle.http_message.proofs.headers.read_header_list.Given as goal

abbrev pub invariant-loop-i : goal.invariant-loop-i
invariant-loop-i l = with_front (map header_view l.headers) (all_read (header_of (parts_of l.fn.form)) (drop l.i l.list)) ≡ all_read (header_of (parts_of l.fn.form)) l.list
