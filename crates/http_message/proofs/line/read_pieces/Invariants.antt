use Rattle.std.proofs.Common.{◌≡◌, ◌+◌, map, length, []}
use Rattle.std.specs.Option.{option_map_or}
use Rattle.spec_documents.specs.Text.{pieces}
use Rattle.spec_messages.specs.Message.{all_read}
use Rattle.http_message.specs.Forms.{parts_of}
use Rattle.http_message.specs.Reading.{part_view}
use Rattle.http_message.proofs.Lists.{with_front}
use Rattle.http_message.proofs.line.read_pieces.Given as goal

abbrev pub invariant-pieces : goal.invariant-pieces
invariant-pieces l = with_front (map part_view l.parts) (all_read (parts_of l.fn.form).segment (option_map_or (λ text. pieces 47 text.now) l.rest [])) ≡ all_read (parts_of l.fn.form).segment (pieces 47 l.fn.text)

abbrev pub decreases-pieces : goal.decreases-pieces
decreases-pieces l = option_map_or (λ text. length text.now + 1) l.rest 0
