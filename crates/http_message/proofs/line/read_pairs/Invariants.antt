use Rattle.std.proofs.Common.{◌≡◌, ◌+◌, map, length, []}
use Rattle.std.specs.Option.{option_map_or}
use Rattle.spec_documents.specs.Text.{pieces, cut_at}
use Rattle.spec_messages.specs.Message.{all_read, pair_of}
use Rattle.http_message.specs.Forms.{parts_of}
use Rattle.http_message.specs.Reading.{pair_view}
use Rattle.http_message.proofs.Lists.{with_front}
use Rattle.http_message.proofs.line.read_pairs.Given as goal

abbrev pub invariant-pieces : goal.invariant-pieces
invariant-pieces l = with_front (map pair_view l.pairs) (all_read (λ p. pair_of (parts_of l.fn.form).value (cut_at 61 p)) (option_map_or (λ text. pieces 38 text.now) l.rest [])) ≡ all_read (λ p. pair_of (parts_of l.fn.form).value (cut_at 61 p)) (pieces 38 l.fn.text)

abbrev pub decreases-pieces : goal.decreases-pieces
decreases-pieces l = option_map_or (λ text. length text.now + 1) l.rest 0
