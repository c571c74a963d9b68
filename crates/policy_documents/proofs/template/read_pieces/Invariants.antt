use Rattle.std.proofs.Common.{◌≡◌, ◌+◌, map, length, []}
use Rattle.std.specs.Option.{option_map_or}
use Rattle.spec_documents.specs.Text.{pieces}
use Rattle.spec_messages.specs.Message.{all_read}
use Rattle.spec_messages.specs.PolicyDocument.{pattern_of}
use Rattle.policy_documents.specs.View.{pattern_view}
use Rattle.policy_documents.proofs.Lists.{with_front}
use Rattle.policy_documents.proofs.template.read_pieces.Given as goal

abbrev pub invariant-pieces : goal.invariant-pieces
invariant-pieces l = with_front (map pattern_view l.patterns) (all_read pattern_of (option_map_or (λ text. pieces 47 text.now) l.rest [])) ≡ all_read pattern_of (pieces 47 l.fn.text)

abbrev pub decreases-pieces : goal.decreases-pieces
decreases-pieces l = option_map_or (λ text. length text.now + 1) l.rest 0
