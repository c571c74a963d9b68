use Rattle.std.proofs.Common.{◌≡◌, ◌+◌, ◌++◌, [], map, length, string_bytes}
use Rattle.std.specs.Option.{option_map_or}
use Rattle.spec_documents.specs.Text.{pieces}
use Rattle.spec_documents.specs.Hole.{filled_pair, filled_query}
use Rattle.enc_index.proofs.FillTexts.{later}
use Rattle.enc_index.proofs.filling.filled_query.Given as goal

abbrev pub invariant-pairs : goal.invariant-pairs
invariant-pairs l = string_bytes l.out ++ later 38 (map (filled_pair l.values) (option_map_or (λ t. pieces 38 t.now) l.rest [])) ≡ filled_query l.values l.fn.query

abbrev pub decreases-pairs : goal.decreases-pairs
decreases-pairs l = option_map_or (λ t. length t.now + 1) l.rest 0
