use Rattle.std.proofs.Common.{◌≡◌, ◌+◌, ◌++◌, [], map, length, string_bytes}
use Rattle.std.specs.Option.{option_map_or}
use Rattle.spec_documents.specs.Text.{pieces}
use Rattle.spec_documents.specs.Hole.{filled_text, filled_path}
use Rattle.enc_index.proofs.FillTexts.{later}
use Rattle.enc_index.proofs.filling.filled_path.Given as goal

abbrev pub invariant-segments : goal.invariant-segments
invariant-segments l = string_bytes l.out ++ later 47 (map (filled_text l.values) (option_map_or (λ t. pieces 47 t.now) l.rest [])) ≡ filled_path l.values l.fn.path

abbrev pub decreases-segments : goal.decreases-segments
decreases-segments l = option_map_or (λ t. length t.now + 1) l.rest 0
