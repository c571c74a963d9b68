use Rattle.std.proofs.Common.{◌≡◌, ◌≤◌, ◌++◌, ◌+◌, [], map, length}
use Rattle.std.specs.Option.{option_map_or}
use Rattle.spec_documents.specs.Text.{pieces}
use Rattle.spec_documents.specs.Hole.{piece_marks}
use Rattle.enc_index.specs.Lines.{look_of, pieces_of, pointer_of, separator_of}
use Rattle.enc_index.specs.Marks.{mark_view, held}
use Rattle.enc_index.proofs.walk.push_pieces.Given as goal

abbrev pub invariant-pieces : goal.invariant-pieces
invariant-pieces l = record {
  short : l.number + option_map_or (λ t. length t.now + 1) l.rest 0 ≤ length l.fn.text + 1;
  whole : map mark_view l.found ++ map held (piece_marks (pointer_of l.line) (look_of l.line) l.number (option_map_or (λ t. pieces (separator_of l.line) t.now) l.rest []))
      ≡ map mark_view l.initial.found ++ map held (piece_marks (pointer_of l.line) (look_of l.line) 0 (pieces_of l.line l.fn.text));
}

abbrev pub decreases-pieces : goal.decreases-pieces
decreases-pieces l = option_map_or (λ t. length t.now + 1) l.rest 0
