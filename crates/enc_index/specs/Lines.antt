-- The two texts of a request line that may have holes.
use Rattle.std.specs.Prelude.{ℕ, List, Option, codes}
use Rattle.spec_documents.specs.Place.{Pointer}
use Rattle.spec_documents.specs.Hole.{path_pointer, query_pointer, path_pieces, query_pieces, text_hole, pair_hole}
use Rattle.enc_index.specs.declared.line.Line.{Line}
use Rattle.enc_index.specs.declared.line.Line.TheVariants.{Path, Query}

abbrev pub name_of : Line → List ℕ
name_of Path = codes "path"
name_of Query = codes "queryFragment"

abbrev pub pointer_of : Line → Pointer
pointer_of Path = path_pointer
pointer_of Query = query_pointer

-- what stands between two pieces
abbrev pub separator_of : Line → ℕ
separator_of Path = 47
separator_of Query = 38

abbrev pub pieces_of : Line → List ℕ → List (List ℕ)
pieces_of Path s = path_pieces s
pieces_of Query s = query_pieces s

-- the index of the hole in a piece
abbrev pub look_of : Line → List ℕ → Option ℕ
look_of Path s = text_hole s
look_of Query s = pair_hole s
