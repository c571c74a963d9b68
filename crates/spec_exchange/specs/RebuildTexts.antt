-- Why a message isn't rebuilt, as an answer tells it (this project's own).
use Rattle.std.specs.Prelude.{ℕ, List, [], ◌∷◌, ◌++◌, Option, Some, None, codes}
use Rattle.std.specs.Fmt.{decimal}
use Rattle.spec_documents.specs.Place.{pointer_text}
use Rattle.spec_documents.specs.Hole.{HolePlace, HoleFault, bad_hole, twice, missing}
use Rattle.spec_messages.specs.Limits.{limit_name}
use Rattle.spec_messages.specs.Fault as block
use Rattle.spec_messages.specs.Rebuilt.{FillFault, not_text, too_deep}
use Rattle.spec_exchange.specs.Rebuilding.{RebuildWhy, no_values, no_block, no_fill}

abbrev pub part_text : Option ℕ → List ℕ
part_text None = []
part_text (Some k) = 35 ∷ decimal k

-- a hole's place: its pointer, with `#` and the number of its segment or pair where it stands in a text
abbrev pub place_text : HolePlace → List ℕ
place_text h = pointer_text h.pointer ++ part_text h.part

abbrev pub hole_text : HoleFault → List ℕ
hole_text (bad_hole h) = codes "BAD_HOLE " ++ place_text h
hole_text (twice n) = codes "TWICE " ++ decimal n
hole_text (missing n) = codes "MISSING " ++ decimal n

abbrev pub block_text : block.BlockFault → List ℕ
block_text (block.bad_member k) = codes "MEMBER " ++ k
block_text (block.beyond l) = codes "LIMIT " ++ limit_name l
block_text (block.ie_path k) = codes "IE_PATH " ++ decimal k
block_text (block.overlap k) = codes "OVERLAP " ++ decimal k
block_text (block.bad_holes why) = hole_text why
block_text block.deep = codes "DEPTH"

abbrev pub fill_text : FillFault → List ℕ
fill_text (not_text n) = codes "NOT_TEXT " ++ decimal n
fill_text too_deep = codes "DEPTH"

abbrev pub rebuild_text : RebuildWhy → List ℕ
rebuild_text no_values = codes "VALUES"
rebuild_text (no_block why) = block_text why
rebuild_text (no_fill why) = fill_text why
