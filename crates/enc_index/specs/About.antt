-- Marks that stand above a place.
use Rattle.std.specs.Prelude.{Bool, not, ◌&&◌, is_some}
use Rattle.spec_documents.specs.Place.{Pointer, is_beneath}
use Rattle.spec_documents.specs.Hole.{Mark}

-- an object's mark, strictly beneath which p stands
abbrev pub is_object_above : Pointer → Mark → Bool
is_object_above p m = not (is_some m.place.part) && is_beneath m.place.pointer p
