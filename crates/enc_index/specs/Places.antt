-- A place in the definitions' words.
use Rattle.spec_documents.specs.Hole.{HolePlace}
use Rattle.enc_index.specs.declared.holes.Place.{Place}

abbrev pub place_view : Place → HolePlace
place_view p = record { pointer = p.pointer; part = p.part }
