-- What a fault tells of the places of holes, and of filling.
use Rattle.std.specs.Prelude.{◌≡◌, ⊤, List, Result, Err}
use Rattle.spec_documents.specs.Tree.{Tree}
use Rattle.spec_documents.specs.Hole.{HolePlace, HoleFault, bad_hole, twice, missing}
use Rattle.enc_index.specs.Places.{place_view}
use Rattle.enc_index.specs.Filling.{Unfilled, not_text, too_deep}
use Rattle.enc_index.specs.declared.holes.HolesFault.{HolesFault}
use Rattle.enc_index.specs.declared.holes.HolesFault.TheVariants.{BadHole, Twice, Missing, NoMemory}
use Rattle.enc_index.specs.declared.filling.FillFault.{FillFault}
use Rattle.enc_index.specs.declared.filling.FillFault.TheVariants.{NotText, TooDeep, NoMemory as NoRoom}

abbrev pub Tells : HolesFault → Result (List HolePlace) HoleFault → Type 0
Tells (BadHole p) r = r ≡ Err (bad_hole (place_view p))
Tells (Twice i) r = r ≡ Err (twice i)
Tells (Missing i) r = r ≡ Err (missing i)
Tells NoMemory r = ⊤

abbrev pub TellsWhy : FillFault → Result Tree Unfilled → Type 0
TellsWhy (NotText i) r = r ≡ Err (not_text i)
TellsWhy TooDeep r = r ≡ Err too_deep
TellsWhy NoRoom r = ⊤
