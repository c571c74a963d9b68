-- Holes and faulty objects as they are found.
use Rattle.std.specs.Prelude.{ℕ, List, [], ◌++◌, map, Option, None, Result, option_map, codes}
use Rattle.spec_documents.specs.Tree.{Tree}
use Rattle.spec_documents.specs.Place.{Pointer}
use Rattle.spec_documents.specs.Text.{index_text}
use Rattle.spec_documents.specs.Hole.{HolePlace, Mark, Marks, HoleFault, bad_hole, twice, first_bad, first_twice, indexes, gathered, unless_some, mark_here, marks}
use Rattle.doc_forms.specs.Capped.{capped}
use Rattle.enc_index.specs.Places.{place_view}
use Rattle.enc_index.specs.declared.walk.Found.{Found}
use Rattle.enc_index.specs.declared.walk.Values.{Values}
use Rattle.enc_index.specs.declared.walk.Values.TheVariants.{Headers, Payload}
use Rattle.enc_index.specs.declared.walk.Step.{Step}
use Rattle.enc_index.specs.declared.walk.Step.TheVariants.{Name, Index}

abbrev pub mark_view : Found → Mark
mark_view f = record { place = place_view f.place; index = f.index }

-- a mark with its index as it is held
abbrev pub held : Mark → Mark
held m = record { place = m.place; index = option_map capped m.index }

-- an object's mark beneath a place
abbrev pub under : Pointer → Pointer × Option ℕ → Mark
under front m = record { place = record { pointer = front ++ m.0; part = None }; index = option_map capped m.1 }

abbrev pub token_of : Step → List ℕ
token_of (Name s) = s.now
token_of (Index i) = index_text i

abbrev pub tokens : List Step → Pointer
tokens = map token_of

abbrev pub list_name : Values → List ℕ
list_name Headers = codes "headers"
list_name Payload = codes "payload"

-- what is looked at of a value in such a list
abbrev pub list_look : Values → Tree → Marks
list_look Headers t = mark_here t
list_look Payload t = marks t

-- the places that marks give, or the first fault
abbrev pub places_of_marks : List Mark → ℕ → Result (List HolePlace) HoleFault
places_of_marks ms n = unless_some (first_bad n ms) bad_hole (unless_some (first_twice [] (indexes ms)) twice (gathered ms n 0))
