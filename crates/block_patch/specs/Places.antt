-- Places of holes, where lists of them are compared item by item.
use Rattle.std.specs.Prelude.{Bool, true, false, Option, Some, None}
use Rattle.spec_documents.specs.Hole.{HolePlace}
use Rattle.spec_messages.specs.Outcome.{same_place}

abbrev pub same_place_option : Option HolePlace → Option HolePlace → Bool
same_place_option None None = true
same_place_option None (Some q) = false
same_place_option (Some p) None = false
same_place_option (Some p) (Some q) = same_place p q
