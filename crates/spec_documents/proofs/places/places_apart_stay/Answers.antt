use Rattle.spec_documents.proofs.PlacesApart.{at-with_apart}
use Rattle.spec_documents.proofs.places.places_apart_stay.Goals as goal

pub returns : goal.returns
returns c t w p q e d = at-with_apart t w p q e d
