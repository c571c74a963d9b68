use Rattle.std.proofs.Common.{◌≡◌, List, Result, Ok, MatchResult, ap, subst, ◌∙◌}
use Rattle.spec_documents.specs.Hole.{HolePlace, HoleFault, places as places_of, all_marks}
use Rattle.n32_values.specs.View.{tree_of}
use Rattle.enc_index.specs.Faults.{Tells}
use Rattle.enc_index.specs.Marks.{places_of_marks}
use Rattle.enc_index.proofs.Capping.{places-held}
use Rattle.enc_index.proofs.holes.places.Goals as goal

pub returns : goal.returns
returns c =
    subst (λ (r : Result (List HolePlace) HoleFault). MatchResult c.settled.result (λ holes. r ≡ Ok holes) (λ fault. Tells fault r))
    (ap (λ ks. places_of_marks ks c.args.count) c.in_ok-found.ensures ∙ places-held c.args.count (all_marks (tree_of c.node.result.now)) c.ranges.count.fits ∙ ap (λ t. places_of t c.args.count) c.node.ensures.value)
    c.settled.ensures
