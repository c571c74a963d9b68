use Rattle.spec_documents.proofs.WithoutHoles.{fill-unheld, fill_tree-unheld}
use Rattle.spec_documents.proofs.places.fill_without_holes.Goals as goal

pub returns : goal.returns
returns c = record { node = λ vs t e. fill-unheld vs t e; block = λ vs j e. fill_tree-unheld vs j e }
