use Rattle.std.proofs.Common.{◌≡◌, false, true, refl}
use Rattle.spec_documents.specs.Hole.{hole}
use Rattle.spec_messages.specs.StandRows.{block_hole, posted_at}
use Rattle.spec_messages.proofs.BlockLaws.{clear-block}
use Rattle.spec_messages.proofs.stands.unordered_rows.Goals as goal

pub returns : goal.returns
returns c = record {
  block = clear-block block_hole 1 (posted_at (hole 0)) refl refl refl;
  filled = refl;
  tree = refl;
  not = λ s. let no : false ≡ true = s.ordered in cc;
}
