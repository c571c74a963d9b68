use Rattle.spec_messages.proofs.OnePlaces.{one-place, index-below}
use Rattle.spec_messages.proofs.blocks.each_index_has_one_place.Goals as goal

pub returns : goal.returns
returns c = record {
  place = λ j n m i b l. one-place j n m i b l;
  below = λ j n m p i b h. index-below j n m p i b h;
}
