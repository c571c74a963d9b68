use Rattle.spec_messages.proofs.TreeThere.{tree-there}
use Rattle.spec_messages.proofs.FilledStands.{stands_here, body_ordered}
use Rattle.spec_messages.proofs.stands.filled_block_stands.Goals as goal

pub returns : goal.returns
returns c = record {
  exact = λ j n m b f o. stands_here j n m f.values f.full b f.is o;
  needed = λ t x s. s.ordered;
  ordered = λ j n m b f h. stands_here j n m f.values f.full b f.is (body_ordered j n m f.values f.full b f.is h);
  there = λ j n m b f. tree-there j n m f.values f.full b f.is;
}
