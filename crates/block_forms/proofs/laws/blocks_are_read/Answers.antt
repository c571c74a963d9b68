use Rattle.block_forms.proofs.Standing.{block_stands}
use Rattle.block_forms.proofs.laws.blocks_are_read.Goals as goal

pub returns : goal.returns
returns c = λ j n ordered none.
    let b = c.fault_decides.ensures.block j n ordered none in
    block_stands j n b.0 b.1 none (c.block_has_one_message.ensures.computed j n b.0 b.1)
