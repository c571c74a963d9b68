use Rattle.receiving_sepp.proofs.BlockTold.{fault_told}
use Rattle.receiving_sepp.proofs.rebuilding.holed_block.Goals as goal

pub returns-in-Err-Refused-clause-message : goal.returns-in-Err-Refused-clause-message
returns-in-Err-Refused-clause-message c =
    rw c.in-Err-Refused.field-0-is (fault_told c.in-Err-Refused.why c.args.block _ (rw (c.in-Err-Refused.field-0-is, c.len.ensures) at c.in-Err-Refused.ensures))
