use Rattle.std.proofs.Common.{arith}
use Rattle.n32_outside.proofs.Copied.{copied_from}
use Rattle.n32_outside.proofs.memory.copy_from.Goals as goal

pub returns-clause-copied : goal.returns-clause-copied
returns-clause-copied c =
    copied_from c.copy_from_slice.new.self c.args.bytes.now c.args.into.now c.args.at c.min-count.result (omega arith) c.copy_from_slice.ensures.after
