-- The first fault of a block, as it is told.
use Rattle.std.proofs.Common.{◌≡◌, ℕ, Option, Some, Err, refl}
use Rattle.spec_documents.specs.Tree.{Tree}
use Rattle.spec_messages.specs.Fault.{BlockFault, block_fault}
use Rattle.block_forms.specs.Faults.{Tells}
use Rattle.block_forms.specs.declared.fault.BlockWhy.{BlockWhy}
use Rattle.block_forms.specs.declared.fault.BlockWhy.TheVariants as why
use Rattle.spec_exchange.specs.Chain.{or_refused}
use Rattle.spec_exchange.specs.Rebuilding.{read_block, no_block}
use Rattle.spec_exchange.specs.ReceivingRefusals.{Reconstruction}
use Rattle.spec_exchange.specs.AcceptRefusals.{Receiving}
use Rattle.spec_exchange.specs.Accepting.{stage}
use Rattle.receiving_sepp.specs.Views.{fault_view}

fault_is : (w : BlockWhy) (fault : Option BlockFault) → Tells w fault → fault ≡ Some (fault_view w)
fault_is (why.Member name) fault h = h
fault_is (why.Limit l) fault h = h
fault_is (why.IePath k) fault h = h
fault_is (why.Overlap k) fault h = h
fault_is (why.BadHole place) fault h = h
fault_is (why.Twice n) fault h = h
fault_is (why.Missing n) fault h = h
fault_is why.Depth fault h = h

-- where a fault is told, the block isn't read by it
pub fault_told : (w : BlockWhy) (j : Tree) (n : ℕ) → Tells w (block_fault j n) → stage (or_refused (λ why. Reconstruction (no_block why)) (read_block j n)) ≡ Err (Receiving (Reconstruction (no_block (fault_view w))))
fault_told w j n h = rw (fault_is w (block_fault j n) h) refl
