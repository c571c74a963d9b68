use Rattle.std.proofs.Common.{Some}
use Rattle.context_store.specs.Stores.{IsConsistent}
use Rattle.n32_outside.specs.MemoryViews.{keeper_held}
use Rattle.worked_seals.proofs.handshakes.play_all.Given as goal

abbrev pub invariant-loop-i : goal.invariant-loop-i
invariant-loop-i l = IsConsistent (Some (keeper_held l.keeper)) l.store
