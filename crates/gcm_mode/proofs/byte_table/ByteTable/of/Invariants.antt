use Rattle.std.proofs.Common.{◌≡◌, ◌<◌, ◌*◌, ◌^◌, ℕ, length, get_or}
use Rattle.spec_sealing.specs.GcmField.{product}
use Rattle.gcm_mode.proofs.byte_table.ByteTable.of.Given as goal

abbrev pub invariant-loop-i : goal.invariant-loop-i
invariant-loop-i l =
    (length l.entries ≡ 256) × ((k : ℕ) → k < l.i → get_or l.entries k 0 ≡ product (k * 2 ^ 120) l.table)
