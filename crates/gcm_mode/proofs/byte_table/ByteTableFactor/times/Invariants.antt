use Rattle.std.proofs.Common.{◌≡◌, ◌*◌, ◌/◌, ◌-◌, ◌%◌, ◌^◌}
use Rattle.spec_sealing.specs.GcmField.{product}
use Rattle.gcm_mode.proofs.byte_table.ByteTableFactor.times.Given as goal

abbrev pub invariant-loop-step : goal.invariant-loop-step
invariant-loop-step l =
    (l.rest ≡ l.x / 2 ^ (8 * l.step)) × (l.sum ≡ product (l.x % 2 ^ (8 * l.step) * 2 ^ (128 - 8 * l.step)) l.self)
