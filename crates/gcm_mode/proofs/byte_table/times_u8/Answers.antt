use Rattle.std.proofs.Common.{◌≡◌, ◌*◌, ◌%◌, ◌^◌, ◌/◌, ℕ, get_or, bit_and, bit_xor, ap, arith, ◌∙◌}
use Rattle.std.proofs.lemmas.Nat.{and_mask}
use Rattle.gcm_mode.specs.declared.byte_table.TheConstants.{REDUCTIONS_BY_BYTE}
use Rattle.gcm_mode.proofs.ByteProducts.{reduction-fits, times_power_8-split}
use Rattle.gcm_mode.proofs.byte_table.times_u8.Goals as goal

pub returns : goal.returns
returns c =
    let y : ℕ = c.args.y in
    let low : bit_and y 255 ≡ y % 2 ^ 8 = and_mask y 8 in
    ap (λ (r : ℕ). bit_xor (y / 2 ^ 8) (get_or REDUCTIONS_BY_BYTE r 0 * 2 ^ 112 % 2 ^ 128)) low
    ∙ ap (bit_xor (y / 2 ^ 8)) (reduction-fits (y % 2 ^ 8) (omega arith)) ∙ times_power_8-split y
