use Rattle.std.proofs.Common.{◌≡◌, ◌<◌, ◌*◌, ◌/◌, ◌%◌, ◌^◌, ℕ, arith, rules, ap, ◌∙◌, get_or, bit_and, bit_xor, subst}
use Rattle.std.proofs.lemmas.Nat.{and_mask, shr-shr}
use Rattle.spec_sealing.specs.GcmField.{product}
use Rattle.gcm_mode.specs.Table.{byte_products}
use Rattle.gcm_mode.proofs.Nibbles.{nibble_start}
use Rattle.gcm_mode.proofs.ByteProducts.{entry-at, byte_step}
use Rattle.gcm_mode.proofs.byte_table.ByteTableFactor.times.Goals as goal

pub loop-step-init : goal.loop-step-init
loop-step-init c = (omega arith, nibble_start c.args.x c.args.self.now)

pub loop-step-preserved : goal.loop-step-preserved
loop-step-preserved c =
    let h : ℕ = c.args.self.now in
    let k : ℕ = 8 * c.loop-step.step in
    let inside : get_or c.self.inside.entries 128 0 < 2 ^ 128 = search rules in
    let fits : h < 2 ^ 128 = subst (λ (x : ℕ). x < 2 ^ 128) c.self.view_is inside in
    let made = c.self.invariant ∙ ap byte_products c.self.view_is in
    let place : bit_and c.loop-step.rest 255 ≡ c.args.x / 2 ^ k % 2 ^ 8 =
    and_mask c.loop-step.rest 8 ∙ ap (λ (x : ℕ). x % 2 ^ 8) c.loop-step.invariant.0 in
    let entry : get_or c.self.inside.entries (bit_and c.loop-step.rest 255) 0 ≡ product (c.args.x / 2 ^ k % 2 ^ 8 * 2 ^ 120) h =
    ap (λ (i : ℕ). get_or c.self.inside.entries i 0) place ∙ entry-at c.self.inside.entries h _ made (omega arith) in (
      ap (λ (x : ℕ). x / 2 ^ 8) c.loop-step.invariant.0 ∙ shr-shr c.args.x k 8 ∙ ap (λ (i : ℕ). c.args.x / 2 ^ i) (omega arith),
      (λ t. bit_xor (c.times_u8.ensures t) (entry t))
          ∙ byte_step c.args.x c.loop-step.step h c.loop-step.sum (omega arith) fits c.loop-step.invariant.1,
    )
