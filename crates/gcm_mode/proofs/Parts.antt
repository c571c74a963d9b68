-- Products some bits at a time.
use Rattle.std.proofs.Common.{◌≡◌, ◌<◌, ℕ, zero, suc, arith, ◌*◌, ◌%◌, ◌/◌, ◌+◌, ◌-◌, ◌^◌, bit_xor, ap, sym, ◌∙◌, pow_pos, pow-suc, subst, mod-lt, mul_assoc, add-mul}
use Rattle.std.proofs.lemmas.Nat.{mod-pow-add, pow-add, shl_below, xor_comm}
use lib.Bits.{xor_shifted}
use Rattle.spec_sealing.specs.GcmField.{product, times_power, times_u}
use Rattle.gcm_mode.proofs.Products.{product-xor_left, product_below-times_power, product_comm, times_power-lt, times_u-double}

twice_pow : (w : ℕ) → 2 ^ suc w ≡ 2 * 2 ^ w
twice_pow w = pow-suc 2 w ∙ omega arith

-- where no bit falls out, the product with u^w moves the bits by w
pub times_power-shifted : (w q : ℕ) → times_power w (q * 2 ^ w) ≡ q
unfolding times_power
times_power-shifted zero q = omega arith
times_power-shifted (suc w) q =
    let e : q * 2 ^ suc w ≡ q * 2 * 2 ^ w = ap (λ (n : ℕ). q * n) (twice_pow w) ∙ sym (mul_assoc q 2 (2 ^ w)) in
    ap (times_power (suc w)) e ∙ ap times_u (times_power-shifted w (q * 2)) ∙ times_u-double q

pub product-times_power : (i y h : ℕ) → y < 2 ^ 128 → h < 2 ^ 128 → product (times_power i y) h ≡ times_power i (product y h)
unfolding product
product-times_power i y h fy fh =
    product_comm (times_power i y) h (times_power-lt i y fy) fh ∙ product_below-times_power 128 h i y
    ∙ ap (times_power i) (product_comm h y fh fy)

-- the next w bits of x above its k lowest, where l are left above them
pub part_step : (w t k l x h s : ℕ) → w + t ≡ 128 → k + l ≡ t → h < 2 ^ 128
    → s ≡ product (x % 2 ^ k * 2 ^ (128 - k)) h
    → bit_xor (times_power w s) (product (x / 2 ^ k % 2 ^ w * 2 ^ t) h) ≡ product (x % 2 ^ (w + k) * 2 ^ l) h
part_step w t k l x h s whole parts fits held =
    let r : ℕ = x % 2 ^ k in
    let n : ℕ = x / 2 ^ k % 2 ^ w in
    let p : ℕ = 2 ^ l in
    let z : ℕ = r * p in
    let up : 128 - k ≡ l + w = omega arith in
    let all : t + w ≡ 128 = omega arith in
    let top : 2 ^ k * p ≡ 2 ^ t = sym (pow-add 2 k l) ∙ ap (λ (i : ℕ). 2 ^ i) parts in
    let small : z < 2 ^ t = subst (λ (i : ℕ). z < 2 ^ i) parts (shl_below r k l (mod-lt x (pow_pos k))) in
    let below : z * 2 ^ w < 2 ^ 128 = subst (λ (i : ℕ). z * 2 ^ w < 2 ^ i) all (shl_below z t w small) in
    let before : r * 2 ^ (128 - k) ≡ z * 2 ^ w =
    ap (λ (i : ℕ). r * 2 ^ i) up ∙ ap (λ (i : ℕ). r * i) (pow-add 2 l w) ∙ sym (mul_assoc r p (2 ^ w)) in
    let after : x % 2 ^ (w + k) * p ≡ n * 2 ^ t + z =
    ap (λ (i : ℕ). i * p) (mod-pow-add x w k) ∙ add-mul (n * 2 ^ k) r p
    ∙ ap (λ (i : ℕ). i + z) (mul_assoc n (2 ^ k) p ∙ ap (λ (i : ℕ). n * i) top) in
    let high : times_power w s ≡ product z h =
    ap (times_power w) (held ∙ ap (λ (y : ℕ). product y h) before)
    ∙ sym (product-times_power w (z * 2 ^ w) h below fits)
    ∙ ap (λ (y : ℕ). product y h) (times_power-shifted w z) in
    ap (λ (y : ℕ). bit_xor y (product (n * 2 ^ t) h)) high
    ∙ sym (product-xor_left z (n * 2 ^ t) h)
    ∙ ap (λ (y : ℕ). product y h) (xor_comm z (n * 2 ^ t) ∙ xor_shifted n t z small ∙ sym after)
