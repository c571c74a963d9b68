-- Products four bits at a time.
use Rattle.std.proofs.Common.{◌≡◌, ◌<◌, ℕ, zero, suc, refl, arith, ◌*◌, ◌%◌, ◌/◌, ◌+◌, ◌-◌, ◌^◌, bit_xor, get_or, ap, sym, ◌∙◌, add-zero, zero-mul, length}
use Rattle.std.specs.Int.{bit_at}
use Rattle.std.specs.Prelude.{List}
use Rattle.std.proofs.lemmas.List.FromFn.{fill_by_all, get_or-map-range_with_len}
use Rattle.std.proofs.lemmas.Nat.Bits.{bit_at-zero, bit_at_cat_low}
use lib.Bits.{xor_shifted, xor_zero_r}
use Rattle.spec_documents.proofs.Below.{all_below, same_below}
use Rattle.gcm_mode.specs.declared.field.TheConstants.{REDUCTIONS}
use Rattle.spec_sealing.specs.GcmField.{product, one, product_below, times_power}
use Rattle.gcm_mode.specs.Table.{nibble_products}
use Rattle.gcm_mode.proofs.Products.{product-one, product_comm, times_power-xor}
use Rattle.gcm_mode.proofs.Parts.{times_power-shifted, part_step}

-- ---- u^4

pub nibble-at : (r : ℕ) → r < 16 → get_or REDUCTIONS r 0 * 2 ^ 112 ≡ times_power 4 r
unfolding all_below times_power
nibble-at = same_below 16 (λ k. get_or REDUCTIONS k 0 * 2 ^ 112) (times_power 4) refl

pub times_power_4-split : (y : ℕ) → bit_xor (y / 2 ^ 4) (get_or REDUCTIONS (y % 2 ^ 4) 0 * 2 ^ 112) ≡ times_power 4 y
times_power_4-split y =
    let whole : bit_xor (y / 2 ^ 4 * 2 ^ 4) (y % 2 ^ 4) ≡ y = xor_shifted (y / 2 ^ 4) 4 (y % 2 ^ 4) (omega arith) ∙ omega arith in
    (λ t. bit_xor (sym (times_power-shifted 4 (y / 2 ^ 4)) t) (nibble-at (y % 2 ^ 4) (omega arith) t))
    ∙ sym (times_power-xor 4 (y / 2 ^ 4 * 2 ^ 4) (y % 2 ^ 4)) ∙ ap (times_power 4) whole

-- ---- one nibble

product_below-nibble : (n i h : ℕ) → product_below (n + 4) (i * 2 ^ 124) h ≡ product_below 4 (i * 2 ^ 124) h
unfolding product_below
product_below-nibble zero i h = refl
product_below-nibble (suc n) i h =
    let next : suc n + 4 ≡ suc (n + 4) = omega arith in
    let place : ℕ = 127 - (n + 4) in
    let none : bit_at (i * 2 ^ 124) place ≡ 0 =
    ap (λ (x : ℕ). bit_at x place) (sym (add-zero (i * 2 ^ 124))) ∙ bit_at_cat_low i 124 0 place (omega arith) ∙ bit_at-zero place in
    let clear : bit_at (i * 2 ^ 124) place * times_power (n + 4) h ≡ 0 =
    ap (λ (x : ℕ). x * times_power (n + 4) h) none ∙ zero-mul (times_power (n + 4) h) in
    ap (λ (k : ℕ). product_below k (i * 2 ^ 124) h) next
    ∙ (λ t. bit_xor (product_below-nibble n i h t) (clear t)) ∙ xor_zero_r (product_below 4 (i * 2 ^ 124) h)

pub product-nibble : (i h : ℕ) → product (i * 2 ^ 124) h ≡ product_below 4 (i * 2 ^ 124) h
unfolding product
product-nibble i h = product_below-nibble 124 i h

-- ---- all nibbles

-- the next four bits of x, above those before
pub nibble_step : (x m h s : ℕ) → m < 32 → h < 2 ^ 128
    → s ≡ product (x % 2 ^ (4 * m) * 2 ^ (128 - 4 * m)) h
    → bit_xor (times_power 4 s) (product (x / 2 ^ (4 * m) % 2 ^ 4 * 2 ^ 124) h)
    ≡ product (x % 2 ^ (4 * (m + 1)) * 2 ^ (128 - 4 * (m + 1))) h
nibble_step x m h s within fits held =
    let next : 4 + 4 * m ≡ 4 * (m + 1) = omega arith in
    part_step 4 124 (4 * m) (128 - 4 * (m + 1)) x h s (omega arith) (omega arith) fits held
    ∙ ap (λ (i : ℕ). product (x % 2 ^ i * 2 ^ (128 - 4 * (m + 1))) h) next

product_below-zero_left : (n y : ℕ) → product_below n 0 y ≡ 0
unfolding product_below
product_below-zero_left zero y = refl
product_below-zero_left (suc n) y =
    let clear : bit_at 0 (127 - n) * times_power n y ≡ 0 =
    ap (λ (x : ℕ). x * times_power n y) (bit_at-zero (127 - n)) ∙ zero-mul (times_power n y) in
    λ t. bit_xor (product_below-zero_left n y t) (clear t)

-- before the first four bits
pub nibble_start : (x h : ℕ) → 0 ≡ product (x % 1 * 2 ^ 128) h
unfolding product
nibble_start x h =
    let none : x % 1 ≡ 0 = omega arith in
    sym (ap (λ (r : ℕ). product (r * 2 ^ 128) h) none ∙ product_below-zero_left 128 h)

-- ---- the table

pub entries-made : (es : List ℕ) (h : ℕ) → length es ≡ 16 → ((k : ℕ) → k < 16 → get_or es k 0 ≡ product_below 4 (k * 2 ^ 124) h)
    → es ≡ nibble_products h
unfolding nibble_products
entries-made es h long made =
    fill_by_all (λ i. product (i * 2 ^ 124) h) es 16 0 long (λ k lt. made k lt ∙ sym (product-nibble k h))

pub entry-at : (es : List ℕ) (h k : ℕ) → es ≡ nibble_products h → k < 16 → get_or es k 0 ≡ product (k * 2 ^ 124) h
unfolding nibble_products
entry-at es h k made lt =
    ap (λ (v : List ℕ). get_or v k 0) made ∙ get_or-map-range_with_len (λ i. product (i * 2 ^ 124) h) 0 16 k k 0 lt (omega arith)

pub entry-8 : (es : List ℕ) (h : ℕ) → es ≡ nibble_products h → h < 2 ^ 128 → get_or es 8 0 ≡ h
entry-8 es h made fits =
    entry-at es h 8 made (omega arith) ∙ product_comm one h (omega arith) fits ∙ product-one h fits

-- no bit of an entry is shifted out
pub reduction-fits : (r : ℕ) → r < 16 → get_or REDUCTIONS r 0 * 2 ^ 112 % 2 ^ 128 ≡ get_or REDUCTIONS r 0 * 2 ^ 112
unfolding all_below
reduction-fits = same_below 16 (λ k. get_or REDUCTIONS k 0 * 2 ^ 112 % 2 ^ 128) (λ k. get_or REDUCTIONS k 0 * 2 ^ 112) refl
