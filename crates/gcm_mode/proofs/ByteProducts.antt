-- Products eight bits at a time.
use Rattle.std.proofs.Common.{◌≡◌, ◌<◌, ℕ, zero, suc, refl, arith, ◌*◌, ◌%◌, ◌/◌, ◌+◌, ◌-◌, ◌^◌, bit_xor, get_or, ap, sym, ◌∙◌, length}
use Rattle.std.specs.Prelude.{List}
use Rattle.std.proofs.lemmas.List.FromFn.{fill_by_all, get_or-map-range_with_len}
use lib.Bits.{xor_shifted}
use Rattle.spec_documents.proofs.Below.{all_below, same_below}
use Rattle.gcm_mode.specs.declared.byte_table.TheConstants.{REDUCTIONS_BY_BYTE}
use Rattle.gcm_mode.specs.declared.field.TheConstants.{REDUCTIONS}
use Rattle.spec_sealing.specs.GcmField.{product, one, times_power, times_u}
use Rattle.gcm_mode.specs.Table.{byte_products}
use Rattle.gcm_mode.proofs.Products.{product-one, product-xor_left, product_comm, times_power-xor}
use Rattle.gcm_mode.proofs.Nibbles.{nibble-at}
use Rattle.gcm_mode.proofs.Parts.{times_power-shifted, product-times_power, part_step}

-- ---- u^8

-- an entry by those of its halves in the table by four bits
by_halves : (r : ℕ) → r < 256 → get_or REDUCTIONS_BY_BYTE r 0 * 2 ^ 112 ≡ bit_xor (get_or REDUCTIONS (r / 16) 0 * 2 ^ 112) (get_or REDUCTIONS (r % 16) 0 * 2 ^ 108)
unfolding all_below
by_halves = same_below 256 (λ k. get_or REDUCTIONS_BY_BYTE k 0 * 2 ^ 112) (λ k. bit_xor (get_or REDUCTIONS (k / 16) 0 * 2 ^ 112) (get_or REDUCTIONS (k % 16) 0 * 2 ^ 108)) refl

times_power-more : (i j y : ℕ) → times_power (i + j) y ≡ times_power i (times_power j y)
unfolding times_power
times_power-more zero j y = let e : 0 + j ≡ j = omega arith in ap (λ (n : ℕ). times_power n y) e
times_power-more (suc i) j y =
    let e : suc i + j ≡ suc (i + j) = omega arith in
    ap (λ (n : ℕ). times_power n y) e ∙ ap times_u (times_power-more i j y)

reductions-at : (r : ℕ) → r < 256 → get_or REDUCTIONS_BY_BYTE r 0 * 2 ^ 112 ≡ times_power 8 r
reductions-at r lt =
    let whole : r ≡ bit_xor (r / 16 * 2 ^ 4) (r % 16) = omega arith ∙ sym (xor_shifted (r / 16) 4 (r % 16) (omega arith)) in
    let high : get_or REDUCTIONS (r / 16) 0 * 2 ^ 112 ≡ times_power 8 (r / 16 * 2 ^ 4) =
    nibble-at (r / 16) (omega arith) ∙ ap (times_power 4) (sym (times_power-shifted 4 (r / 16))) ∙ sym (times_power-more 4 4 (r / 16 * 2 ^ 4)) in
    let even : get_or REDUCTIONS (r % 16) 0 * 2 ^ 112 ≡ get_or REDUCTIONS (r % 16) 0 * 2 ^ 108 * 2 ^ 4 = omega arith in
    let low : get_or REDUCTIONS (r % 16) 0 * 2 ^ 108 ≡ times_power 8 (r % 16) =
    sym (times_power-shifted 4 (get_or REDUCTIONS (r % 16) 0 * 2 ^ 108))
    ∙ ap (times_power 4) (sym even ∙ nibble-at (r % 16) (omega arith)) ∙ sym (times_power-more 4 4 (r % 16)) in
    by_halves r lt ∙ (λ t. bit_xor (high t) (low t)) ∙ sym (times_power-xor 8 (r / 16 * 2 ^ 4) (r % 16)) ∙ ap (times_power 8) (sym whole)

pub reduction-fits : (r : ℕ) → r < 256 → get_or REDUCTIONS_BY_BYTE r 0 * 2 ^ 112 % 2 ^ 128 ≡ get_or REDUCTIONS_BY_BYTE r 0 * 2 ^ 112
unfolding all_below
reduction-fits = same_below 256 (λ k. get_or REDUCTIONS_BY_BYTE k 0 * 2 ^ 112 % 2 ^ 128) (λ k. get_or REDUCTIONS_BY_BYTE k 0 * 2 ^ 112) refl

pub times_power_8-split : (y : ℕ) → bit_xor (y / 2 ^ 8) (get_or REDUCTIONS_BY_BYTE (y % 2 ^ 8) 0 * 2 ^ 112) ≡ times_power 8 y
times_power_8-split y =
    let whole : bit_xor (y / 2 ^ 8 * 2 ^ 8) (y % 2 ^ 8) ≡ y = xor_shifted (y / 2 ^ 8) 8 (y % 2 ^ 8) (omega arith) ∙ omega arith in
    (λ t. bit_xor (sym (times_power-shifted 8 (y / 2 ^ 8)) t) (reductions-at (y % 2 ^ 8) (omega arith) t))
    ∙ sym (times_power-xor 8 (y / 2 ^ 8 * 2 ^ 8) (y % 2 ^ 8)) ∙ ap (times_power 8) whole

-- ---- the next eight bits of x, above those before

pub byte_step : (x m h s : ℕ) → m < 16 → h < 2 ^ 128
    → s ≡ product (x % 2 ^ (8 * m) * 2 ^ (128 - 8 * m)) h
    → bit_xor (times_power 8 s) (product (x / 2 ^ (8 * m) % 2 ^ 8 * 2 ^ 120) h)
    ≡ product (x % 2 ^ (8 * (m + 1)) * 2 ^ (128 - 8 * (m + 1))) h
byte_step x m h s within fits held =
    let next : 8 + 8 * m ≡ 8 * (m + 1) = omega arith in
    part_step 8 120 (8 * m) (128 - 8 * (m + 1)) x h s (omega arith) (omega arith) fits held
    ∙ ap (λ (i : ℕ). product (x % 2 ^ i * 2 ^ (128 - 8 * (m + 1))) h) next

-- ---- the table

-- the product of a byte by those of its halves
pub byte-halves : (i h : ℕ) → i < 256 → h < 2 ^ 128
    → bit_xor (product (i / 16 * 2 ^ 124) h) (times_power 4 (product (i % 16 * 2 ^ 124) h)) ≡ product (i * 2 ^ 120) h
byte-halves i h lt fits =
    let low : times_power 4 (product (i % 16 * 2 ^ 124) h) ≡ product (i % 16 * 2 ^ 120) h =
    sym (product-times_power 4 (i % 16 * 2 ^ 124) h (omega arith) fits)
    ∙ ap (λ (y : ℕ). product y h) (ap (times_power 4) (omega arith) ∙ times_power-shifted 4 (i % 16 * 2 ^ 120)) in
    let whole : bit_xor (i / 16 * 2 ^ 124) (i % 16 * 2 ^ 120) ≡ i * 2 ^ 120 =
    xor_shifted (i / 16) 124 (i % 16 * 2 ^ 120) (omega arith) ∙ omega arith in
    ap (bit_xor (product (i / 16 * 2 ^ 124) h)) low
    ∙ sym (product-xor_left (i / 16 * 2 ^ 124) (i % 16 * 2 ^ 120) h) ∙ ap (λ (y : ℕ). product y h) whole

pub entries-made : (es : List ℕ) (h : ℕ) → length es ≡ 256 → ((k : ℕ) → k < 256 → get_or es k 0 ≡ product (k * 2 ^ 120) h)
    → es ≡ byte_products h
unfolding byte_products
entries-made es h long made = fill_by_all (λ i. product (i * 2 ^ 120) h) es 256 0 long made

pub entry-at : (es : List ℕ) (h k : ℕ) → es ≡ byte_products h → k < 256 → get_or es k 0 ≡ product (k * 2 ^ 120) h
unfolding byte_products
entry-at es h k made lt =
    ap (λ (v : List ℕ). get_or v k 0) made ∙ get_or-map-range_with_len (λ i. product (i * 2 ^ 120) h) 0 256 k k 0 lt (omega arith)

pub entry-128 : (es : List ℕ) (h : ℕ) → es ≡ byte_products h → h < 2 ^ 128 → get_or es 128 0 ≡ h
entry-128 es h made fits =
    entry-at es h 128 made (omega arith) ∙ product_comm one h (omega arith) fits ∙ product-one h fits
