-- The table of a product by four bits at a time.
use Rattle.std.specs.Prelude.{ℕ, ◌*◌, ◌^◌, List, map}
use Rattle.std.specs.List.{range_with_len}
use Rattle.spec_sealing.specs.GcmField.{product}

-- the products of h with the polynomials of a degree of at most 3. Those of place i have the four bits
-- of i as their coefficients, the greatest bit that of u^0 (own)
unfoldable pub nibble_products : ℕ → List ℕ
nibble_products h = map (λ i. product (i * 2 ^ 124) h) (range_with_len 0 16)

-- and with those of a degree of at most 7, which have the eight bits of i (own)
unfoldable pub byte_products : ℕ → List ℕ
byte_products h = map (λ i. product (i * 2 ^ 120) h) (range_with_len 0 256)
