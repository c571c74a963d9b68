-- Examples of the standard, computed by the definitions.
use Rattle.std.specs.Prelude.{◌≡◌, ℕ, List, [], ◌∷◌, refl}
use Rattle.std.specs.List.{range_with_len}
use Rattle.spec_sealing.specs.AesField.{inverse, polynomial_product, product, remainder, substitution, x_power}
use Rattle.spec_sealing.specs.Aes.{aes, encrypted, list_of, rounds, schedule}

-- FIPS 197, 4.2
pub product_example : product 0x57 0x83 ≡ 0xc1
unfolding polynomial_product remainder product
product_example = refl

-- FIPS 197, 5.1.1
pub substitution_example : substitution 0x53 ≡ 0xed
unfolding polynomial_product remainder product inverse substitution
substitution_example = refl

-- FIPS 197 of 2001, appendix C: one block under keys of 128 and of 256 bits (C.1 and C.3)
abbrev example_block : List ℕ
example_block = 0x00 ∷ 0x11 ∷ 0x22 ∷ 0x33 ∷ 0x44 ∷ 0x55 ∷ 0x66 ∷ 0x77 ∷ 0x88 ∷ 0x99 ∷ 0xaa ∷ 0xbb ∷ 0xcc ∷ 0xdd ∷ 0xee ∷ 0xff ∷ []

pub example_of_128_bits : aes 4 (range_with_len 0 16) example_block
    ≡ 0x69 ∷ 0xc4 ∷ 0xe0 ∷ 0xd8 ∷ 0x6a ∷ 0x7b ∷ 0x04 ∷ 0x30 ∷ 0xd8 ∷ 0xcd ∷ 0xb7 ∷ 0x80 ∷ 0x70 ∷ 0xb4 ∷ 0xc5 ∷ 0x5a ∷ []
unfolding list_of rounds encrypted schedule aes x_power polynomial_product remainder product inverse substitution
example_of_128_bits = refl

pub example_of_256_bits : aes 8 (range_with_len 0 32) example_block
    ≡ 0x8e ∷ 0xa2 ∷ 0xb7 ∷ 0xca ∷ 0x51 ∷ 0x67 ∷ 0x45 ∷ 0xbf ∷ 0xea ∷ 0xfc ∷ 0x49 ∷ 0x90 ∷ 0x4b ∷ 0x49 ∷ 0x60 ∷ 0x89 ∷ []
unfolding list_of rounds encrypted schedule aes x_power polynomial_product remainder product inverse substitution
example_of_256_bits = refl
