-- Bytes as polynomials over the field of two elements, modulo x^8 + x^4 + x^3 + x + 1 (FIPS 197,
-- section 4). Bit i of a byte is the coefficient of x^i, so the sum of two bytes is `bit_xor` (4.1).
use Rattle.std.specs.Prelude.{ℕ, zero, suc, ◌+◌, ◌*◌, ◌%◌, ◌^◌, ◌==◌, bit_xor, find, unwrap_or}
use Rattle.std.specs.List.{range_with_len}
use Rattle.std.specs.Int.{bit_at, sum_through}

-- the sum of the terms b_k * x^k * a for k below i, as polynomials of any degree
unfoldable pub polynomial_product : ℕ → ℕ → ℕ → ℕ
polynomial_product zero a b = 0
polynomial_product (suc i) a b = bit_xor (polynomial_product i a b) (bit_at b i * (a * 2 ^ i))

-- what is left of a polynomial p of a degree below n + 8 after division by the modulus, 0x11b
unfoldable pub remainder : ℕ → ℕ → ℕ
remainder zero p = p
remainder (suc n) p = remainder n (bit_xor p (bit_at p (n + 8) * (0x11b * 2 ^ n)))

-- a * b: the remainder of the product of polynomials (4.2)
unfoldable pub product : ℕ → ℕ → ℕ
product a b = remainder 7 (polynomial_product 8 a b)

-- x^i
unfoldable pub x_power : ℕ → ℕ
x_power zero = 1
x_power (suc i) = product 2 (x_power i)

-- the byte whose product with a is 1, and 0 where there is none (4.4)
unfoldable pub inverse : ℕ → ℕ
inverse a = unwrap_or (find (λ b. product a b == 1) (range_with_len 0 256)) 0

-- bit i of the substituted byte, for an inverse b (5.1.1)
abbrev pub affine_bit : ℕ → ℕ → ℕ
affine_bit b i =
    (bit_at b i + bit_at b ((i + 4) % 8) + bit_at b ((i + 5) % 8) + bit_at b ((i + 6) % 8)
    + bit_at b ((i + 7) % 8) + bit_at 0x63 i) % 2

-- S(a): the affine map of the inverse (5.1.1)
unfoldable pub substitution : ℕ → ℕ
substitution a = sum_through (λ i. affine_bit (inverse a) i * 2 ^ i) 7
