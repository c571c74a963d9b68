-- Blocks as polynomials over the field of two elements, modulo 1 + u + u^2 + u^7 + u^128 (SP
-- 800-38D, 6.3). A block is a number below 2 ^ 128 whose greatest bit, the leftmost of the block, is
-- the coefficient of u^0. So the sum of two blocks is `bit_xor`.
use Rattle.std.specs.Prelude.{ℕ, zero, suc, ◌+◌, ◌-◌, ◌*◌, ◌/◌, ◌%◌, ◌^◌, List, [], ◌∷◌, length, bit_xor}
use Rattle.std.specs.Int.{bit_at}

-- u^128, which is 1 + u + u^2 + u^7: the block R (6.3)
abbrev pub reduction : ℕ
reduction = 0xe1000000000000000000000000000000

-- u * y: each coefficient moves one place to the right, and u^128 is added where that of u^127
-- falls out
abbrev pub times_u : ℕ → ℕ
times_u y = bit_xor (y / 2) (y % 2 * reduction)

-- u^i * y
unfoldable pub times_power : ℕ → ℕ → ℕ
times_power zero y = y
times_power (suc i) y = times_u (times_power i y)

-- the sum of the terms x_k * u^k * y for k below i
unfoldable pub product_below : ℕ → ℕ → ℕ → ℕ
product_below zero x y = 0
product_below (suc i) x y = bit_xor (product_below i x y) (bit_at x (127 - i) * times_power i y)

-- x * y (6.3)
unfoldable pub product : ℕ → ℕ → ℕ
product x y = product_below 128 x y

-- the polynomial 1
abbrev pub one : ℕ
one = 2 ^ 127

-- h^k
unfoldable pub power : ℕ → ℕ → ℕ
power h zero = one
power h (suc k) = product (power h k) h

-- GHASH: the sum of X_i * h^(n - i + 1) for i from 1 to n, for the blocks X_1, .., X_n (6.4)
unfoldable pub ghash : ℕ → List ℕ → ℕ
ghash h [] = 0
ghash h (x ∷ xs) = bit_xor (product x (power h (length xs + 1))) (ghash h xs)
