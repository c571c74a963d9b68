-- AES (FIPS 197) as functions on lists of bytes. A word is a list of four bytes (3.5). The state is
-- four columns of four bytes, one after the other, so row r of column c is byte 4 * c + r (3.4).
use Rattle.std.specs.Prelude.{ℕ, zero, suc, ◌+◌, ◌-◌, ◌*◌, ◌/◌, ◌%◌, ◌==◌, ◌&&◌, List, [], ◌∷◌, ◌++◌, bit_xor, if◌then◌else◌, map, slice_index}
use Rattle.std.specs.List.{range_with_len}
use Rattle.spec_sealing.specs.AesField.{product, substitution, x_power}

-- the list f 0, f 1, .., of n numbers
unfoldable pub list_of : ℕ → (ℕ → ℕ) → List ℕ
list_of n f = map f (range_with_len 0 n)

-- SubBytes: S of each byte (5.1.1)
abbrev pub sub_bytes : List ℕ → List ℕ
sub_bytes s = map substitution s

-- ShiftRows: row r is turned r places to the left (5.1.2)
abbrev pub shift_rows : List ℕ → List ℕ
shift_rows s = list_of 16 (λ k. slice_index s (4 * ((k / 4 + k % 4) % 4) + k % 4))

-- the matrix of 5.1.3: its first row, and each next row is the one above turned one place to the right
abbrev pub matrix_entry : ℕ → ℕ → ℕ
matrix_entry row column = slice_index (2 ∷ 3 ∷ 1 ∷ 1 ∷ []) ((column + 4 - row) % 4)

-- row r of the matrix times column c of the state
abbrev pub mixed : List ℕ → ℕ → ℕ → ℕ
mixed s c r =
    bit_xor (bit_xor (bit_xor (product (matrix_entry r 0) (slice_index s (4 * c)))
    (product (matrix_entry r 1) (slice_index s (4 * c + 1))))
    (product (matrix_entry r 2) (slice_index s (4 * c + 2))))
    (product (matrix_entry r 3) (slice_index s (4 * c + 3)))

-- MixColumns: each column is multiplied by the matrix (5.1.3)
abbrev pub mix_columns : List ℕ → List ℕ
mix_columns s = list_of 16 (λ k. mixed s (k / 4) (k % 4))

-- AddRoundKey: round key r, the words 4 * r to 4 * r + 3 of w, is added to the state (5.1.4)
abbrev pub add_round_key : List ℕ → ℕ → List ℕ → List ℕ
add_round_key w r s = list_of 16 (λ k. bit_xor (slice_index s k) (slice_index w (16 * r + k)))

-- the state after round r, for r below the last (5.1)
unfoldable pub rounds : List ℕ → ℕ → List ℕ → List ℕ
rounds w zero s = add_round_key w 0 s
rounds w (suc r) s = add_round_key w (suc r) (mix_columns (shift_rows (sub_bytes (rounds w r s))))

-- the block that has gone through all rounds, with the words w; the last leaves the matrix out (5.1)
unfoldable pub encrypted : List ℕ → ℕ → List ℕ → List ℕ
encrypted w last s = add_round_key w last (shift_rows (sub_bytes (rounds w (last - 1) s)))

-- ---- the key schedule (5.2), for a key of nk words. The words w(0), w(1), .. are one list of bytes

-- RotWord: a word turned one byte to the left
abbrev pub rot_word : List ℕ → List ℕ
rot_word a = slice_index a 1 ∷ slice_index a 2 ∷ slice_index a 3 ∷ slice_index a 0 ∷ []

-- a word with c added to its first byte
abbrev pub add_first : ℕ → List ℕ → List ℕ
add_first c a = bit_xor (slice_index a 0) c ∷ slice_index a 1 ∷ slice_index a 2 ∷ slice_index a 3 ∷ []

-- the word w(i)
abbrev pub word : List ℕ → ℕ → List ℕ
word w i = slice_index w (4 * i) ∷ slice_index w (4 * i + 1) ∷ slice_index w (4 * i + 2) ∷ slice_index w (4 * i + 3) ∷ []

-- what is added to w(i - nk) to give w(i), from w(i - 1): where nk divides i the turned and
-- substituted word with the round constant x^(i / nk - 1), where nk is 8 also a substituted word
abbrev pub step_word : ℕ → ℕ → List ℕ → List ℕ
step_word nk i a =
    if i % nk == 0 then add_first (x_power (i / nk - 1)) (sub_bytes (rot_word a))
    else if nk == 8 && i % 8 == 4 then sub_bytes a
    else a

-- the sum of two words
abbrev pub add_words : List ℕ → List ℕ → List ℕ
add_words a b = list_of 4 (λ k. bit_xor (slice_index a k) (slice_index b k))

-- w(i) from the words before it
abbrev pub next_word : ℕ → List ℕ → ℕ → List ℕ
next_word nk w i = add_words (word w (i - nk)) (step_word nk i (word w (i - 1)))

-- the key's words and the n words after them
unfoldable pub schedule : ℕ → List ℕ → ℕ → List ℕ
schedule nk key zero = key
schedule nk key (suc n) = schedule nk key n ++ next_word nk (schedule nk key n) (nk + n)

-- AES with a key of nk words, 4 or 8, in nk + 6 rounds: what it makes of a block
unfoldable pub aes : ℕ → List ℕ → List ℕ → List ℕ
aes nk key block = encrypted (schedule nk key (4 * (nk + 7) - nk)) (nk + 6) block
