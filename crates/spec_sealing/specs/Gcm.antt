-- GCM (SP 800-38D) with a nonce of 96 bits and a tag of 128 bits, over the cipher e of a key, which
-- is a function from blocks of 16 bytes to such blocks.
use Rattle.std.specs.Prelude.{◌≡◌, ℕ, ◌+◌, ◌*◌, ◌/◌, ◌%◌, ◌^◌, List, [], ◌∷◌, ◌++◌, length, map, replicate, bit_xor, slice_index}
use Rattle.std.specs.Int.{w32, w128, div_ceil, to_be_bytes, from_be_bytes}
use Rattle.std.specs.List.{range_with_len}
use Rattle.spec_sealing.specs.GcmField.{ghash}

-- block i of some bytes, as a number; past their end stand zeros
unfoldable pub block_at : List ℕ → ℕ → ℕ
block_at bytes i = from_be_bytes w128 (map (λ k. slice_index bytes (16 * i + k)) (range_with_len 0 16))

-- the blocks of some bytes, the last one padded with zeros (7.1, step 4)
unfoldable pub blocks : List ℕ → List ℕ
blocks bytes = map (block_at bytes) (range_with_len 0 (div_ceil (length bytes) 16))

-- the block of the two lengths in bits, each modulo 2 ^ 64 as 64 bits (7.1, step 5)
abbrev pub lengths : List ℕ → List ℕ → ℕ
lengths a c = length a * 8 % 2 ^ 64 * 2 ^ 64 + length c * 8 % 2 ^ 64

-- the counter block n, which counts in its last 32 bits (6.2): J0 is that of 1 (7.1, step 2)
unfoldable pub counter_block : List ℕ → ℕ → List ℕ
counter_block iv n = iv ++ to_be_bytes w32 (n % 2 ^ 32)

-- byte i of the key stream, which begins with the counter block after J0 (6.5; 7.1, step 3)
unfoldable pub mask_byte : (List ℕ → List ℕ) → List ℕ → ℕ → ℕ
mask_byte e iv i = slice_index (e (counter_block iv (i / 16 + 2))) (i % 16)

-- the text plus the key stream: the ciphertext of a plaintext (7.1, step 3), and the plaintext of a
-- ciphertext (7.2, step 4)
unfoldable pub with_key_stream : (List ℕ → List ℕ) → List ℕ → List ℕ → List ℕ
with_key_stream e iv text = map (λ i. bit_xor (slice_index text i) (mask_byte e iv i)) (range_with_len 0 (length text))

-- the tag of the additional data a and the ciphertext c (7.1, steps 4 to 6)
unfoldable pub tag_of : (List ℕ → List ℕ) → List ℕ → List ℕ → List ℕ → List ℕ
tag_of e iv a c =
    let h = from_be_bytes w128 (e (replicate 16 0)) in
    let mask = from_be_bytes w128 (e (counter_block iv 1)) in
    to_be_bytes w128 (bit_xor mask (ghash h (blocks a ++ blocks c ++ lengths a c ∷ [])))

-- the plaintext p is sealed as the ciphertext c with the tag t, under the nonce iv and the additional
-- data a (7.1)
pub record Seals (e : List ℕ → List ℕ) (iv a p c t : List ℕ) : Type 0 where
  pub text : c ≡ with_key_stream e iv p
  pub tag : t ≡ tag_of e iv a c

-- t is the tag of the ciphertext c, which opens as the plaintext p, under the nonce iv and the
-- additional data a (7.2)
pub record Opens (e : List ℕ → List ℕ) (iv a c t p : List ℕ) : Type 0 where
  pub tag : t ≡ tag_of e iv a c
  pub text : p ≡ with_key_stream e iv c

-- what was sealed opens with the same key, nonce and data
abbrev pub SealedOpens : Type 0
SealedOpens = (e : List ℕ → List ℕ) (iv a p c t : List ℕ) → Seals e iv a p c t → Opens e iv a c t p
