-- What is sealed under a key of bytes is bytes.
use Rattle.std.proofs.Common.{◌≡◌, ℕ, zero, suc, ◌+◌, ◌-◌, ◌*◌, ◌/◌, ◌%◌, ◌^◌, ◌<◌, List, [], ◌∷◌, ◌++◌, length, slice_index, Bool, true, false, ◌==◌, ◌&&◌, refl, ap, ◌∙◌, if◌then◌else◌, bit_xor, nat_lt, replicate, length-append, arith}
use Rattle.std.proofs.lemmas.Bool.{ltb-true}
use Rattle.std.proofs.lemmas.Nat.{xor_lt}
use Rattle.std.specs.Int.{bytes_high_first, byte_at, sum_through, to_be_bytes, from_be_bytes, w32, w128}
use Rattle.std.specs.List.{range_with_len}
use Rattle.base64.specs.GeneralPurpose.{IsBytes}
use Rattle.spec_documents.proofs.Below.{all_below, all_below-at}
use Rattle.spec_sealing.specs.AesField.{polynomial_product, remainder, product, x_power, inverse, affine_bit, substitution}
use Rattle.spec_sealing.specs.Aes.{list_of, sub_bytes, shift_rows, add_round_key, rounds, encrypted, rot_word, add_first, word, step_word, add_words, next_word, schedule, aes}
use Rattle.spec_sealing.specs.Gcm.{blocks, lengths, mask_byte, with_key_stream, tag_of, counter_block}
use Rattle.spec_sealing.specs.GcmField.{ghash}
use Rattle.spec_documents.specs.Base64url.{base64url}
use Rattle.spec_sealing.specs.Header.{header_text}
use Rattle.spec_sealing.specs.Suites.{Suite, A128Gcm, A256Gcm, suite_of, content_key, content_cipher}
use Rattle.spec_sealing.specs.Jwe.{before_aad, sealed}
use Rattle.spec_sealing.specs.Forms.{HasParts}
use Rattle.spec_records.specs.Records.{OneKey}
use Rattle.spec_records.specs.Keys.{nonce}
use Rattle.spec_records.specs.RecordDocument.{IsOneKey}
use Rattle.paired_sepps.proofs.Bytes.{no_bytes, bytes_more, bytes_append, bytes_map}

xor_bytes : (a b : ℕ) → a < 256 → b < 256 → bit_xor a b < 256
xor_bytes a b h k = xor_lt 8 a b h k

-- ---- the field of AES

bits_low : (f : ℕ → ℕ) → ((i : ℕ) → f i < 2) → sum_through (λ i. f i * 2 ^ i) 7 < 256
bits_low f low = let a = low 0 in let b = low 1 in let c = low 2 in let d = low 3 in let e = low 4 in let g = low 5 in let h = low 6 in let k = low 7 in omega arith

bit_low : (b i : ℕ) → affine_bit b i < 2
bit_low b i = omega arith

substitution_low : (a : ℕ) → substitution a < 256
unfolding substitution
substitution_low a = bits_low (affine_bit (inverse a)) (bit_low (inverse a))

doubled_low : (x : ℕ) → x < 256 → product 2 x < 256
unfolding all_below polynomial_product remainder product
doubled_low x h = ltb-true (product 2 x) 256 (all_below-at 256 (λ k. nat_lt (product 2 k) 256) refl x h)

power_low : (i : ℕ) → x_power i < 256
unfolding x_power
power_low zero = omega arith
power_low (suc i) = doubled_low (x_power i) (power_low i)

-- ---- AES

list_of_bytes : (n : ℕ) (f : ℕ → ℕ) → ((k : ℕ) → f k < 256) → IsBytes (list_of n f)
unfolding list_of
list_of_bytes n f low = bytes_map f low (range_with_len 0 n)

sub_bytes_low : (s : List ℕ) → IsBytes (sub_bytes s)
sub_bytes_low s = bytes_map substitution substitution_low s

shifted_low : (s : List ℕ) → IsBytes s → IsBytes (shift_rows s)
shifted_low s h = list_of_bytes 16 (λ k. slice_index s (4 * ((k / 4 + k % 4) % 4) + k % 4)) (λ k. h (4 * ((k / 4 + k % 4) % 4) + k % 4))

added_low : (w : List ℕ) (r : ℕ) (s : List ℕ) → IsBytes w → IsBytes s → IsBytes (add_round_key w r s)
added_low w r s h k = list_of_bytes 16 (λ i. bit_xor (slice_index s i) (slice_index w (16 * r + i))) (λ i. xor_bytes (slice_index s i) (slice_index w (16 * r + i)) (k i) (h (16 * r + i)))

encrypted_low : (w : List ℕ) (n : ℕ) (s : List ℕ) → IsBytes w → IsBytes (encrypted w n s)
unfolding encrypted
encrypted_low w n s h = added_low w n (shift_rows (sub_bytes (rounds w (n - 1) s))) h (shifted_low (sub_bytes (rounds w (n - 1) s)) (sub_bytes_low (rounds w (n - 1) s)))

four_low : (a b c d : ℕ) → a < 256 → b < 256 → c < 256 → d < 256 → IsBytes (a ∷ b ∷ c ∷ d ∷ [])
four_low a b c d h i j k = bytes_more a (b ∷ c ∷ d ∷ []) h (bytes_more b (c ∷ d ∷ []) i (bytes_more c (d ∷ []) j (bytes_more d [] k no_bytes)))

word_low : (w : List ℕ) (i : ℕ) → IsBytes w → IsBytes (word w i)
word_low w i h = four_low (slice_index w (4 * i)) (slice_index w (4 * i + 1)) (slice_index w (4 * i + 2)) (slice_index w (4 * i + 3)) (h (4 * i)) (h (4 * i + 1)) (h (4 * i + 2)) (h (4 * i + 3))

first_low : (c : ℕ) (a : List ℕ) → c < 256 → IsBytes a → IsBytes (add_first c a)
first_low c a h k = four_low (bit_xor (slice_index a 0) c) (slice_index a 1) (slice_index a 2) (slice_index a 3) (xor_bytes (slice_index a 0) c (k 0) h) (k 1) (k 2) (k 3)

step_low : (nk i : ℕ) (a : List ℕ) → IsBytes a → IsBytes (step_word nk i a)
step_low nk i a h = tested (i % nk == 0) (nk == 8 && i % 8 == 4)
  where
    tested : (b c : Bool) → IsBytes (if b then add_first (x_power (i / nk - 1)) (sub_bytes (rot_word a)) else if c then sub_bytes a else a)
    tested true c = first_low (x_power (i / nk - 1)) (sub_bytes (rot_word a)) (power_low (i / nk - 1)) (sub_bytes_low (rot_word a))
    tested false true = sub_bytes_low a
    tested false false = h

sum_low : (a b : List ℕ) → IsBytes a → IsBytes b → IsBytes (add_words a b)
sum_low a b h k = list_of_bytes 4 (λ i. bit_xor (slice_index a i) (slice_index b i)) (λ i. xor_bytes (slice_index a i) (slice_index b i) (h i) (k i))

schedule_low : (nk : ℕ) (key : List ℕ) (n : ℕ) → IsBytes key → IsBytes (schedule nk key n)
unfolding schedule
schedule_low nk key zero h = h
schedule_low nk key (suc n) h =
    let w : List ℕ = schedule nk key n in
    let before = schedule_low nk key n h in
    bytes_append w (next_word nk w (nk + n)) before
    (sum_low (word w (nk + n - nk)) (step_word nk (nk + n) (word w (nk + n - 1))) (word_low w (nk + n - nk) before) (step_low nk (nk + n) (word w (nk + n - 1)) (word_low w (nk + n - 1) before)))

aes_low : (nk : ℕ) (key block : List ℕ) → IsBytes key → IsBytes (aes nk key block)
unfolding aes
aes_low nk key block h = encrypted_low (schedule nk key (4 * (nk + 7) - nk)) (nk + 6) block (schedule_low nk key (4 * (nk + 7) - nk) h)

cipher_low : (suite : Suite) (key block : List ℕ) → IsBytes key → IsBytes (content_cipher (content_key suite key) block)
cipher_low A128Gcm key block h = aes_low 4 key block h
cipher_low A256Gcm key block h = aes_low 8 key block h

-- ---- GCM

stream_low : (e : List ℕ → List ℕ) (iv plain : List ℕ) → ((block : List ℕ) → IsBytes (e block)) → IsBytes plain → IsBytes (with_key_stream e iv plain)
unfolding with_key_stream mask_byte
stream_low e iv plain low h =
    bytes_map (λ i. bit_xor (slice_index plain i) (mask_byte e iv i)) (λ i. xor_bytes (slice_index plain i) (mask_byte e iv i) (h i) (low (counter_block iv (i / 16 + 2)) (i % 16))) (range_with_len 0 (length plain))

high_first_low : (k n : ℕ) → IsBytes (bytes_high_first k n)
high_first_low zero n = no_bytes
high_first_low (suc k) n = bytes_more (byte_at k n) (bytes_high_first k n) (byte_low k n) (high_first_low k n)
  where
    byte_low : (k n : ℕ) → byte_at k n < 256
    byte_low zero n = omega arith
    byte_low (suc k) n = omega arith

high_first_length : (k n : ℕ) → length (bytes_high_first k n) ≡ k
high_first_length zero n = refl
high_first_length (suc k) n = ap suc (high_first_length k n)

abbrev tag_number : (List ℕ → List ℕ) → List ℕ → List ℕ → List ℕ → ℕ
tag_number e iv a c = bit_xor (from_be_bytes w128 (e (counter_block iv 1))) (ghash (from_be_bytes w128 (e (replicate 16 0))) (blocks a ++ blocks c ++ lengths a c ∷ []))

tag_low : (e : List ℕ → List ℕ) (iv a c : List ℕ) → IsBytes (tag_of e iv a c)
unfolding tag_of
tag_low e iv a c = high_first_low 16 (tag_number e iv a c)

tag_length : (e : List ℕ → List ℕ) (iv a c : List ℕ) → length (tag_of e iv a c) ≡ 16
unfolding tag_of
tag_length e iv a c = high_first_length 16 (tag_number e iv a c)

-- ---- what is sealed

pub sealed_parts : (suite : Suite) (k : OneKey) (seq : ℕ) (block plain : List ℕ) → IsOneKey k → IsBytes plain → HasParts (sealed (content_key suite k.key) (nonce k seq) block plain)
sealed_parts suite k seq block plain is bytes =
    let e : List ℕ → List ℕ = content_cipher (content_key suite k.key) in
    let protected : List ℕ = header_text (suite_of (content_key suite k.key)) in
    let aad : List ℕ = base64url block in
    let ciphertext : List ℕ = with_key_stream e (nonce k seq) plain in
    record {
      iv = bytes_append k.salt (to_be_bytes w32 seq) is.salt_bytes (high_first_low 4 seq);
      nonce = length-append k.salt (to_be_bytes w32 seq) ∙ ap (λ n. n + 4) is.salt_length;
      ciphertext = stream_low e (nonce k seq) plain (λ b. cipher_low suite k.key b is.key_bytes) bytes;
      tag = tag_low e (nonce k seq) (before_aad protected ++ aad) ciphertext;
      count = tag_length e (nonce k seq) (before_aad protected ++ aad) ciphertext;
    }
