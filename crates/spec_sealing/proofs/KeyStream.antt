-- The key stream cancels itself.
use Rattle.std.proofs.Common.{◌≡◌, ℕ, arith, List, length, get_or, bit_xor, ap, sym, ◌∙◌}
use Rattle.std.specs.Prelude.{map}
use Rattle.std.specs.List.{range_with_len}
use Rattle.std.proofs.lemmas.List.FromFn.{fill_by_all, get_or-map-range_with_len, length-map-range_with_len}
use lib.Bits.{xor_assoc, xor_self, xor_zero_r}
use Rattle.spec_sealing.specs.Gcm.{mask_byte, with_key_stream}

xor_twice : (a b : ℕ) → bit_xor (bit_xor a b) b ≡ a
xor_twice a b = xor_assoc a b b ∙ ap (bit_xor a) (xor_self b) ∙ xor_zero_r a

pub with_key_stream-with_key_stream : (e : List ℕ → List ℕ) (iv p : List ℕ) → with_key_stream e iv (with_key_stream e iv p) ≡ p
unfolding with_key_stream
with_key_stream-with_key_stream e iv p =
    let once = λ (i : ℕ). bit_xor (get_or p i 0) (mask_byte e iv i) in
    let c : List ℕ = map once (range_with_len 0 (length p)) in
    let twice = λ (i : ℕ). bit_xor (get_or c i 0) (mask_byte e iv i) in
    let same : length c ≡ length p = length-map-range_with_len once 0 (length p) in
    sym (fill_by_all twice p (length c) 0 (sym same)
    (λ k lt. sym (
    ap (λ (x : ℕ). bit_xor x (mask_byte e iv k)) (get_or-map-range_with_len once 0 (length p) k k 0 (omega arith) (omega arith))
    ∙ xor_twice (get_or p k 0) (mask_byte e iv k))))
