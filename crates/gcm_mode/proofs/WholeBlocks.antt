-- A block of two texts that stands whole in one of them.
use Rattle.std.proofs.Common.{◌≡◌, ◌<◌, ◌≤◌, ◌+◌, ◌*◌, ◌++◌, ℕ, List, length, get_or, ap, sym, refl, arith, ◌∙◌}
use Rattle.std.specs.Prelude.{map}
use Rattle.std.specs.Int.{from_be_bytes, w128}
use Rattle.std.specs.List.{range_with_len}
use Rattle.std.proofs.lemmas.List.{get_or_append_left, get_or-append_right}
use Rattle.std.proofs.lemmas.List.FromFn.{fill_by_all, get_or-map-range_with_len}
use Rattle.spec_sealing.specs.Gcm.{block_at}

sixteen_same : (f g : ℕ → ℕ) → ((k : ℕ) → k < 16 → f k ≡ g k) → map f (range_with_len 0 16) ≡ map g (range_with_len 0 16)
sixteen_same f g same = fill_by_all g (map f (range_with_len 0 16)) 16 0 refl (λ k lt. get_or-map-range_with_len f 0 16 k k 0 lt (omega arith) ∙ same k lt)

-- the 16 bytes from s on, as a block
abbrev pub bytes_from : List ℕ → ℕ → ℕ
bytes_from bytes s = from_be_bytes w128 (map (λ k. get_or bytes (s + k) 0) (range_with_len 0 16))

pub in_first : (xs ys : List ℕ) (i : ℕ) → 16 * i + 16 ≤ length xs → bytes_from xs (16 * i) ≡ block_at (xs ++ ys) i
unfolding block_at
in_first xs ys i within =
    ap (from_be_bytes w128) (sixteen_same (λ k. get_or xs (16 * i + k) 0) (λ k. get_or (xs ++ ys) (16 * i + k) 0) (λ k lt. sym (get_or_append_left xs ys 0 (16 * i + k) (omega arith))))

pub in_second : (xs ys : List ℕ) (i s : ℕ) → length xs + s ≡ 16 * i → bytes_from ys s ≡ block_at (xs ++ ys) i
unfolding block_at
in_second xs ys i s place =
    let found = λ (k : ℕ). get_or-append_right xs ys (length xs) (16 * i + k) 0 refl (omega arith) ∙ ap (λ (n : ℕ). get_or ys n 0) (omega arith) in
    ap (from_be_bytes w128) (sixteen_same (λ k. get_or ys (s + k) 0) (λ k. get_or (xs ++ ys) (16 * i + k) 0) (λ k lt. sym (found k)))
