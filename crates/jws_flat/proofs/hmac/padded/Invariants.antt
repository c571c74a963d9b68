use Rattle.std.proofs.Common.{◌≡◌, ℕ, ◌<◌, ◌≤◌, length, get_or, bit_xor}
use Rattle.spec_sealing.specs.Hmac.{block_key}
use Rattle.jws_flat.proofs.hmac.padded.Given as goal

abbrev pub invariant-loop-i : goal.invariant-loop-i
invariant-loop-i l =
    (length l.block ≡ 64) × ((j : ℕ) → j < l.i → get_or l.block j 0 ≡ bit_xor (get_or (block_key l.key) j 0) l.pad)
    × ((j : ℕ) → l.i ≤ j → get_or l.block j 0 ≡ get_or (block_key l.key) j 0)
