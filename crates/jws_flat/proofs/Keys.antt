-- The key of HMAC as a block of 64 bytes.
use Rattle.std.proofs.Common.{◌≡◌, ℕ, ◌-◌, ◌≤◌, List, ◌++◌, length, replicate, refl, le-leb}
use Rattle.spec_sealing.specs.Hmac.{block_key}

pub short_block : (key : List ℕ) → length key ≤ 64 → key ++ replicate (64 - length key) 0 ≡ block_key key
short_block key h = rw (le-leb (length key) 64 h) refl
