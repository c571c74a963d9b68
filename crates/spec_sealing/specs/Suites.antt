-- Content encryption with AES GCM (RFC 7518, section 5.3): the two suites and their keys.
use Rattle.std.specs.Prelude.{ℕ, List, codes}
use Rattle.spec_sealing.specs.Aes.{aes}

pub data Suite : Type 0 where
  A128Gcm : Suite
  A256Gcm : Suite

-- the key of a suite, 16 or 32 bytes
pub data ContentKey : Type 0 where
  Aes128 : (key : List ℕ) → ContentKey
  Aes256 : (key : List ℕ) → ContentKey

-- the value of `enc` that names a suite (RFC 7518, section 5.1)
abbrev pub suite_name : Suite → List ℕ
suite_name A128Gcm = codes "A128GCM"
suite_name A256Gcm = codes "A256GCM"

-- the suite that a key is of
abbrev pub suite_of : ContentKey → Suite
suite_of (Aes128 key) = A128Gcm
suite_of (Aes256 key) = A256Gcm

-- the key of a suite that has these bytes
abbrev pub content_key : Suite → List ℕ → ContentKey
content_key A128Gcm key = Aes128 key
content_key A256Gcm key = Aes256 key

-- what a key makes of a block (FIPS 197): its words are 4 or 8
abbrev pub content_cipher : ContentKey → List ℕ → List ℕ
content_cipher (Aes128 key) = aes 4 key
content_cipher (Aes256 key) = aes 8 key
