-- HMAC (RFC 2104) with SHA-256 (FIPS 180-4), and signatures by it (HS256: RFC 7518, section 3.2).
use Rattle.std.specs.Prelude.{ℕ, ◌-◌, List, ◌++◌, length, map, replicate, nat_le, bit_xor, Bool, true, false, ◌&&◌, if◌then◌else◌, bytes_eq}
use Rattle.sha2.specs.Sha256.{sha256}
use Rattle.spec_sealing.specs.Jws.{Algorithm, Hs256, Es256}

-- a key of more than a block of 64 bytes is hashed first (section 2)
abbrev pub short_key : List ℕ → List ℕ
short_key key = if nat_le (length key) 64 then key else sha256 key

-- with zeros after it, as long as a block
abbrev pub block_key : List ℕ → List ℕ
block_key key = short_key key ++ replicate (64 - length (short_key key)) 0

-- each of its bytes with the byte of a pad added modulo 2
abbrev pub padded : ℕ → List ℕ → List ℕ
padded pad key = map (λ b. bit_xor b pad) (block_key key)

-- H (K xor opad, H (K xor ipad, text))
abbrev pub hmac : List ℕ → List ℕ → List ℕ
hmac key text = sha256 (padded 0x5C key ++ sha256 (padded 0x36 key ++ text))

-- ---- HS256 with a key for each identity (own): what the root and the identity hash to

abbrev pub identity_key : List ℕ → List ℕ → List ℕ
identity_key root identity = sha256 (root ++ identity)

-- the signature for an identity of an input
abbrev pub hs256 : List ℕ → List ℕ → List ℕ → List ℕ
hs256 root identity input = hmac (identity_key root identity) input

abbrev pub is_hs256 : Algorithm → Bool
is_hs256 Hs256 = true
is_hs256 Es256 = false

-- whether a signature by an algorithm, for an identity, of an input is this one
abbrev pub hs256_verifies : List ℕ → Algorithm → List ℕ → List ℕ → List ℕ → Bool
hs256_verifies root a identity input signature = is_hs256 a && bytes_eq signature (hs256 root identity input)
