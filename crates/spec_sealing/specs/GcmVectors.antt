-- Published examples, computed by the definitions.
use Rattle.std.specs.Prelude.{◌≡◌, ℕ, ◌^◌, List, [], refl, replicate}
use Rattle.std.specs.Int.{to_be_bytes, w128}
use Rattle.spec_sealing.specs.AesField.{inverse, polynomial_product, remainder, substitution, x_power}
use Rattle.spec_sealing.specs.AesField.{product as byte_product}
use Rattle.spec_sealing.specs.Aes.{aes, encrypted, list_of, rounds, schedule}
use Rattle.spec_sealing.specs.GcmField.{ghash, power, product, product_below, times_power}
use Rattle.spec_sealing.specs.Gcm.{block_at, blocks, counter_block, tag_of}

-- H of the key of zeros
abbrev hash_key : ℕ
hash_key = 0x66e94bd4ef8a2c3b884cfa59ca342b2e

pub times_one : product (2 ^ 127) hash_key ≡ hash_key
unfolding times_power product_below product
times_one = refl

pub times_u : product (2 ^ 126) hash_key ≡ 0x3374a5ea77c5161dc4267d2ce51a1597
unfolding times_power product_below product
times_u = refl

-- the key, the nonce and the plaintext are zeros: no byte, and sixteen of them
abbrev zeros_cipher : List ℕ → List ℕ
zeros_cipher = aes 4 (replicate 16 0)

pub tag_of_nothing : tag_of zeros_cipher (replicate 12 0) [] [] ≡ to_be_bytes w128 0x58e2fccefa7e3061367f1d57a4e7455a
unfolding list_of rounds encrypted schedule aes x_power polynomial_product remainder byte_product inverse substitution times_power product_below product power ghash block_at blocks counter_block tag_of
tag_of_nothing = refl

abbrev sealed_zeros : List ℕ
sealed_zeros = to_be_bytes w128 0x0388dace60b6a392f328c2b971b2fe78

-- the key stream's first block, as which sixteen zeros are sealed
pub key_stream_of_zeros : zeros_cipher (counter_block (replicate 12 0) 2) ≡ sealed_zeros
unfolding list_of rounds encrypted schedule aes x_power polynomial_product remainder byte_product inverse substitution counter_block
key_stream_of_zeros = refl

pub tag_of_zeros : tag_of zeros_cipher (replicate 12 0) [] sealed_zeros ≡ to_be_bytes w128 0xab6e47d42cec13bdf53a67b21257bddf
unfolding list_of rounds encrypted schedule aes x_power polynomial_product remainder byte_product inverse substitution times_power product_below product power ghash block_at blocks counter_block tag_of
tag_of_zeros = refl
