-- What values of the program are in the words of the definitions.
use Rattle.std.specs.Prelude.{ℕ, List, Option, Some, None, codes}
use Rattle.spec_sealing.specs.Suites as suites
use Rattle.spec_sealing.specs.Header as headers
use Rattle.spec_sealing.specs.Jwe as jwes
use Rattle.jwe_flat.specs.declared.jwe.FlatJwe.{FlatJwe}
use Rattle.jwe_flat.specs.declared.key.Suite.{Suite}
use Rattle.jwe_flat.specs.declared.key.Suite.TheVariants.{A128Gcm, A256Gcm}
use Rattle.jwe_flat.specs.declared.key.ContentKey.{ContentKey}
use Rattle.jwe_flat.specs.declared.key.ContentKey.TheVariants.{Aes128, Aes256}
use Rattle.jwe_flat.specs.declared.read.JweMember.{JweMember}
use Rattle.jwe_flat.specs.declared.read.JweMember.TheVariants.{Protected, Aad, Iv, Ciphertext, Tag, EncryptedKey, Unprotected, Header, Whole}
use Rattle.jwe_flat.specs.declared.read.JweRead.{JweRead}
use Rattle.jwe_flat.specs.declared.read.JweRead.TheVariants as reading
use Rattle.jwe_flat.specs.declared.opening.CipherWhy.{CipherWhy}
use Rattle.jwe_flat.specs.declared.opening.CipherWhy.TheVariants.{Alg, Enc, Zip, Crit}
use Rattle.jwe_flat.specs.declared.opening.JweOpen.{JweOpen}
use Rattle.jwe_flat.specs.declared.opening.JweOpen.TheVariants as opening

abbrev pub suite_view : Suite → suites.Suite
suite_view A128Gcm = suites.A128Gcm
suite_view A256Gcm = suites.A256Gcm

abbrev pub content_key_view : ContentKey → suites.ContentKey
content_key_view (Aes128 key) = suites.Aes128 key
content_key_view (Aes256 key) = suites.Aes256 key

abbrev pub jwe_view : FlatJwe → jwes.Jwe
jwe_view w = record { protected = w.protected; aad = w.aad; iv = w.iv; ciphertext = w.ciphertext; tag = w.tag }

-- ---- refusals

abbrev pub misfit_view : CipherWhy → headers.Misfit
misfit_view Alg = headers.Alg
misfit_view Enc = headers.Enc
misfit_view Zip = headers.Zip
misfit_view Crit = headers.Crit

-- why a JWE isn't opened, as an error tells it
abbrev pub shut_told : JweOpen → Option jwes.Shut
shut_told (opening.Cipher why) = Some (jwes.Cipher (misfit_view why))
shut_told opening.Integrity = Some jwes.Integrity
shut_told opening.NoMemory = None

-- the name of a member. The whole is told as the member that it is of a reformatted document
abbrev pub member_name : JweMember → List ℕ
member_name Protected = codes "protected"
member_name Aad = codes "aad"
member_name Iv = codes "iv"
member_name Ciphertext = codes "ciphertext"
member_name Tag = codes "tag"
member_name EncryptedKey = codes "encrypted_key"
member_name Unprotected = codes "unprotected"
member_name Header = codes "header"
member_name Whole = codes "reformattedData"

-- the member that an error tells
abbrev pub member_told : JweRead → Option (List ℕ)
member_told (reading.Form member) = Some (member_name member)
member_told reading.NoMemory = None
