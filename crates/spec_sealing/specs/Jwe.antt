-- The flattened JWE (RFC 7516, section 7.2.2) in this project's profile, with `dir`, no unprotected header, and all else of a JWE protected: reading, writing, sealing and opening it.
use Rattle.std.specs.Prelude.{ℕ, List, [], ◌∷◌, ◌++◌, length, not, ◌||◌, ◌==◌, Bool, Option, Some, None, is_none, option_and_then, Result, Ok, if◌then◌else◌, bytes_eq, codes}
use Rattle.spec_documents.specs.Tree.{Tree, words, Members, members, get_member, object}
use Rattle.spec_documents.specs.Chain.{◌>>=◌, unless, none_of}
use Rattle.spec_documents.specs.Base64url.{base64url, bytes_of}
use Rattle.spec_messages.specs.Message.{text_at, any_text, wanted}
use Rattle.spec_sealing.specs.Gcm.{tag_of, with_key_stream}
use Rattle.spec_sealing.specs.Suites.{ContentKey, suite_of, content_cipher}
use Rattle.spec_sealing.specs.Header.{Misfit, header_text, header_in, header_misfit, has_text, members_if}

-- the texts of the header and of the block as they stand, and the bytes of the other parts
pub record Jwe : Type 0 where
  pub protected : List ℕ
  pub aad : List ℕ
  pub iv : List ℕ
  pub ciphertext : List ℕ
  pub tag : List ℕ

-- ---- reading

abbrev pub bytes_at : List ℕ → Members → Option (List ℕ)
bytes_at name ms = option_and_then bytes_of (text_at any_text name ms)

abbrev pub if_so_many : ℕ → Option (List ℕ) → Option (List ℕ)
if_so_many n None = None
if_so_many n (Some bytes) = if length bytes == n then Some bytes else None

-- a text, where there is what is read of it
abbrev pub text_with : {X : Type 0} → (List ℕ → Option X) → Option (List ℕ) → Option (List ℕ)
text_with read None = None
text_with read (Some text) = if is_none (read text) then None else Some text

-- the key is the shared one, so that none is enclosed (RFC 7518, section 4.5)
abbrev pub has_no_key : Members → Bool
has_no_key ms = is_none (get_member (codes "encrypted_key") ms) || has_text (codes "encrypted_key") [] ms

-- the JWE of an object, or the first member that has not its form
abbrev pub jwe_in : Members → Result Jwe (List ℕ)
jwe_in ms = do
  protected ← wanted (text_with header_in (text_at any_text (codes "protected") ms)) (codes "protected")
  aad ← wanted (text_with bytes_of (text_at any_text (codes "aad") ms)) (codes "aad")
  iv ← wanted (if_so_many 12 (bytes_at (codes "iv") ms)) (codes "iv")
  ciphertext ← wanted (bytes_at (codes "ciphertext") ms) (codes "ciphertext")
  tag ← wanted (if_so_many 16 (bytes_at (codes "tag") ms)) (codes "tag")
  _ ← unless (not (has_no_key ms)) (codes "encrypted_key")
  _ ← unless (not (is_none (get_member (codes "unprotected") ms))) (codes "unprotected")
  _ ← unless (not (is_none (get_member (codes "header") ms))) (codes "header")
  Ok (record { protected = protected; aad = aad; iv = iv; ciphertext = ciphertext; tag = tag })

-- ---- writing

-- the members of the document that is written
abbrev pub jwe_members : Jwe → Members
jwe_members w = object (
    (codes "aad", words w.aad)
    ∷ (codes "ciphertext", words (base64url w.ciphertext))
    ∷ (codes "iv", words (base64url w.iv))
    ∷ (codes "protected", words w.protected)
    ∷ (codes "tag", words (base64url w.tag)) ∷ [])

abbrev pub jwe_tree : Jwe → Tree
jwe_tree w = members (jwe_members w)

-- ---- the additional data

-- what comes before the `aad` text in it
abbrev pub before_aad : List ℕ → List ℕ
before_aad protected = protected ++ 46 ∷ []

-- the header's text as it stands, a full stop, and the `aad` text as it stands (RFC 7516, section 5.1, step 14)
abbrev pub additional_data : Jwe → List ℕ
additional_data w = before_aad w.protected ++ w.aad

-- ---- opening (RFC 7516, section 5.2; RFC 7518, sections 4.5 and 5.3)

-- the first member by which the header isn't `dir` under the key's suite
abbrev pub misfit : ContentKey → Jwe → Option Misfit
misfit key w = header_misfit (suite_of key) (members_if (header_in w.protected))

-- the plaintext, where the tag recomputes equal (steps 15 and 16)
abbrev pub opened : ContentKey → Jwe → Option (List ℕ)
opened key w =
    if bytes_eq w.tag (tag_of (content_cipher key) w.iv (additional_data w) w.ciphertext)
    then Some (with_key_stream (content_cipher key) w.iv w.ciphertext) else None

-- why a JWE isn't opened
pub data Shut : Type 0 where
  Cipher : (why : Misfit) → Shut
  Integrity : Shut

-- the plaintext, or the first reason against it
abbrev pub opens : ContentKey → Jwe → Result (List ℕ) Shut
opens key w = do
  _ ← none_of Cipher (misfit key w)
  wanted (opened key w) Integrity

-- ---- sealing (RFC 7516, section 5.1)

-- the JWE whose `aad` is a block and whose plaintext is a text of values
abbrev pub sealed : ContentKey → List ℕ → List ℕ → List ℕ → Jwe
sealed key iv block plain =
    let protected = header_text (suite_of key) in
    let aad = base64url block in
    let ciphertext = with_key_stream (content_cipher key) iv plain in
    record { protected = protected; aad = aad; iv = iv; ciphertext = ciphertext; tag = tag_of (content_cipher key) iv (before_aad protected ++ aad) ciphertext }
