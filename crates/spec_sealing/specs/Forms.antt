-- What it takes of a JWE that it is read as it was written.
use Rattle.std.specs.Prelude.{◌≡◌, ℕ, List, length, Some}
use Rattle.base64.specs.GeneralPurpose.{IsBytes}
use Rattle.spec_documents.specs.Tree.{Members}
use Rattle.spec_documents.specs.Base64url.{bytes_of}
use Rattle.spec_sealing.specs.Header.{header_in}
use Rattle.spec_sealing.specs.Jwe.{Jwe}

-- the text of `protected` is a header's, and that of `aad` is base64url of a block
pub record HasTexts (w : Jwe) : Type 0 where
  pub header : Members
  pub protected : header_in w.protected ≡ Some header
  pub block : List ℕ
  pub aad : bytes_of w.aad ≡ Some block

-- the other parts are bytes, 12 of the nonce and 16 of the tag, as in each value of the program
pub record HasParts (w : Jwe) : Type 0 where
  pub iv : IsBytes w.iv
  pub nonce : length w.iv ≡ 12
  pub ciphertext : IsBytes w.ciphertext
  pub tag : IsBytes w.tag
  pub count : length w.tag ≡ 16
