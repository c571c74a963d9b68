-- The flattened JWS (RFC 7515, section 7.2.2) of an intermediary's entry: reading and writing one, and what is signed. Its payload is a JSON object (own).
use Rattle.std.specs.Prelude.{ℕ, List, [], ◌∷◌, ◌++◌, Option, Some, None, is_some, option_and_then, Result, Ok, if◌then◌else◌, bytes_eq, codes}
use Rattle.spec_documents.specs.Tree.{Tree, words, Members, members, get_member, object}
use Rattle.spec_documents.specs.Chain.{◌>>=◌}
use Rattle.spec_documents.specs.Compact.{compact_text}
use Rattle.spec_documents.specs.Base64url.{base64url}
use Rattle.spec_messages.specs.Message.{text_at, any_text, wanted}
use Rattle.spec_sealing.specs.Header.{object_in, header_in}
use Rattle.spec_sealing.specs.Jwe.{bytes_at, text_with}

-- the algorithm of a signature (RFC 7518, section 3.1)
pub data Algorithm : Type 0 where
  Hs256 : Algorithm
  Es256 : Algorithm

-- the texts of the header and of the payload as they stand, what the header says, and the signature's bytes
pub record Jws : Type 0 where
  pub protected : List ℕ
  pub payload : List ℕ
  pub algorithm : Algorithm
  pub signature : List ℕ

-- the value of `alg` that names an algorithm
abbrev pub algorithm_name : Algorithm → List ℕ
algorithm_name Hs256 = codes "HS256"
algorithm_name Es256 = codes "ES256"

-- ---- reading

abbrev pub algorithm_named : List ℕ → Option Algorithm
algorithm_named name =
    if bytes_eq name (codes "HS256") then Some Hs256
    else (if bytes_eq name (codes "ES256") then Some Es256 else None)

-- the algorithm of a header. One with `crit` is not understood (RFC 7515, section 4.1.11)
abbrev pub algorithm_in : Members → Option Algorithm
algorithm_in ms =
    if is_some (get_member (codes "crit") ms) then None
    else option_and_then algorithm_named (text_at any_text (codes "alg") ms)

-- the algorithm that the text of `protected` names
abbrev pub algorithm_of : List ℕ → Option Algorithm
algorithm_of protected = option_and_then algorithm_in (header_in protected)

-- the members of the object whose base64url text a payload is
abbrev pub payload_in : List ℕ → Option Members
payload_in text = header_in text

-- the JWS that a tree is, or the first member that has not its form
abbrev pub jws_in : Tree → Result Jws (List ℕ)
jws_in t = do
  ms ← wanted (object_in t) (codes "entry")
  protected ← wanted (text_at any_text (codes "protected") ms) (codes "protected")
  algorithm ← wanted (algorithm_of protected) (codes "protected")
  payload ← wanted (text_with payload_in (text_at any_text (codes "payload") ms)) (codes "payload")
  signature ← wanted (bytes_at (codes "signature") ms) (codes "signature")
  Ok (record { protected = protected; payload = payload; algorithm = algorithm; signature = signature })

-- ---- signing

-- the header's text as it stands, a full stop, and the payload's text as it stands (RFC 7515, section 5.1, step 5)
abbrev pub signing_input : List ℕ → List ℕ → List ℕ
signing_input protected payload = protected ++ codes "." ++ payload

-- ---- writing

-- the header that names an algorithm and nothing else
abbrev pub signed_header : Algorithm → List ℕ
signed_header a = base64url (compact_text (members (object ((codes "alg", words (algorithm_name a)) ∷ []))))

abbrev pub jws_members : List ℕ → List ℕ → List ℕ → Members
jws_members protected payload signature = object (
    (codes "payload", words payload)
    ∷ (codes "protected", words protected)
    ∷ (codes "signature", words (base64url signature)) ∷ [])
