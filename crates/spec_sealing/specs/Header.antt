-- The protected header of a JWE (RFC 7516, section 4): the one that is written, and what is asked of one that is read.
use Rattle.std.specs.Prelude.{ℕ, List, Bool, false, not, bytes_eq, Option, Some, None, is_some, option_and_then, codes, if◌then◌else◌}
use Rattle.spec_documents.specs.Tree.{Tree, null, truth, whole, words, items, members, Members, no_members, member, get_member}
use Rattle.spec_documents.specs.Compact.{compact_text}
use Rattle.spec_documents.specs.Base64url.{base64url, bytes_of}
use Rattle.spec_documents.specs.Reading.{document_of}
use Rattle.spec_messages.specs.Message.{text_at, any_text}
use Rattle.spec_sealing.specs.Suites.{Suite, suite_name}

-- the header that is written: direct encryption with a shared key (RFC 7518, section 4.5) under a suite
abbrev pub header_members : Suite → Members
header_members s = member (codes "alg") (words (codes "dir")) (member (codes "enc") (words (suite_name s)) no_members)

-- its compact JSON text
abbrev pub compact_header : Suite → List ℕ
compact_header s = compact_text (members (header_members s))

-- as it stands in the JWE (RFC 7516, section 5.1, step 13)
abbrev pub header_text : Suite → List ℕ
header_text s = base64url (compact_header s)

-- the members of a tree that is an object
abbrev pub object_in : Tree → Option Members
object_in null = None
object_in (truth b) = None
object_in (whole z) = None
object_in (words s) = None
object_in (items ts) = None
object_in (members ms) = Some ms

-- the members of the header whose text this is: base64url of a JSON object (RFC 7516, section 5.2, steps 2 and 3)
abbrev pub header_in : List ℕ → Option Members
header_in text = option_and_then object_in (option_and_then document_of (bytes_of text))

-- a text that is no header has no members (own)
abbrev pub members_if : Option Members → Members
members_if None = no_members
members_if (Some ms) = ms

abbrev pub is_text : Option (List ℕ) → List ℕ → Bool
is_text None s = false
is_text (Some t) s = bytes_eq t s

abbrev pub has_text : List ℕ → List ℕ → Members → Bool
has_text name s ms = is_text (text_at any_text name ms) s

-- the member by which a header isn't of this profile and suite
pub data Misfit : Type 0 where
  Alg : Misfit
  Enc : Misfit
  Zip : Misfit
  Crit : Misfit

-- the first of them (RFC 7516, section 4.1): `alg` and `enc` have their values, `zip` and `crit` are absent
abbrev pub header_misfit : Suite → Members → Option Misfit
header_misfit s ms =
    if not (has_text (codes "alg") (codes "dir") ms) then Some Alg
    else (if not (has_text (codes "enc") (suite_name s) ms) then Some Enc
    else (if is_some (get_member (codes "zip") ms) then Some Zip
    else (if is_some (get_member (codes "crit") ms) then Some Crit
    else None)))
