-- The summary of `exercise N` over its answers (this project's own; SHA-256: FIPS 180-4).
use Rattle.std.specs.Prelude.{ℕ, Bool, false, is_some, List, [], ◌∷◌, ◌++◌, length, count_by, flat_map, Option, Some, None, codes}
use Rattle.std.specs.Fmt.{decimal}
use Rattle.hex.specs.Hex.{encode_lower}
use Rattle.sha2.specs.Sha256.{sha256}
use Rattle.spec_documents.specs.Tree.{Tree, null, truth, whole, words, items, members, get_member}
use Rattle.spec_documents.specs.Reading.{document_of}

-- it is an object with a member of this name
abbrev pub has_member : List ℕ → Option Tree → Bool
has_member name None = false
has_member name (Some null) = false
has_member name (Some (truth b)) = false
has_member name (Some (whole z)) = false
has_member name (Some (words s)) = false
has_member name (Some (items ts)) = false
has_member name (Some (members ms)) = is_some (get_member name ms)

-- the answer of this text has a member of this name
abbrev pub answer_has : List ℕ → List ℕ → Bool
answer_has name answer = has_member name (document_of answer)

-- each answer with its newline
abbrev pub answer_lines : List (List ℕ) → List ℕ
answer_lines answers = flat_map (λ answer. answer ++ 10 ∷ []) answers

-- a line of a name and a value, with its newline
abbrev pub named : List ℕ → List ℕ → List ℕ
named name value = name ++ 32 ∷ (value ++ 10 ∷ [])

abbrev pub counted : List ℕ → ℕ → List ℕ
counted name count = named name (decimal count)

-- the five lines, with the digest in hexadecimal digits
abbrev pub five_lines : (messages answers delivered refused : ℕ) → List ℕ → List ℕ
five_lines messages answers delivered refused digest =
    counted (codes "messages") messages
    ++ (counted (codes "answers") answers
    ++ (counted (codes "delivered") delivered
    ++ (counted (codes "refused") refused
    ++ named (codes "sha256") digest)))

-- the summary for so many messages and the texts of these answers
abbrev pub summary_text : ℕ → List (List ℕ) → List ℕ
summary_text messages answers = five_lines messages
    (length answers)
    (count_by (answer_has (codes "delivered")) answers)
    (count_by (answer_has (codes "refused")) answers)
    (encode_lower (sha256 (answer_lines answers)))
