-- The header that is written is read to its members.
use Rattle.std.proofs.Common.{◌≡◌, ℕ, zero, suc, ◌<◌, List, [], ◌∷◌, true, Some, None, codes, IsUtf8, refl, ap, ◌∙◌, arith, ltb-true}
use Rattle.std.specs.Prelude.{option_and_then}
use Rattle.std.proofs.lemmas.Bool.{and_parts}
use Rattle.base64.specs.GeneralPurpose.{IsBytes}
use Rattle.json.specs.Print.{escape_byte}
use Rattle.json.proofs.Printed.Utf8.{are_ascii, IsUtf8-are_ascii}
use Rattle.spec_documents.specs.Tree.{members}
use Rattle.spec_documents.specs.Document.{IsDocument}
use Rattle.spec_documents.specs.Reading.{document_of}
use Rattle.spec_documents.proofs.RoundTrip.{reads_back}
use Rattle.spec_documents.proofs.Decoding.{bytes_of-base64url, document_of-reads}
use Rattle.spec_sealing.specs.Suites.{Suite, A128Gcm, A256Gcm}
use Rattle.spec_sealing.specs.Header.{header_members, compact_header, header_text, header_in, header_misfit, object_in, members_if}

pub ascii_bytes : (xs : List ℕ) → are_ascii xs ≡ true → IsBytes xs
ascii_bytes [] e i = omega arith
ascii_bytes (x ∷ xs) e zero = let small : x < 128 = ltb-true _ _ (and_parts _ _ e).0 in omega arith
ascii_bytes (x ∷ xs) e (suc i) = ascii_bytes xs (and_parts _ _ e).1 i

written_is_ascii : (s : Suite) → are_ascii (compact_header s) ≡ true
unfolding escape_byte
written_is_ascii A128Gcm = refl
written_is_ascii A256Gcm = refl

ascii_text : (xs : List ℕ) → are_ascii xs ≡ true → IsUtf8 xs
ascii_text = IsUtf8-are_ascii

written_is_document : (s : Suite) → IsDocument (members (header_members s))
written_is_document A128Gcm = (((refl, tt), (tt, tt)), (ascii_text (codes "alg") refl, ascii_text (codes "dir") refl, (ascii_text (codes "enc") refl, ascii_text (codes "A128GCM") refl, tt)))
written_is_document A256Gcm = (((refl, tt), (tt, tt)), (ascii_text (codes "alg") refl, ascii_text (codes "dir") refl, (ascii_text (codes "enc") refl, ascii_text (codes "A256GCM") refl, tt)))

pub written_header : (s : Suite) → header_in (header_text s) ≡ Some (header_members s)
written_header s =
    ap (λ o. option_and_then object_in (option_and_then document_of o)) (bytes_of-base64url (compact_header s) (ascii_bytes (compact_header s) (written_is_ascii s)))
    ∙ ap (option_and_then object_in) (document_of-reads (compact_header s) (members (header_members s)) (reads_back (members (header_members s)) (written_is_document s) (omega arith)))

fits : (s : Suite) → header_misfit s (header_members s) ≡ None
fits A128Gcm = refl
fits A256Gcm = refl

pub written_fits : (s : Suite) → header_misfit s (members_if (header_in (header_text s))) ≡ None
written_fits s = ap (λ o. header_misfit s (members_if o)) (written_header s) ∙ fits s
