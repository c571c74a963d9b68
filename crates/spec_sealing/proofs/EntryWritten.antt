-- An entry that is written is read.
use Rattle.std.proofs.Common.{◌≡◌, ℕ, ◌≤◌, List, [], ◌∷◌, true, Option, Some, None, Ok, refl, ap, ◌∙◌, codes, cond, arith}
use Rattle.std.specs.Prelude.{option_and_then}
use Rattle.base64.specs.GeneralPurpose.{IsBytes}
use Rattle.json.specs.Print.{escape_byte}
use Rattle.json.proofs.Printed.Utf8.{are_ascii, IsUtf8-are_ascii}
use Rattle.spec_documents.specs.Tree.{Tree, Members, words, members, object, depth}
use Rattle.spec_documents.specs.Compact.{compact_text}
use Rattle.spec_documents.specs.Document.{IsDocument}
use Rattle.spec_documents.specs.Base64url.{base64url}
use Rattle.spec_documents.specs.Reading.{document_of}
use Rattle.spec_documents.specs.Text.{is_identity}
use Rattle.spec_documents.proofs.Chains.{bind_at}
use Rattle.spec_documents.proofs.Decoding.{bytes_of-base64url, document_of-reads}
use Rattle.spec_documents.proofs.RoundTrip.{reads_back}
use Rattle.spec_messages.specs.Message.{wanted}
use Rattle.spec_sealing.specs.Header.{object_in, header_in}
use Rattle.spec_sealing.specs.Jwe.{text_with}
use Rattle.spec_sealing.specs.Jws.{Algorithm, Hs256, Es256, algorithm_name, algorithm_in, algorithm_of, payload_in, jws_in, jws_members, signed_header}
use Rattle.spec_sealing.specs.Entries.{payload_members, entry_payload, entry_of, entry_in, entry_tree, CanBeRead, written_entry}
use Rattle.spec_sealing.proofs.Headers.{ascii_bytes}

-- ---- the text of an object

object-read : (ms : Members) → IsBytes (compact_text (members ms)) → IsDocument (members ms) → depth (members ms) ≤ 127 → header_in (base64url (compact_text (members ms))) ≡ Some ms
object-read ms bytes document shallow =
    ap (λ o. option_and_then object_in (option_and_then document_of o)) (bytes_of-base64url (compact_text (members ms)) bytes)
    ∙ ap (option_and_then object_in) (document_of-reads (compact_text (members ms)) (members ms) (reads_back (members ms) document shallow))

-- ---- the header

abbrev header_of : Algorithm → Members
header_of a = object ((codes "alg", words (algorithm_name a)) ∷ [])

header_is_ascii : (a : Algorithm) → are_ascii (compact_text (members (header_of a))) ≡ true
unfolding escape_byte
header_is_ascii Hs256 = refl
header_is_ascii Es256 = refl

header_is_document : (a : Algorithm) → IsDocument (members (header_of a))
header_is_document Hs256 = ((tt, tt), (IsUtf8-are_ascii (codes "alg") refl, IsUtf8-are_ascii (codes "HS256") refl, tt))
header_is_document Es256 = ((tt, tt), (IsUtf8-are_ascii (codes "alg") refl, IsUtf8-are_ascii (codes "ES256") refl, tt))

names : (a : Algorithm) → algorithm_in (header_of a) ≡ Some a
names Hs256 = refl
names Es256 = refl

header-read : (a : Algorithm) → algorithm_of (signed_header a) ≡ Some a
header-read a =
    ap (option_and_then algorithm_in) (object-read (header_of a) (ascii_bytes (compact_text (members (header_of a))) (header_is_ascii a)) (header_is_document a) (omega arith))
    ∙ names a

-- ---- the payload

module _ (identity : List ℕ) (operations : Tree) (tag signature : List ℕ) (ops : Option Tree) (can : CanBeRead identity operations tag signature ops) where
  payload-read : payload_in (entry_payload identity operations tag) ≡ Some (payload_members identity operations tag)
  payload-read = object-read (payload_members identity operations tag) can.payload_bytes
      (((refl, (refl, tt)), ((refl, tt), (tt, tt))), (IsUtf8-are_ascii (codes "identity") refl, can.identity_text, (IsUtf8-are_ascii (codes "operations") refl, can.document, (IsUtf8-are_ascii (codes "tag") refl, can.tag_text, tt))))
      (omega (arith, can.shallow))

  identity-read : cond (is_identity identity) (Some identity) None ≡ Some identity
  identity-read = ap (λ b. cond b (Some identity) None) can.is_one

  pub entry-read : entry_of (entry_payload identity operations tag) ≡ Ok (record { identity = identity; operations = ops; tag = tag })
  entry-read =
      bind_at _ _ (payload_members identity operations tag) (ap (λ o. wanted o (codes "payload")) payload-read)
      ∙ (bind_at _ _ identity (ap (λ o. wanted o (codes "identity")) identity-read)
      ∙ (bind_at _ _ ops (ap (λ o. wanted o (codes "operations")) can.form)
      ∙ bind_at _ _ tag refl))

  payload-stands : text_with payload_in (Some (entry_payload identity operations tag)) ≡ Some (entry_payload identity operations tag)
  payload-stands = rw payload-read refl

  pub jws-read : (a : Algorithm) → jws_in (entry_tree a identity operations tag signature) ≡ Ok ((written_entry a identity operations tag signature ops).jws)
  jws-read a =
      bind_at _ _ (jws_members (signed_header a) (entry_payload identity operations tag) signature) refl
      ∙ (bind_at _ _ (signed_header a) refl
      ∙ (bind_at _ _ a (ap (λ o. wanted o (codes "protected")) (header-read a))
      ∙ (bind_at _ _ (entry_payload identity operations tag) (ap (λ o. wanted o (codes "payload")) payload-stands)
      ∙ bind_at _ _ signature (ap (λ o. wanted o (codes "signature")) (bytes_of-base64url signature can.signature_bytes)))))

  pub written-entry-read : (a : Algorithm) → entry_in (entry_tree a identity operations tag signature) ≡ Ok (written_entry a identity operations tag signature ops)
  written-entry-read a = bind_at _ _ ((written_entry a identity operations tag signature ops).jws) (jws-read a) ∙ bind_at _ _ ((written_entry a identity operations tag signature ops).entry) entry-read
