-- What was sealed opens.
use Rattle.std.proofs.Common.{◌≡◌, ℕ, List, true, Some, None, refl, ap, ◌∙◌, cond}
use Rattle.std.specs.Prelude.{bytes_eq}
use Rattle.std.proofs.lemmas.Slice.Eq.{bytes_eq-Decides}
use Rattle.base64.specs.GeneralPurpose.{IsBytes}
use Rattle.spec_documents.proofs.Decoding.{bytes_of-base64url}
use Rattle.spec_sealing.specs.Gcm.{tag_of, with_key_stream}
use Rattle.spec_sealing.specs.Suites.{ContentKey, suite_of, content_cipher}
use Rattle.spec_sealing.specs.Header.{header_members}
use Rattle.spec_sealing.specs.Jwe.{Jwe, additional_data, misfit, opened, sealed}
use Rattle.spec_sealing.specs.Forms.{HasTexts}
use Rattle.spec_sealing.proofs.KeyStream.{with_key_stream-with_key_stream}
use Rattle.spec_sealing.proofs.Headers.{written_header, written_fits}

pub sealed-allowed : (key : ContentKey) (nonce block values : List ℕ) → misfit key (sealed key nonce block values) ≡ None
sealed-allowed key nonce block values = written_fits (suite_of key)

pub sealed-opens : (key : ContentKey) (nonce block values : List ℕ) → opened key (sealed key nonce block values) ≡ Some values
sealed-opens key nonce block values =
    let w : Jwe = sealed key nonce block values in
    let same : bytes_eq w.tag (tag_of (content_cipher key) w.iv (additional_data w) w.ciphertext) ≡ true = (bytes_eq-Decides w.tag w.tag).1 refl in
    ap (λ b. cond b (Some (with_key_stream (content_cipher key) w.iv w.ciphertext)) None) same
    ∙ ap (λ z. Some z) (with_key_stream-with_key_stream (content_cipher key) nonce values)

pub sealed-texts : (key : ContentKey) (nonce block values : List ℕ) → IsBytes block → HasTexts (sealed key nonce block values)
sealed-texts key nonce block values bytes = record {
  header = header_members (suite_of key);
  protected = written_header (suite_of key);
  block = block;
  aad = bytes_of-base64url block bytes;
}
