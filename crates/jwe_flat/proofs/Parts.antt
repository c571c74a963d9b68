-- What the calls of GCM say, over the parts of a JWE.
use Rattle.std.proofs.Common.{◌≡◌, ◌≢◌, ℕ, List, ◌++◌, Bool, true, false, Some, None, Ok, Err, refl, sym, ap, ◌∙◌, cond}
use Rattle.std.specs.Prelude.{bytes_eq}
use Rattle.std.proofs.lemmas.Slice.Eq.{bytes_eq-Decides}
use Rattle.spec_documents.specs.Base64url.{base64url}
use Rattle.spec_documents.specs.Chain.{◌>>=◌}
use Rattle.spec_sealing.specs.Gcm.{Seals, Opens, tag_of, with_key_stream}
use Rattle.spec_sealing.specs.Suites.{ContentKey, suite_of, content_cipher}
use Rattle.spec_sealing.specs.Header.{header_text}
use Rattle.spec_sealing.specs.Jwe.{Jwe, Integrity, before_aad, additional_data, misfit, opened, opens, sealed}

module _ (key : ContentKey) (w : Jwe) (head tail : List ℕ) (is_head : head ≡ before_aad w.protected) (is_tail : tail ≡ w.aad) (fits : misfit key w ≡ None) where
  all : head ++ tail ≡ additional_data w
  all i = is_head i ++ is_tail i

  pub opened_parts : (old new : List ℕ) → old ≡ w.ciphertext → Opens (content_cipher key) w.iv (head ++ tail) old w.tag new → opens key w ≡ Ok new
  unfolding ◌>>=◌
  opened_parts old new is_old h =
      let tag : w.tag ≡ tag_of (content_cipher key) w.iv (additional_data w) w.ciphertext = h.tag ∙ (λ i. tag_of (content_cipher key) w.iv (all i) (is_old i)) in
      let same : bytes_eq w.tag (tag_of (content_cipher key) w.iv (additional_data w) w.ciphertext) ≡ true = (bytes_eq-Decides w.tag (tag_of (content_cipher key) w.iv (additional_data w) w.ciphertext)).1 tag in
      let text : opened key w ≡ Some new =
      ap (λ b. cond b (Some (with_key_stream (content_cipher key) w.iv w.ciphertext)) None) same ∙ ap (λ t. Some t) (sym (h.text ∙ ap (with_key_stream (content_cipher key) w.iv) is_old)) in
      rw (fits, text) refl
