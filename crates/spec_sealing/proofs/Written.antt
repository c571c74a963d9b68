-- What is written is read.
use Rattle.std.proofs.Common.{◌≡◌, ℕ, ◌≤◌, List, [], length, Option, Some, None, Ok, refl, ap, ◌∙◌, codes, cond, eq-eqb, arith}
use Rattle.std.specs.Prelude.{option_and_then}
use Rattle.base64.specs.GeneralPurpose.{IsBytes}
use Rattle.json.proofs.Printed.Utf8.{IsUtf8-are_ascii}
use Rattle.spec_documents.specs.Tree.{Tree, items, trees, depth}
use Rattle.spec_documents.specs.Document.{IsDocument}
use Rattle.spec_documents.specs.Base64url.{base64url, bytes_of}
use Rattle.spec_documents.proofs.Chains.{bind_at}
use Rattle.spec_documents.proofs.Decoding.{bytes_of-base64url, document_of-reads}
use Rattle.spec_documents.proofs.FieldLemmas.{list-trees}
use Rattle.spec_documents.proofs.RoundTrip.{reads_back}
use Rattle.spec_messages.specs.Message.{wanted}
use Rattle.spec_sealing.specs.Header.{header_in}
use Rattle.spec_sealing.specs.Jwe.{Jwe, if_so_many, text_with, jwe_in, jwe_members}
use Rattle.spec_sealing.specs.Forms.{HasParts, HasTexts}
use Rattle.spec_sealing.specs.Plaintext.{values_in, values_of, values_tree, plaintext}
use Rattle.spec_sealing.specs.Received.{block_in, carrier, parts_of, received}

-- ---- one member

read-text : {X : Type 0} (read : List ℕ → Option X) (text : List ℕ) (x : X) → read text ≡ Some x → text_with read (Some text) ≡ Some text
read-text read text x e = rw e refl

counted : (n : ℕ) (bytes : List ℕ) → IsBytes bytes → length bytes ≡ n → if_so_many n (bytes_of (base64url bytes)) ≡ Some bytes
counted n bytes h e = ap (if_so_many n) (bytes_of-base64url bytes h) ∙ ap (λ b. cond b (Some bytes) None) (eq-eqb (length bytes) n e)

-- ---- the JWE

pub written-read : (w : Jwe) → HasParts w → HasTexts w → jwe_in (jwe_members w) ≡ Ok w
written-read w p h =
    bind_at _ _ w.protected (ap (λ o. wanted o (codes "protected")) (read-text header_in w.protected h.header h.protected))
    ∙ (bind_at _ _ w.aad (ap (λ o. wanted o (codes "aad")) (read-text bytes_of w.aad h.block h.aad))
    ∙ (bind_at _ _ w.iv (ap (λ o. wanted o (codes "iv")) (counted 12 w.iv p.iv p.nonce))
    ∙ (bind_at _ _ w.ciphertext (ap (λ o. wanted o (codes "ciphertext")) (bytes_of-base64url w.ciphertext p.ciphertext))
    ∙ (bind_at _ _ w.tag (ap (λ o. wanted o (codes "tag")) (counted 16 w.tag p.tag p.count))
    ∙ (bind_at _ _ tt refl
    ∙ (bind_at _ _ tt refl
    ∙ bind_at _ _ tt refl))))))

-- ---- the document

pub carried-received : (w : Jwe) (block : Tree) → HasParts w → HasTexts w → block_in w.aad ≡ Some block → received (carrier w) ≡ Ok (parts_of w block [])
carried-received w block p h e =
    bind_at _ _ _ refl
    ∙ (bind_at _ _ (jwe_members w) refl
    ∙ (bind_at _ _ w (written-read w p h)
    ∙ (bind_at _ _ block (ap (λ o. wanted o (codes "aad")) e)
    ∙ bind_at _ _ [] refl)))

-- ---- the plaintext

pub values-read : (vs : List Tree) → IsDocument (items (trees vs)) → depth (items (trees vs)) ≤ 126 → values_of (plaintext vs) ≡ Some vs
values-read vs d shallow =
    let reads = reads_back (values_tree vs) ((tt, tt), (IsUtf8-are_ascii (codes "dataToEncrypt") refl, d, tt)) (omega arith) in
    ap (option_and_then values_in) (document_of-reads (plaintext vs) (values_tree vs) reads) ∙ ap (λ z. Some z) (list-trees vs)
