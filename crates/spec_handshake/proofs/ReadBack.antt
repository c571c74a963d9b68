-- The tree of a document is read to this document.
use Rattle.std.proofs.Common.{◌≡◌, ℕ, ◌≤◌, true, List, [], ◌∷◌, map, length, nat_le, Option, Some, Ok, refl, ap, ◌∙◌, arith}
use Rattle.std.proofs.lemmas.Bool.{and_parts, leb-true}
use Rattle.spec_documents.specs.Tree.{words, trees, tree_list}
use Rattle.spec_documents.specs.Ids.{is_plmn, plmn_of}
use Rattle.spec_documents.specs.Text.{is_identity}
use Rattle.spec_documents.proofs.IdLemmas.{id_of-id_text}
use Rattle.spec_messages.specs.Message.{text_if, any_text, all_read, onto_read}
use Rattle.spec_messages.specs.PolicyDocument.{list_of}
use Rattle.spec_records.specs.Records.{Suite, A128Gcm, A256Gcm}
use Rattle.spec_sealing.specs.Suites.{suite_name}
use Rattle.spec_records.specs.RecordDocument.{suite_of, are_ipx}
use Rattle.spec_handshake.specs.Documents.{Capability, Prins, Tls, Document, Supports, Chooses, Asks, Selects, Terminates, Terminated, capability_of, capability_text, known, onto_known, words_in, provider_tree, providers_in, document_of, document_tree}
use Rattle.spec_handshake.specs.Forms.{IsFormed}

capability_back : (c : Capability) → capability_of (capability_text c) ≡ Some c
capability_back Prins = refl
capability_back Tls = refl

suite_back : (s : Suite) → suite_of (suite_name s) ≡ Some s
suite_back A128Gcm = refl
suite_back A256Gcm = refl

plmn_back : (s : List ℕ) → is_plmn s ≡ true → plmn_of s ≡ Some s
plmn_back s h = rw h

-- ---- lists of words

texts_back : {A : Type 0} (text : A → List ℕ) (xs : List A) → all_read (text_if any_text) (tree_list (trees (map (λ x. words (text x)) xs))) ≡ Some (map text xs)
texts_back text [] = refl
texts_back text (x ∷ xs) = ap (onto_read (Some (text x))) (texts_back text xs)

known_back : {A : Type 0} (f : List ℕ → Option A) (text : A → List ℕ) → ((x : A) → f (text x) ≡ Some x) → (xs : List A) → known f (map text xs) ≡ xs
known_back f text back [] = refl
known_back f text back (x ∷ xs) = ap (λ o. onto_known o (known f (map text xs))) (back x) ∙ ap (λ ys. x ∷ ys) (known_back f text back xs)

words_back : {A : Type 0} (f : List ℕ → Option A) (text : A → List ℕ) → ((x : A) → f (text x) ≡ Some x) → (xs : List A) → words_in f (Some (list_of (λ x. words (text x)) xs)) ≡ Some xs
words_back f text back xs = rw (texts_back text xs) (ap Some (known_back f text back xs))

capabilities_back : (cs : List Capability) → words_in capability_of (Some (list_of (λ c. words (capability_text c)) cs)) ≡ Some cs
capabilities_back cs = words_back capability_of capability_text capability_back cs

suites_back : (ss : List Suite) → words_in suite_of (Some (list_of (λ s. words (suite_name s)) ss)) ≡ Some ss
suites_back ss = words_back suite_of suite_name suite_back ss

providers_back : (ss : List (List ℕ)) → are_ipx ss ≡ true → providers_in (Some (list_of provider_tree ss)) ≡ Some ss
providers_back [] h = refl
providers_back (s ∷ []) h = let p = and_parts (is_identity s) true h in rw p.0
providers_back (s ∷ t ∷ ss) h =
    let p = and_parts (nat_le (length (s ∷ t ∷ ss)) 1) _ h in
    let few : length (s ∷ t ∷ ss) ≤ 1 = leb-true (length (s ∷ t ∷ ss)) 1 p.0 in
    absurd (omega (arith, few))

-- ---- documents

pub document_back : (d : Document) → IsFormed d → document_of (document_tree d) ≡ Ok d
document_back (Supports call sender capabilities) h = rw (id_of-id_text call h.0, h.1, capabilities_back capabilities)
document_back (Chooses call sender capability) h = rw (id_of-id_text call h.0, capability_back capability, h.1)
document_back (Asks a) h = rw (id_of-id_text a.call h.call, providers_back a.ipx h.ipx, suites_back a.suites, id_of-id_text a.id h.id, plmn_back a.plmn h.plmn, h.policy, h.sender)
document_back (Selects b) h = rw (id_of-id_text b.call h.call, providers_back b.ipx h.ipx, id_of-id_text b.id h.id, plmn_back b.plmn h.plmn, h.policy, suite_back b.suite, h.sender)
document_back (Terminates id) h = rw (id_of-id_text id h)
document_back (Terminated id) h = rw (id_of-id_text id h)
