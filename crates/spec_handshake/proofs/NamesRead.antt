-- What is read of a document has its names in their grammar.
use Rattle.std.proofs.Common.{◌≡◌, ℕ, ◌≤◌, Bool, true, false, List, [], ◌∷◌, length, nat_le, Option, Some, None, Result, Ok, Err, refl, subst, cond, ap, arith}
use Rattle.std.specs.Prelude.{bytes_eq, codes}
use Rattle.std.specs.Option.{option_and_then}
use Rattle.std.proofs.lemmas.Bool.{and_from, leb-true}
use Rattle.spec_documents.specs.Tree.{Tree, null, truth, whole, words, items, members, Members, get_member, items_in}
use Rattle.spec_documents.specs.Ids.{plmn_of}
use Rattle.spec_documents.specs.Text.{is_identity, is_node_name}
use Rattle.spec_documents.proofs.TreeLemmas.{bind_ok}
use Rattle.spec_messages.specs.Message.{wanted, text_in, text_if, any_text, onto_read, all_read}
use Rattle.spec_messages.specs.PolicyDocument.{chosen}
use Rattle.spec_sealing.specs.Header.{object_in}
use Rattle.spec_records.specs.RecordDocument.{suite_of, policy_in, are_ipx}
use Rattle.spec_handshake.specs.Documents.{Document, Supports, Chooses, Asks, Selects, Terminates, Terminated, Content, Request, Response, capability_of, words_in, provider_of, providers, providers_in, read_at, id_in, sender_in, content_of, capability_document, parameters_document, termination_document, termination_of, called, document_with, document_of}
use Rattle.spec_handshake.specs.Forms.{IsNamed}

got : {A : Type 0} (o : Option A) (k : List ℕ) (x : A) → wanted o k ≡ Ok x → o ≡ Some x
got None k x e = cc
got (Some y) k x e = let same : y ≡ x = cc in ap Some same

text_passes : (test : List ℕ → Bool) (t : Tree) (s : List ℕ) → text_if test t ≡ Some s → test s ≡ true
text_passes test null s e = cc
text_passes test (truth b) s e = cc
text_passes test (whole z) s e = cc
text_passes test (words r) s e = by (test r) refl e
  where
    by : (b : Bool) → test r ≡ b → cond b (Some r) None ≡ Some s → test s ≡ true
    by true is h = let same : r ≡ s = cc in subst (λ z. test z ≡ true) same is
    by false is h = cc
text_passes test (items ts) s e = cc
text_passes test (members ms) s e = cc

text_there : (test : List ℕ → Bool) (o : Option Tree) (s : List ℕ) → text_in test o ≡ Some s → test s ≡ true
text_there test None s e = cc
text_there test (Some t) s e = text_passes test t s e

sender_named : (ms : Members) (s : List ℕ) → read_at sender_in (codes "sender") ms ≡ Ok s → is_node_name s ≡ true
sender_named ms s e = text_there is_node_name (get_member (codes "sender") ms) s (got (sender_in (get_member (codes "sender") ms)) (codes "sender") s e)

provider_named : (t : Tree) (s : List ℕ) → provider_of t ≡ Some s → is_identity s ≡ true
provider_named t s e = by (object_in t) e
  where
    by : (o : Option Members) → option_and_then (λ ms. text_in is_identity (get_member (codes "ipxProviderId") ms)) o ≡ Some s → is_identity s ≡ true
    by None h = cc
    by (Some ms) h = text_there is_identity (get_member (codes "ipxProviderId") ms) s h

few_named : (ts : List Tree) (ss : List (List ℕ)) → all_read provider_of ts ≡ Some ss → length ts ≤ 1 → are_ipx ss ≡ true
few_named [] ss e few = let same : [] ≡ ss = cc in subst (λ z. are_ipx z ≡ true) same refl
few_named (t ∷ []) ss e few = by (provider_of t) refl e
  where
    by : (o : Option (List ℕ)) → provider_of t ≡ o → onto_read o (Some []) ≡ Some ss → are_ipx ss ≡ true
    by None is h = cc
    by (Some s) is h = let same : s ∷ [] ≡ ss = cc in subst (λ z. are_ipx z ≡ true) same (and_from (is_identity s) true (provider_named t s is) refl)
few_named (t ∷ u ∷ ts) ss e few = absurd (omega (arith, few))

list_named : (ts : List Tree) (ss : List (List ℕ)) → providers ts ≡ Some ss → are_ipx ss ≡ true
list_named ts ss e = by (nat_le (length ts) 1) refl e
  where
    by : (b : Bool) → nat_le (length ts) 1 ≡ b → cond b (all_read provider_of ts) None ≡ Some ss → are_ipx ss ≡ true
    by true is h = few_named ts ss h (leb-true (length ts) 1 is)
    by false is h = cc

providers_named : (ms : Members) (ss : List (List ℕ)) → read_at providers_in (codes "ipxProviderSecInfoList") ms ≡ Ok ss → are_ipx ss ≡ true
providers_named ms ss e = by (items_in (get_member (codes "ipxProviderSecInfoList") ms)) (got (providers_in (get_member (codes "ipxProviderSecInfoList") ms)) (codes "ipxProviderSecInfoList") ss e)
  where
    by : (o : Option (List Tree)) → option_and_then providers o ≡ Some ss → are_ipx ss ≡ true
    by None h = cc
    by (Some ts) h = list_named ts ss h

-- ---- documents

capability_named : (call : ℕ) (content : Content) (d : Document) → capability_document call content ≡ Ok d → IsNamed d
capability_named call (Request ms) d e =
    let a = bind_ok (read_at sender_in (codes "sender") ms) _ d e in
    let b = bind_ok (read_at (words_in capability_of) (codes "supportedSecCapabilityList") ms) _ d a.2 in
    let same : Supports call a.0 b.0 ≡ d = cc in
    subst IsNamed same (sender_named ms a.0 a.1)
capability_named call (Response ms) d e =
    let a = bind_ok (read_at (chosen capability_of) (codes "selectedSecCapability") ms) _ d e in
    let b = bind_ok (read_at sender_in (codes "sender") ms) _ d a.2 in
    let same : Chooses call b.0 a.0 ≡ d = cc in
    subst IsNamed same (sender_named ms b.0 b.1)

parameters_named : (call : ℕ) (content : Content) (d : Document) → parameters_document call content ≡ Ok d → IsNamed d
parameters_named call (Request ms) d e =
    let i = bind_ok (read_at providers_in (codes "ipxProviderSecInfoList") ms) _ d e in
    let s = bind_ok (read_at (words_in suite_of) (codes "jweCipherSuiteList") ms) _ d i.2 in
    let n = bind_ok (read_at id_in (codes "n32fContextId") ms) _ d s.2 in
    let l = bind_ok (read_at (chosen plmn_of) (codes "plmn") ms) _ d n.2 in
    let p = bind_ok (read_at policy_in (codes "protectionPolicyInfo") ms) _ d l.2 in
    let r = bind_ok (read_at sender_in (codes "sender") ms) _ d p.2 in
    let same : Asks (record { call = call; sender = r.0; id = n.0; plmn = l.0; suites = s.0; policy = p.0; ipx = i.0 }) ≡ d = cc in
    subst IsNamed same (sender_named ms r.0 r.1, providers_named ms i.0 i.1)
parameters_named call (Response ms) d e =
    let i = bind_ok (read_at providers_in (codes "ipxProviderSecInfoList") ms) _ d e in
    let n = bind_ok (read_at id_in (codes "n32fContextId") ms) _ d i.2 in
    let l = bind_ok (read_at (chosen plmn_of) (codes "plmn") ms) _ d n.2 in
    let p = bind_ok (read_at policy_in (codes "selProtectionPolicyInfo") ms) _ d l.2 in
    let s = bind_ok (read_at (chosen suite_of) (codes "selectedJweCipherSuite") ms) _ d p.2 in
    let r = bind_ok (read_at sender_in (codes "sender") ms) _ d s.2 in
    let same : Selects (record { call = call; sender = r.0; id = n.0; plmn = l.0; suite = s.0; policy = p.0; ipx = i.0 }) ≡ d = cc in
    subst IsNamed same (sender_named ms r.0 r.1, providers_named ms i.0 i.1)

termination_named : (content : Content) (d : Document) → termination_document content ≡ Ok d → IsNamed d
termination_named (Request ms) d e = let a = bind_ok (read_at id_in (codes "n32fContextId") ms) _ d e in let same : Terminates a.0 ≡ d = cc in subst IsNamed same tt
termination_named (Response ms) d e = let a = bind_ok (read_at id_in (codes "n32fContextId") ms) _ d e in let same : Terminated a.0 ≡ d = cc in subst IsNamed same tt

called_named : (ms : Members) (f : ℕ → Content → Result Document (List ℕ)) (d : Document) → ((call : ℕ) (content : Content) → f call content ≡ Ok d → IsNamed d) → called ms f ≡ Ok d → IsNamed d
called_named ms f d named e =
    let a = bind_ok (read_at id_in (codes "call") ms) _ d e in
    let b = bind_ok (content_of ms) _ d a.2 in
    named a.0 b.0 b.2

by_api : (ms : Members) (d : Document) (a b c : Bool) → cond a (called ms capability_document) (cond b (called ms parameters_document) (cond c (termination_of ms) (Err (codes "api")))) ≡ Ok d → IsNamed d
by_api ms d true b c e = called_named ms capability_document d (λ call content h. capability_named call content d h) e
by_api ms d false true c e = called_named ms parameters_document d (λ call content h. parameters_named call content d h) e
by_api ms d false false true e = let a = bind_ok (content_of ms) termination_document d e in termination_named a.0 d a.2
by_api ms d false false false e = cc

pub document_named-is : (t : Tree) (d : Document) → document_of t ≡ Ok d → IsNamed d
document_named-is t d e =
    let o = bind_ok (wanted (object_in t) (codes "api")) document_with d e in
    let a = bind_ok (read_at (text_in any_text) (codes "api") o.0) _ d o.2 in
    by_api o.0 d (bytes_eq a.0 (codes "exchange-capability")) (bytes_eq a.0 (codes "exchange-params")) (bytes_eq a.0 (codes "n32f-terminate")) a.2
