-- The documents that two SEPPs exchange over N32-c: the negotiation of a capability, the exchange of parameters and the end of a context (TS 29.573 clauses 5.2.2 to 5.2.4 and 6.1.5 in outline; the wrapper with `api` and `call`, and the joining of suites, policy and intermediaries in one document, are this project's own).
use Rattle.std.specs.Prelude.{ℕ, List, [], ◌∷◌, length, nat_le, Option, Some, None, option_map, Result, Ok, Err, if◌then◌else◌, bytes_eq, codes}
use Rattle.std.specs.Option.{option_and_then}
use Rattle.spec_documents.specs.Tree.{Tree, words, members, Members, items_in, get_member, object}
use Rattle.spec_documents.specs.Place.{◌>>=◌}
use Rattle.spec_documents.specs.Ids.{id_of, id_text, plmn_of}
use Rattle.spec_documents.specs.Text.{is_identity, is_node_name}
use Rattle.spec_messages.specs.Message.{wanted, text_in, text_if, any_text, all_read}
use Rattle.spec_messages.specs.Policy.{Policy}
use Rattle.spec_messages.specs.PolicyDocument.{chosen, list_of, policy_tree}
use Rattle.spec_records.specs.Records.{Suite}
use Rattle.spec_sealing.specs.Header.{object_in}
use Rattle.spec_sealing.specs.Suites.{suite_name}
use Rattle.spec_records.specs.RecordDocument.{suite_of, policy_in}

-- how messages over N32-f are protected: by PRINS, or by TLS alone
pub data Capability : Type 0 where
  Prins : Capability
  Tls : Capability

-- the parameters that an initiator asks for. `call` is the initiator's context id
pub record Ask : Type 0 where
  pub call : ℕ
  pub sender : List ℕ
  pub id : ℕ
  pub plmn : List ℕ
  pub suites : List Suite
  pub policy : Policy
  pub ipx : List (List ℕ)

-- the parameters that a responder has selected
pub record Selection : Type 0 where
  pub call : ℕ
  pub sender : List ℕ
  pub id : ℕ
  pub plmn : List ℕ
  pub suite : Suite
  pub policy : Policy
  pub ipx : List (List ℕ)

pub data Document : Type 0 where
  -- the capabilities that the initiator has
  Supports : (call : ℕ) (sender : List ℕ) (capabilities : List Capability) → Document
  -- the one that the responder has chosen
  Chooses : (call : ℕ) (sender : List ℕ) (capability : Capability) → Document
  Asks : (ask : Ask) → Document
  Selects : (selection : Selection) → Document
  -- the context of that id, which is the receiver's, ends; and has ended
  Terminates : (id : ℕ) → Document
  Terminated : (id : ℕ) → Document

-- ---- words

abbrev pub capability_text : Capability → List ℕ
capability_text Prins = codes "PRINS"
capability_text Tls = codes "TLS"

abbrev pub capability_of : List ℕ → Option Capability
capability_of s = if bytes_eq s (codes "PRINS") then Some Prins else (if bytes_eq s (codes "TLS") then Some Tls else None)

-- the words that are known, in their order; others are ignored
abbrev pub onto_known : {A : Type 0} → Option A → List A → List A
onto_known None xs = xs
onto_known (Some x) xs = x ∷ xs

abbrev pub known : {A : Type 0} → (List ℕ → Option A) → List (List ℕ) → List A
known f [] = []
known f (s ∷ ss) = onto_known (f s) (known f ss)

-- a list of texts
abbrev pub words_in : {A : Type 0} → (List ℕ → Option A) → Option Tree → Option (List A)
words_in f o = option_map (known f) (option_and_then (all_read (text_if any_text)) (items_in o))

-- an intermediary's object; its other members are ignored
abbrev pub provider_of : Tree → Option (List ℕ)
provider_of t = option_and_then (λ ms. text_in is_identity (get_member (codes "ipxProviderId") ms)) (object_in t)

-- at most one intermediary
abbrev pub providers : List Tree → Option (List (List ℕ))
providers ts = if nat_le (length ts) 1 then all_read provider_of ts else None

abbrev pub providers_in : Option Tree → Option (List (List ℕ))
providers_in o = option_and_then providers (items_in o)

abbrev pub provider_tree : List ℕ → Tree
provider_tree s = members (object ((codes "ipxProviderId", words s) ∷ []))

-- ---- the document that a tree is of, or the first member that is missing or has not its form

-- what the member of a name is read to, or that name
abbrev pub read_at : {A : Type 0} → (Option Tree → Option A) → List ℕ → Members → Result A (List ℕ)
read_at read k ms = wanted (read (get_member k ms)) k

abbrev pub id_in : Option Tree → Option ℕ
id_in o = chosen id_of o

abbrev pub sender_in : Option Tree → Option (List ℕ)
sender_in o = text_in is_node_name o

-- what a document carries, as a request or as a response
pub data Content : Type 0 where
  Request : (parameters : Members) → Content
  Response : (parameters : Members) → Content

-- exactly one of the two members is there
abbrev pub content_from : (request response : Option Tree) → Result Content (List ℕ)
content_from None None = Err (codes "request")
content_from (Some q) None = do
  ms ← wanted (object_in q) (codes "request")
  Ok (Request ms)
content_from None (Some r) = do
  ms ← wanted (object_in r) (codes "response")
  Ok (Response ms)
content_from (Some q) (Some r) = Err (codes "request")

abbrev pub content_of : Members → Result Content (List ℕ)
content_of ms = content_from (get_member (codes "request") ms) (get_member (codes "response") ms)

abbrev pub capability_document : ℕ → Content → Result Document (List ℕ)
capability_document call (Request ms) = do
  sender ← read_at sender_in (codes "sender") ms
  capabilities ← read_at (words_in capability_of) (codes "supportedSecCapabilityList") ms
  Ok (Supports call sender capabilities)
capability_document call (Response ms) = do
  capability ← read_at (chosen capability_of) (codes "selectedSecCapability") ms
  sender ← read_at sender_in (codes "sender") ms
  Ok (Chooses call sender capability)

abbrev pub parameters_document : ℕ → Content → Result Document (List ℕ)
parameters_document call (Request ms) = do
  ipx ← read_at providers_in (codes "ipxProviderSecInfoList") ms
  suites ← read_at (words_in suite_of) (codes "jweCipherSuiteList") ms
  id ← read_at id_in (codes "n32fContextId") ms
  plmn ← read_at (chosen plmn_of) (codes "plmn") ms
  policy ← read_at policy_in (codes "protectionPolicyInfo") ms
  sender ← read_at sender_in (codes "sender") ms
  Ok (Asks (record { call = call; sender = sender; id = id; plmn = plmn; suites = suites; policy = policy; ipx = ipx }))
parameters_document call (Response ms) = do
  ipx ← read_at providers_in (codes "ipxProviderSecInfoList") ms
  id ← read_at id_in (codes "n32fContextId") ms
  plmn ← read_at (chosen plmn_of) (codes "plmn") ms
  policy ← read_at policy_in (codes "selProtectionPolicyInfo") ms
  suite ← read_at (chosen suite_of) (codes "selectedJweCipherSuite") ms
  sender ← read_at sender_in (codes "sender") ms
  Ok (Selects (record { call = call; sender = sender; id = id; plmn = plmn; suite = suite; policy = policy; ipx = ipx }))

abbrev pub termination_document : Content → Result Document (List ℕ)
termination_document (Request ms) = do
  id ← read_at id_in (codes "n32fContextId") ms
  Ok (Terminates id)
termination_document (Response ms) = do
  id ← read_at id_in (codes "n32fContextId") ms
  Ok (Terminated id)

abbrev pub termination_of : Members → Result Document (List ℕ)
termination_of ms = do
  content ← content_of ms
  termination_document content

abbrev pub called : Members → (ℕ → Content → Result Document (List ℕ)) → Result Document (List ℕ)
called ms f = do
  call ← read_at id_in (codes "call") ms
  content ← content_of ms
  f call content

-- by the text of `api`
abbrev pub document_named : List ℕ → Members → Result Document (List ℕ)
document_named api ms =
    if bytes_eq api (codes "exchange-capability") then called ms capability_document
    else (if bytes_eq api (codes "exchange-params") then called ms parameters_document
    else (if bytes_eq api (codes "n32f-terminate") then termination_of ms else Err (codes "api")))

abbrev pub document_with : Members → Result Document (List ℕ)
document_with ms = do
  api ← read_at (text_in any_text) (codes "api") ms
  document_named api ms

abbrev pub document_of : Tree → Result Document (List ℕ)
document_of t = do
  ms ← wanted (object_in t) (codes "api")
  document_with ms

-- ---- the tree of a document

abbrev pub exchange_tree : (api : List ℕ) → (call : ℕ) → (side : List ℕ) → (parameters : Members) → Tree
exchange_tree api call side parameters = members (object ((codes "api", words api) ∷ (codes "call", words (id_text call)) ∷ (side, members parameters) ∷ []))

abbrev pub termination_tree : (side : List ℕ) → ℕ → Tree
termination_tree side id = members (object ((codes "api", words (codes "n32f-terminate")) ∷ (side, members (object ((codes "n32fContextId", words (id_text id)) ∷ []))) ∷ []))

abbrev pub document_tree : Document → Tree
document_tree (Supports call sender capabilities) = exchange_tree (codes "exchange-capability") call (codes "request") (object (
    (codes "sender", words sender)
    ∷ (codes "supportedSecCapabilityList", list_of (λ c. words (capability_text c)) capabilities) ∷ []))
document_tree (Chooses call sender capability) = exchange_tree (codes "exchange-capability") call (codes "response") (object (
    (codes "selectedSecCapability", words (capability_text capability))
    ∷ (codes "sender", words sender) ∷ []))
document_tree (Asks a) = exchange_tree (codes "exchange-params") a.call (codes "request") (object (
    (codes "ipxProviderSecInfoList", list_of provider_tree a.ipx)
    ∷ (codes "jweCipherSuiteList", list_of (λ s. words (suite_name s)) a.suites)
    ∷ (codes "n32fContextId", words (id_text a.id))
    ∷ (codes "plmn", words a.plmn)
    ∷ (codes "protectionPolicyInfo", policy_tree a.policy)
    ∷ (codes "sender", words a.sender) ∷ []))
document_tree (Selects b) = exchange_tree (codes "exchange-params") b.call (codes "response") (object (
    (codes "ipxProviderSecInfoList", list_of provider_tree b.ipx)
    ∷ (codes "n32fContextId", words (id_text b.id))
    ∷ (codes "plmn", words b.plmn)
    ∷ (codes "selProtectionPolicyInfo", policy_tree b.policy)
    ∷ (codes "selectedJweCipherSuite", words (suite_name b.suite))
    ∷ (codes "sender", words b.sender) ∷ []))
document_tree (Terminates id) = termination_tree (codes "request") id
document_tree (Terminated id) = termination_tree (codes "response") id
