-- Offers, documents and runs of the worked examples.
use Rattle.std.specs.Prelude.{ℕ, List, [], ◌∷◌, codes}
use Rattle.spec_documents.specs.Tree.{Tree, null, words, items, members, object, trees}
use Rattle.spec_messages.specs.Policy.{Policy, Mapping, fixed}
use Rattle.spec_messages.specs.PolicyDocument.{empty_policy}
use Rattle.spec_records.specs.Records.{Suite, A128Gcm, A256Gcm, Context, Record, Offered, Opened}
use Rattle.spec_exchange.specs.Outside.{Choice, no_fault, Read, Lost, KeptUntold}
use Rattle.spec_handshake.specs.Documents.{Capability, Prins, Tls, Ask, Selection}
use Rattle.spec_handshake.specs.Starts.{Offer, Start, Waiting}
use Rattle.spec_handshake.specs.Runs.{Happening, NodeStarts, NodeAnswers, NodeFinishes}

-- ---- offers

-- without mappings but for this one, which has no elements
abbrev pub mapping_x : (method : List ℕ) → Mapping
mapping_x method = record { method = method; patterns = fixed (codes "x") ∷ []; elements = [] }

abbrev pub policy_x : (method : List ℕ) → Policy
policy_x method = record { mappings = mapping_x method ∷ []; sorts = [] }

abbrev pub offer_with : ℕ → List Capability → List Suite → Policy → (ipx : List ℕ) → Offer
offer_with id capabilities suites policy ipx = record { id = id; capabilities = capabilities; suites = suites; policy = policy; ipx = ipx ∷ [] }

abbrev pub offer_a : Offer
offer_a = offer_with 161 (Prins ∷ []) (A256Gcm ∷ A128Gcm ∷ []) empty_policy (codes "ipx-a")

abbrev pub offer_b : Offer
offer_b = offer_with 177 (Tls ∷ Prins ∷ []) (A128Gcm ∷ A256Gcm ∷ []) empty_policy (codes "ipx-b")

abbrev pub node_a : List ℕ
node_a = codes "A"

abbrev pub node_b : List ℕ
node_b = codes "B"

abbrev pub plmn_a : List ℕ
plmn_a = codes "00101"

abbrev pub plmn_b : List ℕ
plmn_b = codes "00102"

-- ---- documents

abbrev pub ask_with : List Suite → Policy → Ask
ask_with suites policy = record { call = 161; sender = node_a; id = 161; plmn = plmn_a; suites = suites; policy = policy; ipx = codes "ipx-a" ∷ [] }

abbrev pub selection_with : (sender : List ℕ) → Suite → Policy → Selection
selection_with sender suite policy = record { call = 161; sender = sender; id = 177; plmn = plmn_b; suite = suite; policy = policy; ipx = codes "ipx-b" ∷ [] }

-- a tree with these members
abbrev pub tree_with : List (List ℕ × Tree) → Tree
tree_with ms = members (object ms)

abbrev pub api_field : List ℕ → List ℕ × Tree
api_field api = (codes "api", words api)

abbrev pub call_field : List ℕ × Tree
call_field = (codes "call", words (codes "00000000000000A1"))

-- an exchange of parameters, asked for with these members
abbrev pub asking : List (List ℕ × Tree) → Tree
asking ms = tree_with (api_field (codes "exchange-params") ∷ call_field ∷ (codes "request", tree_with ms) ∷ [])

abbrev pub providers_field : List ℕ × Tree
providers_field = (codes "ipxProviderSecInfoList", items (trees (tree_with ((codes "ipxProviderId", words (codes "ipx-a")) ∷ (codes "further", null) ∷ []) ∷ [])))

abbrev pub suites_field : List ℕ × Tree
suites_field = (codes "jweCipherSuiteList", items (trees (words (codes "A256GCM") ∷ words (codes "A512GCM") ∷ words (codes "A128GCM") ∷ [])))

abbrev pub id_field : List ℕ × Tree
id_field = (codes "n32fContextId", words (codes "00000000000000a1"))

abbrev pub plmn_field : List ℕ × Tree
plmn_field = (codes "plmn", words plmn_a)

abbrev pub policy_field : List ℕ × Tree
policy_field = (codes "protectionPolicyInfo", tree_with ((codes "apiIeMappingList", items (trees [])) ∷ []))

abbrev pub sender_field : List ℕ × Tree
sender_field = (codes "sender", words node_a)

-- ---- contexts and runs

abbrev pub context_a : Context
context_a = record { node = node_a; id = 161; peer_node = node_b; peer = 177; plmn = plmn_b; suite = A256Gcm; policy = empty_policy; own_ipx = codes "ipx-a" ∷ []; peer_ipx = codes "ipx-b" ∷ [] }

abbrev pub context_b : Context
context_b = record { node = node_b; id = 177; peer_node = node_a; peer = 161; plmn = plmn_a; suite = A256Gcm; policy = empty_policy; own_ipx = codes "ipx-b" ∷ []; peer_ipx = codes "ipx-a" ∷ [] }

abbrev pub opened_both : List Record
opened_both = Offered node_a 161 ∷ Opened context_b ∷ Opened context_a ∷ []

abbrev pub begins_at_a : Choice × Happening
begins_at_a = (no_fault, NodeStarts node_a node_b offer_a)

-- the document of that number comes to B, and to A
abbrev pub to_b : ℕ → Choice × Happening
to_b k = (no_fault, NodeAnswers node_b plmn_b offer_b k)

abbrev pub to_a : ℕ → Choice × Happening
to_a k = (no_fault, NodeFinishes node_a plmn_a k)

abbrev pub whole_handshake : List (Choice × Happening)
whole_handshake = begins_at_a ∷ to_b 0 ∷ to_a 1 ∷ to_b 2 ∷ to_a 3 ∷ []

-- each document comes again: the second choice of B is document 3, and what it selects is document 4
abbrev pub repeated : List (Choice × Happening)
repeated = begins_at_a ∷ to_b 0 ∷ to_a 1 ∷ to_b 0 ∷ to_a 1 ∷ to_a 3 ∷ to_b 2 ∷ to_b 2 ∷ to_a 4 ∷ to_a 4 ∷ []

abbrev pub start_of : Offer → (peer : List ℕ) → Waiting → Start
start_of offer peer waiting = record { node = node_a; peer = peer; offer = offer; waiting = waiting }

abbrev pub lost : Choice
lost = record { reading = Read; putting = Lost }

abbrev pub untold : Choice
untold = record { reading = Read; putting = KeptUntold }
