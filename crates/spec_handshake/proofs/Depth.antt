-- The tree of a document nests a few levels deep.
use Rattle.std.proofs.Common.{◌≤◌, ℕ, List, [], ◌∷◌, map, arith}
use Rattle.spec_documents.specs.Tree.{Tree, words, trees, depth, items_depth}
use Rattle.spec_messages.specs.Policy.{Policy}
use Rattle.spec_messages.specs.PolicyDocument.{policy_tree}
use Rattle.spec_records.specs.Records.{Opened, A128Gcm}
use Rattle.spec_records.proofs.RecordDepth.{record_level}
use Rattle.spec_handshake.specs.Documents.{Document, Supports, Chooses, Asks, Selects, Terminates, Terminated, capability_text, provider_tree, document_tree}
use Rattle.spec_sealing.specs.Suites.{suite_name}

list_level : {A : Type 0} (f : A → Tree) (n : ℕ) (xs : List A) → ((x : A) → depth (f x) ≤ n) → items_depth (trees (map f xs)) ≤ n
list_level f n [] each = omega arith
list_level f n (x ∷ xs) each = omega (arith, each x, list_level f n xs each)

-- as in the record of an opened context
policy_level : (p : Policy) → depth (policy_tree p) ≤ 6
policy_level p = omega (arith, record_level (Opened (record { node = []; id = 0; peer_node = []; peer = 0; plmn = []; suite = A128Gcm; policy = p; own_ipx = []; peer_ipx = [] })))

pub document_level : (d : Document) → depth (document_tree d) ≤ 8
document_level (Supports call sender capabilities) = omega (arith, list_level (λ c. words (capability_text c)) 0 capabilities (λ c. omega arith))
document_level (Chooses call sender capability) = omega arith
document_level (Asks a) = omega (arith, list_level provider_tree 1 a.ipx (λ s. omega arith), list_level (λ s. words (suite_name s)) 0 a.suites (λ s. omega arith), policy_level a.policy)
document_level (Selects b) = omega (arith, list_level provider_tree 1 b.ipx (λ s. omega arith), policy_level b.policy)
document_level (Terminates id) = omega arith
document_level (Terminated id) = omega arith
