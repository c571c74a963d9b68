-- Equality of policies as a test, and how two policies differ first.
use Rattle.std.specs.Prelude.{◌≡◌, ℕ, List, take, slice_get, Bool, true, false, ◌&&◌, Option, Some, None, bytes_eq}
use Rattle.spec_documents.specs.Tree.{same_truth}
use Rattle.spec_messages.specs.Policy.{Location, uri_param, header, body, multipart_binary, Element, Pattern, fixed, variable, Mapping, Policy, same_sort, same_option, same_list}
use Rattle.spec_messages.specs.PolicyDocument.{Target}
use Rattle.policy_documents.specs.declared.same.PolicyMatch.{PolicyMatch}
use Rattle.policy_documents.specs.declared.same.PolicyMatch.TheVariants as found

abbrev pub same_location : Location → Location → Bool
same_location uri_param uri_param = true
same_location header header = true
same_location body body = true
same_location multipart_binary multipart_binary = true
same_location _ _ = false

abbrev pub same_names : Option (List ℕ) → Option (List ℕ) → Option (List ℕ) → Option (List ℕ) → Bool
same_names q r s t = same_option bytes_eq q s && same_option bytes_eq r t

abbrev pub same_target : Target → Target → Bool
same_target t u = same_location t.place u.place && same_names t.in_request t.in_response u.in_request u.in_response

abbrev pub same_grant : List ℕ × Bool → List ℕ × Bool → Bool
same_grant a b = bytes_eq a.0 b.0 && same_truth a.1 b.1

abbrev pub same_grants : List (List ℕ × Bool) → List (List ℕ × Bool) → Bool
same_grants = same_list same_grant

abbrev pub target_of : Element → Target
target_of e = record { place = e.place; in_request = e.in_request; in_response = e.in_response }

abbrev pub same_element : Element → Element → Bool
same_element e f =
    same_target (target_of e) (target_of f) && (same_sort e.sort f.sort && (same_option same_truth e.modifiable f.modifiable && same_option same_grants e.by_ipx f.by_ipx))

abbrev pub same_pattern : Pattern → Pattern → Bool
same_pattern (fixed s) (fixed t) = bytes_eq s t
same_pattern (fixed s) (variable y) = false
same_pattern (variable x) (fixed t) = false
same_pattern (variable x) (variable y) = bytes_eq x y

abbrev pub same_mapping : Mapping → Mapping → Bool
same_mapping g h = bytes_eq g.method h.method && (same_list same_pattern g.patterns h.patterns && same_list same_element g.elements h.elements)

-- ---- the first difference

-- two lists are equal, or they are equal up to k and differ there, where one of them may have ended
abbrev pub DiffersAt : List Mapping → List Mapping → Option ℕ → Type 0
DiffersAt gs hs None = gs ≡ hs
DiffersAt gs hs (Some k) = (take k gs ≡ take k hs) × (slice_get gs k ≡ slice_get hs k → ⊥)

abbrev pub Tells : PolicyMatch → Policy → Policy → Type 0
Tells found.Same p q = p ≡ q
Tells (found.Mapping k) p q = DiffersAt p.mappings q.mappings (Some k)
Tells found.Types p q = (p.mappings ≡ q.mappings) × (p.sorts ≡ q.sorts → ⊥)
