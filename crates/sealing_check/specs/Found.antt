-- What of a filled message stands in clear, part by part, and node by node of its body beside that of the message with holes.
use Rattle.std.specs.Prelude.{ℕ, suc, List, [], ◌∷◌, ◌++◌, Bool, false, not, ◌&&◌, Option, Some, None, option_map, if◌then◌else◌}
use Rattle.spec_documents.specs.Tree.{Tree, null, truth, whole, words, items, members, Trees, no_items, item, Members, no_members, member}
use Rattle.spec_documents.specs.Place.{Pointer, child}
use Rattle.spec_documents.specs.Text.{index_text}
use Rattle.spec_documents.specs.Hole.{is_marked}
use Rattle.spec_messages.specs.Message.{Part, Pair, Header, Head, request, response, Message, Kind}
use Rattle.spec_messages.specs.Policy.{Policy, Address, query, header_at, body_at, segment_spot, pair_spot, header_spot, segment_address, patterns_of, mapping_at, is_secret_segment, is_secret_pair, is_secret_header, is_secret_node, result_ok}
use Rattle.spec_exchange.specs.Rebuilding.{is_hidden}

abbrev pub or_else : {X : Type 0} → Option X → Option X → Option X
or_else None o = o
or_else (Some x) o = Some x

-- the address of the first of a list that passes the test, by its number from i on
abbrev pub first_address : {X : Type 0} → (ℕ → X → Bool) → (ℕ → X → Address) → ℕ → List X → Option Address
first_address test address i [] = None
first_address test address i (x ∷ xs) = if test i x then Some (address i x) else first_address test address (suc i) xs

abbrev pub segment_clear : Policy → Option ℕ → Kind → Message → ℕ → Part → Bool
segment_clear pol k kind c i p = is_secret_segment pol k kind i p && not (is_hidden c (segment_spot i))

abbrev pub pair_clear : Policy → Option ℕ → Kind → Message → ℕ → Pair → Bool
pair_clear pol k kind c i p = is_secret_pair pol k kind p && not (is_hidden c (pair_spot i))

abbrev pub header_clear : Policy → Option ℕ → Kind → Message → ℕ → Header → Bool
header_clear pol k kind c i h = is_secret_header pol k kind h && not (is_hidden c (header_spot i))

abbrev pub segment_site : Policy → Option ℕ → ℕ → Part → Address
segment_site pol k i p = segment_address (patterns_of (mapping_at pol k)) i

abbrev pub pair_site : ℕ → Pair → Address
pair_site i p = query p.name

abbrev pub header_site : ℕ → Header → Address
header_site i h = header_at h.name

abbrev pub clear_line : Policy → Option ℕ → Kind → Message → Head → Option Address
clear_line pol k kind c (request l) = or_else (first_address (segment_clear pol k kind c) (segment_site pol k) 0 l.segments) (first_address (pair_clear pol k kind c) pair_site 0 l.query)
clear_line pol k kind c (response s) = None

abbrev pub clear_headers : Policy → Option ℕ → Kind → Message → List Header → Option Address
clear_headers pol k kind c hs = first_address (header_clear pol k kind c) header_site 0 hs

-- ---- the body

-- what stands at a token, where something does
abbrev pub child_of : List ℕ → Option Tree → Option Tree
child_of x None = None
child_of x (Some t) = result_ok (child x t)

abbrev pub is_marked_there : Option Tree → Bool
is_marked_there None = false
is_marked_there (Some t) = is_marked t

-- nothing at a hole, else the place itself where it is secret, else what is found beneath
abbrev pub here : Bool → Bool → Pointer → Option Pointer → Option Pointer
here hidden secret q beneath = if hidden then None else (if secret then Some q else beneath)

-- the first secret place at or beneath q that stands at no hole. The body with holes has c at q
abbrev mutual
  pub clear_at : (Pointer → Tree → Bool) → Option Tree → Pointer → Tree → Option Pointer
  clear_at secret c q null = here (is_marked_there c) (secret q null) q None
  clear_at secret c q (truth b) = here (is_marked_there c) (secret q (truth b)) q None
  clear_at secret c q (whole z) = here (is_marked_there c) (secret q (whole z)) q None
  clear_at secret c q (words s) = here (is_marked_there c) (secret q (words s)) q None
  clear_at secret c q (items ts) = here (is_marked_there c) (secret q (items ts)) q (clear_items secret c q 0 ts)
  clear_at secret c q (members ms) = here (is_marked_there c) (secret q (members ms)) q (clear_members secret c q ms)

  pub clear_items : (Pointer → Tree → Bool) → Option Tree → Pointer → ℕ → Trees → Option Pointer
  clear_items secret c q i no_items = None
  clear_items secret c q i (item t ts) = or_else (clear_at secret (child_of (index_text i) c) (q ++ index_text i ∷ []) t) (clear_items secret c q (suc i) ts)

  pub clear_members : (Pointer → Tree → Bool) → Option Tree → Pointer → Members → Option Pointer
  clear_members secret c q no_members = None
  clear_members secret c q (member k t ms) = or_else (clear_at secret (child_of k c) (q ++ k ∷ []) t) (clear_members secret c q ms)

abbrev pub clear_body : Policy → Option ℕ → Kind → Message → Option Tree → Option Address
clear_body pol k kind c None = None
clear_body pol k kind c (Some t) = option_map body_at (clear_at (is_secret_node pol k kind t) c.body [] t)

-- ---- the message m of that kind

abbrev pub clear_rest : Policy → Option ℕ → Kind → Message → List Header → Option Tree → Option Address
clear_rest pol k kind c hs b = or_else (clear_headers pol k kind c hs) (clear_body pol k kind c b)

abbrev pub clear_found : Policy → Option ℕ → Kind → Message → Message → Option Address
clear_found pol k kind c m = or_else (clear_line pol k kind c m.head) (clear_rest pol k kind c m.headers m.body)
