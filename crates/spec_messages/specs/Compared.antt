-- Two messages compared under a policy: what the laws of differences start from.
use Rattle.std.specs.Prelude.{◌≡◌, ℕ, List, ◌∷◌, ◌++◌, true, false, Option, Some, None, Ok, slice_get}
use Rattle.spec_documents.specs.Tree.{Tree}
use Rattle.spec_documents.specs.Place.{Pointer, at}
use Rattle.spec_messages.specs.Message.{Pair, Header, Line, request, response, Message, kind_of}
use Rattle.spec_messages.specs.Policy.{Policy, Spot, secret_places, Address, mapping_at, patterns_of, segment_address, query_pairs, of_name, pairs_named, headers_named, differs}
use Rattle.spec_messages.specs.Block.{is_ordered_body}
use Rattle.spec_messages.specs.Entry.{first_fixed}
use Rattle.spec_messages.specs.Changed.{is_changed, segments_in}

pub record Comparison : Type 0 where
  pub policy : Policy
  pub mapping : Option ℕ
  pub earlier : Message
  pub later : Message

abbrev pub differences : Comparison → List Address
differences x = differs x.policy x.mapping x.earlier x.later

-- an address is none of the differences, nor beneath one of them
abbrev pub Unchanged : Comparison → Address → Type 0
Unchanged x a = is_changed (differences x) a ≡ false

abbrev pub SameKind : Comparison → Type 0
SameKind x = kind_of x.earlier ≡ kind_of x.later

abbrev pub Requests : Comparison → Line → Line → Type 0
Requests x a b = ((x.earlier).head ≡ request a) × ((x.later).head ≡ request b)

abbrev pub Responses : Comparison → ℕ → ℕ → Type 0
Responses x r s = ((x.earlier).head ≡ response r) × ((x.later).head ≡ response s)

abbrev pub segment_name : Comparison → ℕ → Address
segment_name x i = segment_address (patterns_of (mapping_at x.policy x.mapping)) i

-- ---- the same in both messages

abbrev pub SameSegment : Message → Message → ℕ → Type 0
SameSegment m n i = slice_get (segments_in m.head) i ≡ slice_get (segments_in n.head) i

-- the values of the pairs of a name, in order
abbrev pub SamePairs : Message → Message → List ℕ → Type 0
SamePairs m n name = of_name name (pairs_named (query_pairs m.head)) ≡ of_name name (pairs_named (query_pairs n.head))

-- the values of the headers of a name, in order
abbrev pub SameHeaders : Message → Message → List ℕ → Type 0
SameHeaders m n name = of_name name (headers_named m.headers) ≡ of_name name (headers_named n.headers)

abbrev pub PairAt : Message → ℕ → Pair → Type 0
PairAt m i p = slice_get (query_pairs m.head) i ≡ Some p

abbrev pub HeaderAt : Message → ℕ → Header → Type 0
HeaderAt m i h = slice_get m.headers i ≡ Some h

-- v stands at q in the body
abbrev pub InBody : Message → Pointer → Tree → Type 0
InBody m q v = (t : Tree) × (m.body ≡ Some t) × (at t q ≡ Ok v)

-- ---- where each difference may be modified

pub record Modified : Type 0 where
  pub policy : Policy
  pub mapping : Option ℕ
  pub ipx : List ℕ
  pub earlier : Message
  pub later : Message
  pub may : first_fixed policy mapping ipx earlier later ≡ None

-- one of the outermost secret places of the earlier message
abbrev pub IsSecretPlace : Modified → Spot → Type 0
IsSecretPlace x s = (ys : List Spot) × (zs : List Spot) × (secret_places x.policy x.mapping x.earlier ≡ ys ++ s ∷ zs)

abbrev pub AreOrdered : Modified → Type 0
AreOrdered x = (is_ordered_body (x.earlier).body ≡ true) × (is_ordered_body (x.later).body ≡ true)
