-- Which parts of a message are secret (TS 33.501 clauses 13.2.3.2 and 13.2.3.3 in outline), which an intermediary may modify (clause 13.2.3.4 in outline), and how two messages differ (this project's own).
use Rattle.std.specs.Prelude.{ℕ, suc, List, [], ◌∷◌, ◌++◌, map, filter, length, Bool, true, false, not, ◌&&◌, ◌||◌, ◌==◌, nat_lt, Option, Some, None, Result, Ok, Err, unwrap_or, if◌then◌else◌, bytes_eq, slice_get}
use Rattle.std.specs.List.{list_any}
use Rattle.std.specs.Ordering.{match_ordering}
use Rattle.spec_documents.specs.Tree.{Tree, null, truth, whole, words, items, members, Trees, no_items, item, Members, no_members, member, same_tree, get_member, name_cmp}
use Rattle.spec_documents.specs.Place.{Pointer, is_prefix, read_pointer}
use Rattle.spec_documents.specs.Hole.{is_marked, hole}
use Rattle.spec_documents.specs.Text.{index_text}
use Rattle.spec_messages.specs.Message.{Part, clear, hole_part, Pair, Header, Line, Head, request, response, Message, Kind, of_request, of_response, kind_of}

pub data Location : Type 0 where
  uri_param : Location
  header : Location
  body : Location
  multipart_binary : Location

pub data Sort : Type 0 where
  ueid : Sort
  location : Sort
  key_material : Sort
  authentication_material : Sort
  authorization_token : Sort
  other : Sort
  nonsensitive : Sort

-- an element has its name for requests and that for responses, and who may modify. No list of intermediaries and an empty one are two
pub record Element : Type 0 where
  pub place : Location
  pub sort : Sort
  pub in_request : Option (List ℕ)
  pub in_response : Option (List ℕ)
  pub modifiable : Option Bool
  pub by_ipx : Option (List (List ℕ × Bool))

pub data Pattern : Type 0 where
  fixed : List ℕ → Pattern
  variable : List ℕ → Pattern

pub record Mapping : Type 0 where
  pub method : List ℕ
  pub patterns : List Pattern
  pub elements : List Element

pub record Policy : Type 0 where
  pub mappings : List Mapping
  pub sorts : List Sort

pub data LinePart : Type 0 where
  line_kind : LinePart
  line_method : LinePart
  line_scheme : LinePart
  line_authority : LinePart
  line_version : LinePart
  line_path : LinePart
  line_query_order : LinePart
  line_header_order : LinePart
  line_status : LinePart

pub data Address : Type 0 where
  line : LinePart → Address
  path_var : List ℕ → Address
  query : List ℕ → Address
  header_at : List ℕ → Address
  body_at : Pointer → Address

-- ---- a mapping, by its number

abbrev pub mapping_at : Policy → Option ℕ → Option Mapping
mapping_at pol None = None
mapping_at pol (Some k) = slice_get pol.mappings k

abbrev pub elements_of : Option Mapping → List Element
elements_of None = []
elements_of (Some g) = g.elements

abbrev pub patterns_of : Option Mapping → List Pattern
patterns_of None = []
patterns_of (Some g) = g.patterns

abbrev pub fits_segment : Pattern → Part → Bool
fits_segment (fixed s) (clear r) = bytes_eq s r
fits_segment (fixed s) (hole_part n) = false
fits_segment (variable x) p = true

abbrev pub fits_segments : List Pattern → List Part → Bool
fits_segments [] [] = true
fits_segments [] (s ∷ ss) = false
fits_segments (p ∷ ps) [] = false
fits_segments (p ∷ ps) (s ∷ ss) = fits_segment p s && fits_segments ps ss

abbrev pub fits : Mapping → Line → Bool
fits g l = bytes_eq g.method l.method && fits_segments g.patterns l.segments

-- the first mapping that fits, from number i on
abbrev pub mapping_from : ℕ → List Mapping → Line → Option ℕ
mapping_from i [] l = None
mapping_from i (g ∷ gs) l = if fits g l then Some i else mapping_from (suc i) gs l

abbrev pub mapping_of : Policy → Line → Option ℕ
mapping_of pol l = mapping_from 0 pol.mappings l

-- ---- covering

-- the name that counts in a message of the kind
abbrev pub counted : Kind → Element → Option (List ℕ)
counted of_request e = e.in_request
counted of_response e = e.in_response

abbrev pub is_named : Option (List ℕ) → List ℕ → Bool
is_named None x = false
is_named (Some n) x = bytes_eq n x

abbrev pub result_ok : {A E : Type 0} → Result A E → Option A
result_ok (Ok x) = Some x
result_ok (Err e) = None

-- the body pointer of a name
abbrev pub pointer_of : Option (List ℕ) → Option Pointer
pointer_of None = None
pointer_of (Some s) = result_ok (read_pointer s)

abbrev pub is_above : Option Pointer → Pointer → Bool
is_above None q = false
is_above (Some p) q = is_prefix p q

-- in requests alone
abbrev pub covers_uri : Kind → Location → Option (List ℕ) → List ℕ → Bool
covers_uri of_request uri_param n x = is_named n x
covers_uri of_request header n x = false
covers_uri of_request body n x = false
covers_uri of_request multipart_binary n x = false
covers_uri of_response l n x = false

abbrev pub covers_header : Location → Option (List ℕ) → List ℕ → Bool
covers_header uri_param n x = false
covers_header header n x = is_named n x
covers_header body n x = false
covers_header multipart_binary n x = false

abbrev pub covers_body : Location → Option (List ℕ) → Pointer → Bool
covers_body uri_param n q = false
covers_body header n q = false
covers_body body n q = is_above (pointer_of n) q
covers_body multipart_binary n q = false

abbrev pub covers : Kind → Address → Element → Bool
covers kind (line l) e = false
covers kind (path_var x) e = covers_uri kind e.place (counted kind e) x
covers kind (query x) e = covers_uri kind e.place (counted kind e) x
covers kind (header_at x) e = covers_header e.place (counted kind e) x
covers kind (body_at q) e = covers_body e.place (counted kind e) q

-- ---- the deciding element: of those that cover the address the one with the longest body pointer, then the first

abbrev pub pointer_length : Option Pointer → ℕ
pointer_length None = 0
pointer_length (Some p) = length p

abbrev pub weight_by : Location → Option Pointer → ℕ
weight_by uri_param p = 0
weight_by header p = 0
weight_by body p = pointer_length p
weight_by multipart_binary p = 0

abbrev pub weight : Kind → Element → ℕ
weight kind e = weight_by e.place (pointer_of (counted kind e))

abbrev pub heavier : Kind → Element → Option Element → Option Element
heavier kind e None = Some e
heavier kind e (Some f) = if nat_lt (weight kind e) (weight kind f) then Some f else Some e

abbrev pub deciding : Kind → List Element → Address → Option Element
deciding kind [] a = None
deciding kind (e ∷ es) a = if covers kind a e then heavier kind e (deciding kind es a) else deciding kind es a

abbrev pub answer_for : List ℕ → List (List ℕ × Bool) → Option Bool
answer_for ipx [] = None
answer_for ipx (b ∷ bs) = if bytes_eq ipx b.0 then Some b.1 else answer_for ipx bs

abbrev pub answer_in : List ℕ → Option (List (List ℕ × Bool)) → Option Bool
answer_in ipx None = None
answer_in ipx (Some bs) = answer_for ipx bs

abbrev pub says_yes : List ℕ → Option Element → Bool
says_yes ipx None = false
says_yes ipx (Some e) = unwrap_or (answer_in ipx e.by_ipx) (unwrap_or e.modifiable false)

-- ---- secret places

abbrev pub same_sort : Sort → Sort → Bool
same_sort ueid ueid = true
same_sort location location = true
same_sort key_material key_material = true
same_sort authentication_material authentication_material = true
same_sort authorization_token authorization_token = true
same_sort other other = true
same_sort nonsensitive nonsensitive = true
same_sort _ _ = false

abbrev pub is_sensitive : Policy → Element → Bool
is_sensitive pol e = list_any (same_sort e.sort) pol.sorts

-- the elements that make places of the kind secret
abbrev pub sensitive : Policy → Option ℕ → List Element
sensitive pol k = filter (is_sensitive pol) (elements_of (mapping_at pol k))

-- an address is covered by a sensitive element
abbrev pub is_covered : Policy → Option ℕ → Kind → Address → Bool
is_covered pol k kind a = list_any (covers kind a) (sensitive pol k)

-- a body node is covered for secrecy. The body stands here for elements that look at it
abbrev pub is_body_covered : Policy → Option ℕ → Kind → Tree → Pointer → Bool
is_body_covered pol k kind t q = is_covered pol k kind (body_at q)

abbrev pub is_secret_part : Bool → Part → Bool
is_secret_part covered (clear s) = covered
is_secret_part covered (hole_part n) = true

-- a pair without a value is never secret
abbrev pub is_secret_value : Bool → Option Part → Bool
is_secret_value covered None = false
is_secret_value covered (Some p) = is_secret_part covered p

abbrev pub pattern_address : Option Pattern → Address
pattern_address None = line line_path
pattern_address (Some (fixed s)) = line line_path
pattern_address (Some (variable x)) = path_var x

-- the address of segment i: its variable's, where the template has one there
abbrev pub segment_address : List Pattern → ℕ → Address
segment_address ps i = pattern_address (slice_get ps i)

abbrev pub is_secret_segment : Policy → Option ℕ → Kind → ℕ → Part → Bool
is_secret_segment pol k kind i p = is_secret_part (is_covered pol k kind (segment_address (patterns_of (mapping_at pol k)) i)) p

abbrev pub is_secret_pair : Policy → Option ℕ → Kind → Pair → Bool
is_secret_pair pol k kind p = is_secret_value (is_covered pol k kind (query p.name)) p.value

abbrev pub is_secret_header : Policy → Option ℕ → Kind → Header → Bool
is_secret_header pol k kind h = is_secret_part (is_covered pol k kind (header_at h.name)) h.value

abbrev pub is_secret_node : Policy → Option ℕ → Kind → Tree → Pointer → Tree → Bool
is_secret_node pol k kind root q t = is_body_covered pol k kind root q || is_marked t

-- a message place
pub data Spot : Type 0 where
  segment_spot : ℕ → Spot
  pair_spot : ℕ → Spot
  header_spot : ℕ → Spot
  body_spot : Pointer → Spot

-- the elements of a list that pass the test, by their numbers from i on, and what stands there
abbrev pub numbered : {X : Type 0} → (ℕ → X → Bool) → (ℕ → Spot) → (X → Tree) → ℕ → List X → List (Spot × Tree)
numbered test spot value i [] = []
numbered test spot value i (x ∷ xs) = if test i x then (spot i, value x) ∷ numbered test spot value (suc i) xs else numbered test spot value (suc i) xs

abbrev pub part_value : Part → Tree
part_value (clear s) = words s
part_value (hole_part n) = hole n

abbrev pub value_or_null : Option Part → Tree
value_or_null None = null
value_or_null (Some p) = part_value p

-- the outermost nodes that pass the test, in walking order, and what stands there
abbrev mutual
  pub outermost : (Pointer → Tree → Bool) → Pointer → Tree → List (Pointer × Tree)
  outermost test q null = if test q null then (q, null) ∷ [] else []
  outermost test q (truth b) = if test q (truth b) then (q, truth b) ∷ [] else []
  outermost test q (whole z) = if test q (whole z) then (q, whole z) ∷ [] else []
  outermost test q (words s) = if test q (words s) then (q, words s) ∷ [] else []
  outermost test q (items ts) = if test q (items ts) then (q, items ts) ∷ [] else outermost_items test q 0 ts
  outermost test q (members ms) = if test q (members ms) then (q, members ms) ∷ [] else outermost_members test q ms

  pub outermost_items : (Pointer → Tree → Bool) → Pointer → ℕ → Trees → List (Pointer × Tree)
  outermost_items test q i no_items = []
  outermost_items test q i (item t ts) = outermost test (q ++ index_text i ∷ []) t ++ outermost_items test q (suc i) ts

  pub outermost_members : (Pointer → Tree → Bool) → Pointer → Members → List (Pointer × Tree)
  outermost_members test q no_members = []
  outermost_members test q (member k t ms) = outermost test (q ++ k ∷ []) t ++ outermost_members test q ms

abbrev pub body_secrets : Policy → Option ℕ → Kind → Option Tree → List (Pointer × Tree)
body_secrets pol k kind None = []
body_secrets pol k kind (Some t) = outermost (is_secret_node pol k kind t) [] t

abbrev pub line_secrets : Policy → Option ℕ → Kind → Head → List (Spot × Tree)
line_secrets pol k kind (request l) =
    numbered (is_secret_segment pol k kind) segment_spot part_value 0 l.segments
    ++ numbered (λ i. is_secret_pair pol k kind) pair_spot (λ p. value_or_null p.value) 0 l.query
line_secrets pol k kind (response s) = []

-- the secret places of a message under a mapping, outermost alone, and what stands there
abbrev pub secrets : Policy → Option ℕ → Message → List (Spot × Tree)
secrets pol k m =
    line_secrets pol k (kind_of m) m.head
    ++ numbered (λ i. is_secret_header pol k (kind_of m)) header_spot (λ h. part_value h.value) 0 m.headers
    ++ map (λ s. (body_spot s.0, s.1)) (body_secrets pol k (kind_of m) m.body)

abbrev pub secret_places : Policy → Option ℕ → Message → List Spot
secret_places pol k m = map (λ s. s.0) (secrets pol k m)

abbrev pub values : Policy → Option ℕ → Message → List Tree
values pol k m = map (λ s. s.1) (secrets pol k m)

-- ---- whether an address is secret, and may be modified

abbrev pub query_address : Option Pair → Address
query_address None = line line_path
query_address (Some p) = query p.name

abbrev pub header_address : Option Header → Address
header_address None = line line_path
header_address (Some h) = header_at h.name

abbrev pub query_pairs : Head → List Pair
query_pairs (request l) = l.query
query_pairs (response s) = []

abbrev pub spot_address : Policy → Option ℕ → Message → Spot → Address
spot_address pol k m (segment_spot i) = segment_address (patterns_of (mapping_at pol k)) i
spot_address pol k m (pair_spot i) = query_address (slice_get (query_pairs m.head) i)
spot_address pol k m (header_spot i) = header_address (slice_get m.headers i)
spot_address pol k m (body_spot q) = body_at q

-- one of the two stands at or above the other. Of the line addresses only that of the path holds places, its fixed segments
abbrev pub touches : Address → Address → Bool
touches (line line_path) (line line_path) = true
touches (path_var x) (path_var y) = bytes_eq x y
touches (query x) (query y) = bytes_eq x y
touches (header_at x) (header_at y) = bytes_eq x y
touches (body_at p) (body_at q) = is_prefix p q || is_prefix q p
touches _ _ = false

abbrev pub is_secret : Policy → Option ℕ → Message → Address → Bool
is_secret pol k m a = list_any (λ s. touches (spot_address pol k m s) a) (secret_places pol k m)

abbrev pub is_line : Address → Bool
is_line (line l) = true
is_line (path_var x) = false
is_line (query x) = false
is_line (header_at x) = false
is_line (body_at q) = false

abbrev pub is_modifiable : Policy → Option ℕ → Message → Message → Address → List ℕ → Bool
is_modifiable pol k m n a ipx =
    (not (is_line a) && not (is_secret pol k m a || is_secret pol k n a))
    && says_yes ipx (deciding (kind_of m) (elements_of (mapping_at pol k)) a)

-- ---- differences

abbrev pub same_part : Part → Part → Bool
same_part (clear s) (clear r) = bytes_eq s r
same_part (hole_part m) (hole_part n) = m == n
same_part _ _ = false

abbrev pub same_option : {X : Type 0} → (X → X → Bool) → Option X → Option X → Bool
same_option test None None = true
same_option test None (Some y) = false
same_option test (Some x) None = false
same_option test (Some x) (Some y) = test x y

abbrev pub same_list : {X : Type 0} → (X → X → Bool) → List X → List X → Bool
same_list test [] [] = true
same_list test [] (y ∷ ys) = false
same_list test (x ∷ xs) [] = false
same_list test (x ∷ xs) (y ∷ ys) = test x y && same_list test xs ys

abbrev pub unless : {X : Type 0} → Bool → X → List X
unless same x = if same then [] else x ∷ []

abbrev pub is_variable : Pattern → Bool
is_variable (fixed s) = false
is_variable (variable x) = true

abbrev pub is_free : Option Pattern → Bool
is_free None = false
is_free (Some p) = is_variable p

-- as many segments, each the same but at a variable
abbrev pub same_path : List Pattern → ℕ → List Part → List Part → Bool
same_path ps i [] [] = true
same_path ps i [] (s ∷ ss) = false
same_path ps i (r ∷ rs) [] = false
same_path ps i (r ∷ rs) (s ∷ ss) = (is_free (slice_get ps i) || same_part r s) && same_path ps (suc i) rs ss

-- the variables whose segments differ, in template order
abbrev pub variables_changed : List Pattern → ℕ → List Part → List Part → List Address
variables_changed [] i rs ss = []
variables_changed (fixed s ∷ ps) i rs ss = variables_changed ps (suc i) rs ss
variables_changed (variable x ∷ ps) i rs ss = unless (same_option same_part (slice_get rs i) (slice_get ss i)) (path_var x) ++ variables_changed ps (suc i) rs ss

-- what named things have: the names whose lists of values differ, by first appearance, and whether the rest keep their order
abbrev pub is_in : List (List ℕ) → List ℕ → Bool
is_in names x = list_any (bytes_eq x) names

abbrev pub once_each : List (List ℕ) → List (List ℕ) → List (List ℕ)
once_each seen [] = []
once_each seen (x ∷ xs) = if is_in seen x then once_each seen xs else x ∷ once_each (x ∷ seen) xs

abbrev pub Named : Type 0
Named = List ℕ × Option Part

abbrev pub same_named : Named → Named → Bool
same_named a b = bytes_eq a.0 b.0 && same_option same_part a.1 b.1

abbrev pub of_name : List ℕ → List Named → List Named
of_name x xs = filter (λ a. bytes_eq x a.0) xs

abbrev pub names_changed : List Named → List Named → List (List ℕ)
names_changed xs ys = filter (λ x. not (same_list same_named (of_name x xs) (of_name x ys))) (once_each [] (map (λ a. a.0) (xs ++ ys)))

abbrev pub others : List (List ℕ) → List Named → List Named
others names xs = filter (λ a. not (is_in names a.0)) xs

abbrev pub named_changed : (List ℕ → Address) → LinePart → List Named → List Named → List Address
named_changed address order xs ys =
    let names = names_changed xs ys in
    map address names ++ unless (same_list same_named (others names xs) (others names ys)) (line order)

abbrev pub pairs_named : List Pair → List Named
pairs_named ps = map (λ p. (p.name, p.value)) ps

abbrev pub headers_named : List Header → List Named
headers_named hs = map (λ h. (h.name, Some h.value)) hs

-- ---- differences of bodies: objects member by member in byte order, all else as a whole

abbrev pub names_below : Pointer → Members → List Pointer
names_below q no_members = []
names_below q (member k t ms) = (q ++ k ∷ []) ∷ names_below q ms

abbrev pub before_name : List ℕ → Members → Members
before_name k no_members = no_members
before_name k (member l u ns) = match_ordering (name_cmp k l) (before_name k ns) (before_name k ns) (member l u (before_name k ns))

abbrev pub after_name : List ℕ → Members → Members
after_name k no_members = no_members
after_name k (member l u ns) = match_ordering (name_cmp k l) (member l u (after_name k ns)) (after_name k ns) (after_name k ns)

abbrev mutual
  pub changed_in : Pointer → Tree → Option Tree → List Pointer
  changed_in q (members ms) (Some (members ns)) = members_changed q ms ns
  changed_in q t None = q ∷ []
  changed_in q t (Some u) = unless (same_tree t u) q

  pub members_changed : Pointer → Members → Members → List Pointer
  members_changed q no_members ns = names_below q ns
  members_changed q (member k t ms) ns =
      names_below q (before_name k ns) ++ (changed_in (q ++ k ∷ []) t (get_member k ns) ++ members_changed q ms (after_name k ns))

abbrev pub body_changed : Option Tree → Option Tree → List Pointer
body_changed None None = []
body_changed None (Some u) = [] ∷ []
body_changed (Some t) u = changed_in [] t u

-- ---- the list of differences

abbrev pub line_changed : Policy → Option ℕ → Line → Line → List Address
line_changed pol k a b =
    let ps = patterns_of (mapping_at pol k) in
    unless (bytes_eq a.method b.method) (line line_method)
    ++ unless (bytes_eq a.scheme b.scheme) (line line_scheme)
    ++ unless (bytes_eq a.authority b.authority) (line line_authority)
    ++ unless (bytes_eq a.version b.version) (line line_version)
    ++ unless (same_path ps 0 a.segments b.segments) (line line_path)
    ++ variables_changed ps 0 a.segments b.segments
    ++ named_changed query line_query_order (pairs_named a.query) (pairs_named b.query)

abbrev pub rest_changed : List Address → Message → Message → List Address
rest_changed status m n =
    named_changed header_at line_header_order (headers_named m.headers) (headers_named n.headers)
    ++ status ++ map body_at (body_changed m.body n.body)

abbrev pub changed_under : Policy → Option ℕ → Head → Head → Message → Message → List Address
changed_under pol k (request a) (request b) m n = line_changed pol k a b ++ rest_changed [] m n
changed_under pol k (response a) (response b) m n = rest_changed (unless (a == b) (line line_status)) m n
changed_under pol k (request a) (response b) m n = line line_kind ∷ []
changed_under pol k (response a) (request b) m n = line line_kind ∷ []

-- what differs from m to n under a mapping
abbrev pub differs : Policy → Option ℕ → Message → Message → List Address
differs pol k m n = changed_under pol k m.head n.head m n
