-- The document of a policy (the data types of TS 29.573 clause 6.1.5 in outline; forms and limits own).
use Rattle.std.specs.Prelude.{◌≡◌, ℕ, suc, List, [], ◌∷◌, ◌++◌, map, filter, find, drop, length, Bool, true, not, ◌&&◌, ◌||◌, ◌==◌, nat_le, nat_lt, Option, Some, None, option_map, is_ok, Result, Ok, Err, if◌then◌else◌, bytes_eq, codes}
use Rattle.std.specs.List.{list_any, list_all}
use Rattle.spec_documents.specs.Tree.{Tree, null, truth, whole, words, items, members, trees, tree_list, items_in, Members, no_members, get_member, put_member}
use Rattle.spec_documents.specs.Place.{◌>>=◌, read_pointer}
use Rattle.spec_documents.specs.Fields.{Field, fields, field_list}
use Rattle.spec_documents.specs.Text.{is_alphanumeric, is_one_of, is_segment, is_query_name, is_header_name, is_method, is_identity, lower, begins, pieces, cut_at}
use Rattle.spec_messages.specs.Message.{wanted, text_at, all_read, any_text}
use Rattle.spec_messages.specs.Policy.{Location, uri_param, header, body, multipart_binary, Sort, ueid, location, key_material, authentication_material, authorization_token, other, nonsensitive, Element, Pattern, fixed, variable, Mapping, Policy, same_sort}

-- ---- the words for where an element is, and of what type

abbrev pub location_text : Location → List ℕ
location_text uri_param = codes "URI_PARAM"
location_text header = codes "HEADER"
location_text body = codes "BODY"
location_text multipart_binary = codes "MULTIPART_BINARY"

abbrev pub locations : List Location
locations = uri_param ∷ header ∷ body ∷ multipart_binary ∷ []

abbrev pub location_of : List ℕ → Option Location
location_of s = find (λ l. bytes_eq (location_text l) s) locations

abbrev pub sort_text : Sort → List ℕ
sort_text ueid = codes "UEID"
sort_text location = codes "LOCATION"
sort_text key_material = codes "KEY_MATERIAL"
sort_text authentication_material = codes "AUTHENTICATION_MATERIAL"
sort_text authorization_token = codes "AUTHORIZATION_TOKEN"
sort_text other = codes "OTHER"
sort_text nonsensitive = codes "NONSENSITIVE"

-- in the order in which they are printed
abbrev pub all_sorts : List Sort
all_sorts = ueid ∷ location ∷ key_material ∷ authentication_material ∷ authorization_token ∷ other ∷ nonsensitive ∷ []

abbrev pub sort_of : List ℕ → Option Sort
sort_of s = find (λ x. bytes_eq (sort_text x) s) all_sorts

-- ---- the template of a path: one or more times `/` and a segment or `{name}`, where `{apiRoot}` in front is dropped

abbrev pub is_name_byte : ℕ → Bool
is_name_byte b = is_alphanumeric b || is_one_of (codes "-_") b

abbrev pub is_variable_name : List ℕ → Bool
is_variable_name s = nat_lt 0 (length s) && list_all is_name_byte s

-- a name and what stands after its closing brace
abbrev pub braced : List ℕ × Option (List ℕ) → Option Pattern
braced (name, None) = None
braced (name, Some end) = if (length end == 0) && is_variable_name name then Some (variable name) else None

abbrev pub fixed_of : List ℕ → Option Pattern
fixed_of s = if is_segment s then Some (fixed s) else None

abbrev pub pattern_of : List ℕ → Option Pattern
pattern_of [] = fixed_of []
pattern_of (b ∷ bs) = if b == 123 then braced (cut_at 125 bs) else fixed_of (b ∷ bs)

abbrev pub name_list : Pattern → List (List ℕ)
name_list (fixed s) = []
name_list (variable x) = x ∷ []

abbrev pub variable_names : List Pattern → List (List ℕ)
variable_names [] = []
variable_names (p ∷ ps) = name_list p ++ variable_names ps

abbrev pub are_distinct : List (List ℕ) → Bool
are_distinct [] = true
are_distinct (x ∷ xs) = not (list_any (bytes_eq x) xs) && are_distinct xs

abbrev pub if_distinct : Option (List Pattern) → Option (List Pattern)
if_distinct None = None
if_distinct (Some ps) = if are_distinct (variable_names ps) then Some ps else None

abbrev pub patterns_in : List ℕ → Option (List Pattern)
patterns_in [] = None
patterns_in (b ∷ bs) = if b == 47 then all_read pattern_of (pieces 47 bs) else None

abbrev pub without_root : List ℕ → List ℕ
without_root s = if begins (codes "{apiRoot}") s then drop 9 s else s

abbrev pub template_of : List ℕ → Option (List Pattern)
template_of s = if_distinct (patterns_in (without_root s))

-- ---- an element

abbrev pub chosen : {A : Type 0} → (List ℕ → Option A) → Option Tree → Option A
chosen f None = None
chosen f (Some null) = None
chosen f (Some (truth b)) = None
chosen f (Some (whole z)) = None
chosen f (Some (words s)) = f s
chosen f (Some (items ts)) = None
chosen f (Some (members ms)) = None

-- what is absent is nothing; what is there must have the form
abbrev pub if_there : {A : Type 0} → (Tree → Option A) → Option Tree → Option (Option A)
if_there f None = Some None
if_there f (Some t) = option_map Some (f t)

abbrev pub if_passes : (List ℕ → Bool) → List ℕ → Option (List ℕ)
if_passes test s = if test s then Some s else None

-- a name, as it is kept: of a query, of a header in lower case, a pointer's text, or any text
abbrev pub name_of : Location → List ℕ → Option (List ℕ)
name_of uri_param s = if_passes is_query_name s
name_of header s = option_map lower (if_passes is_header_name s)
name_of body s = if_passes (λ r. is_ok (read_pointer r)) s
name_of multipart_binary s = if_passes any_text s

abbrev pub name_by : (List ℕ → Option (List ℕ)) → Option Tree → Option (Option (List ℕ))
name_by f o = if_there (λ t. chosen f (Some t)) o

abbrev pub name_in : Location → Option Tree → Option (Option (List ℕ))
name_in l o = name_by (name_of l) o

abbrev pub truth_of : Tree → Option Bool
truth_of null = None
truth_of (truth b) = Some b
truth_of (whole z) = None
truth_of (words s) = None
truth_of (items ts) = None
truth_of (members ms) = None

-- what an intermediary is told: its identity and a truth value
abbrev pub told : List ℕ → Option Bool → Option (List ℕ × Bool)
told ipx None = None
told ipx (Some b) = if is_identity ipx then Some (ipx, b) else None

abbrev pub grant_of : Field → Option (List ℕ × Bool)
grant_of e = told e.0 (truth_of e.1)

abbrev pub grants_of : Tree → Option (List (List ℕ × Bool))
grants_of null = None
grants_of (truth b) = None
grants_of (whole z) = None
grants_of (words s) = None
grants_of (items ts) = None
grants_of (members ms) = all_read grant_of (field_list ms)

-- where an element is, and its names there
pub record Target : Type 0 where
  pub place : Location
  pub in_request : Option (List ℕ)
  pub in_response : Option (List ℕ)

-- with k for each wrong form
abbrev pub target_at : Location → ℕ → Members → Result Target ℕ
target_at l k ms =
    wanted (name_in l (get_member (codes "reqIe") ms)) k >>= λ q.
    wanted (name_in l (get_member (codes "rspIe") ms)) k >>= λ r.
    Ok (record { place = l; in_request = q; in_response = r })

abbrev pub element_with : ℕ → Members → Result Element ℕ
element_with k ms =
    wanted (chosen location_of (get_member (codes "ieLoc") ms)) k >>= λ l.
    wanted (chosen sort_of (get_member (codes "ieType") ms)) k >>= λ s.
    target_at l k ms >>= λ t.
    wanted (if_there truth_of (get_member (codes "isModifiable") ms)) k >>= λ m.
    wanted (if_there grants_of (get_member (codes "isModifiableByIpx") ms)) k >>= λ g.
    Ok (record { place = t.place; sort = s; in_request = t.in_request; in_response = t.in_response; modifiable = m; by_ipx = g })

abbrev pub element_of : ℕ → Tree → Result Element ℕ
element_of k null = Err k
element_of k (truth b) = Err k
element_of k (whole z) = Err k
element_of k (words s) = Err k
element_of k (items ts) = Err k
element_of k (members ms) = element_with k ms

-- ---- a mapping

-- each read, or the first that is refused
abbrev pub each_read : {A B E : Type 0} → (A → Result B E) → List A → Result (List B) E
each_read f [] = Ok []
each_read f (x ∷ xs) = f x >>= λ y. each_read f xs >>= λ ys. Ok (y ∷ ys)

abbrev pub mapping_with : ℕ → Members → Result Mapping ℕ
mapping_with k ms =
    wanted (chosen template_of (get_member (codes "apiSignature") ms)) k >>= λ ps.
    wanted (text_at is_method (codes "apiMethod") ms) k >>= λ m.
    wanted (items_in (get_member (codes "IeList") ms)) k >>= λ ts.
    each_read (element_of k) ts >>= λ es.
    Ok (record { method = m; patterns = ps; elements = es })

abbrev pub mapping_of : ℕ → Tree → Result Mapping ℕ
mapping_of k null = Err k
mapping_of k (truth b) = Err k
mapping_of k (whole z) = Err k
mapping_of k (words s) = Err k
mapping_of k (items ts) = Err k
mapping_of k (members ms) = mapping_with k ms

-- ---- a policy

-- the mappings from number k on
abbrev pub mappings_from : ℕ → List Tree → Result (List Mapping) ℕ
mappings_from k [] = Ok []
mappings_from k (t ∷ ts) = mapping_of k t >>= λ g. mappings_from (suc k) ts >>= λ gs. Ok (g ∷ gs)

abbrev pub most_mappings : ℕ
most_mappings = 65536

abbrev pub if_few : Option (List Tree) → Option (List Tree)
if_few None = None
if_few (Some ts) = if nat_le (length ts) most_mappings then Some ts else None

-- the types that are listed, in order, each once
abbrev pub in_order : List Sort → List Sort
in_order ss = filter (λ x. list_any (same_sort x) ss) all_sorts

abbrev pub listed_sorts : List Tree → Option (List Sort)
listed_sorts ts = all_read (λ t. chosen sort_of (Some t)) ts

abbrev pub sorts_of : Tree → Option (List Sort)
sorts_of null = None
sorts_of (truth b) = None
sorts_of (whole z) = None
sorts_of (words s) = None
sorts_of (items ts) = listed_sorts (tree_list ts)
sorts_of (members ms) = None

abbrev pub sorts_in : Option Tree → Option (List Sort)
sorts_in None = Some []
sorts_in (Some t) = option_map in_order (sorts_of t)

abbrev pub policy_with : Members → Result Policy ℕ
policy_with ms =
    wanted (if_few (items_in (get_member (codes "apiIeMappingList") ms))) 0 >>= λ ts.
    wanted (sorts_in (get_member (codes "dataTypeEncPolicy") ms)) 0 >>= λ ss.
    mappings_from 1 ts >>= λ gs.
    Ok (record { mappings = gs; sorts = ss })

-- the policy that a document is of, or the number of the first bad mapping, from 1, or 0 where the rest is bad
abbrev pub policy_of : Tree → Result Policy ℕ
policy_of null = Err 0
policy_of (truth b) = Err 0
policy_of (whole z) = Err 0
policy_of (words s) = Err 0
policy_of (items ts) = Err 0
policy_of (members ms) = policy_with ms

-- ---- the printed document

abbrev pub pattern_text : Pattern → List ℕ
pattern_text (fixed s) = s
pattern_text (variable x) = 123 ∷ (x ++ 125 ∷ [])

abbrev pub template_text : List Pattern → List ℕ
template_text [] = []
template_text (p ∷ ps) = 47 ∷ (pattern_text p ++ template_text ps)

-- a member that is there
abbrev pub with_member : {A : Type 0} → (A → Tree) → List ℕ → Option A → Members → Members
with_member f k None ms = ms
with_member f k (Some x) ms = put_member k (f x) ms

abbrev pub grants_tree : List (List ℕ × Bool) → Tree
grants_tree gs = members (fields (map (λ g. (g.0, truth g.1)) gs))

abbrev pub element_tree : Element → Tree
element_tree e =
    let named = put_member (codes "ieType") (words (sort_text e.sort)) (put_member (codes "ieLoc") (words (location_text e.place)) no_members) in
    members (with_member grants_tree (codes "isModifiableByIpx") e.by_ipx
    (with_member truth (codes "isModifiable") e.modifiable
    (with_member words (codes "rspIe") e.in_response
    (with_member words (codes "reqIe") e.in_request named))))

abbrev pub list_of : {A : Type 0} → (A → Tree) → List A → Tree
list_of f xs = items (trees (map f xs))

abbrev pub mapping_tree : Mapping → Tree
mapping_tree g =
    members (put_member (codes "IeList") (list_of element_tree g.elements)
    (put_member (codes "apiMethod") (words g.method)
    (put_member (codes "apiSignature") (words (template_text g.patterns)) no_members)))

abbrev pub sort_tree : Sort → Tree
sort_tree s = words (sort_text s)

abbrev pub policy_tree : Policy → Tree
policy_tree p =
    members (put_member (codes "dataTypeEncPolicy") (list_of sort_tree p.sorts)
    (put_member (codes "apiIeMappingList") (list_of mapping_tree p.mappings) no_members))

abbrev pub empty_policy : Policy
empty_policy = record { mappings = []; sorts = [] }

-- a policy is what its own document is read to
abbrev pub ReadsBack : Policy → Type 0
ReadsBack p = policy_of (policy_tree p) ≡ Ok p
