-- HTTP messages, in the parts that a sealed message keeps apart, and their JSON documents (after the encapsulated message of TS 29.573 and TS 33.501 clause 13.2.4.3.1; member names and grammars are this project's profile).
use Rattle.std.specs.Prelude.{ℕ, List, [], ◌∷◌, length, Bool, true, false, ◌&&◌, ◌==◌, nat_lt, Option, Some, None, option_map, Result, Ok, Err, if◌then◌else◌, bytes_eq, codes}
use Rattle.std.specs.List.{list_all}
use Rattle.std.specs.Option.{option_and_then}
use Rattle.spec_documents.specs.Tree.{Tree, null, truth, whole, words, items, members, Members, get_member, items_in, depth}
use Rattle.spec_documents.specs.Place.{◌>>=◌}
use Rattle.spec_documents.specs.Text.{is_segment, is_query_name, is_query_value, is_header_name, is_header_value, is_method, is_scheme, is_authority, is_version, is_within, lower, status_of, pieces, cut_at}

-- a text, or hole n
pub data Part : Type 0 where
  clear : List ℕ → Part
  hole_part : ℕ → Part

pub record Pair : Type 0 where
  pub name : List ℕ
  pub value : Option Part

pub record Header : Type 0 where
  pub name : List ℕ
  pub value : Part

pub record Line : Type 0 where
  pub method : List ℕ
  pub scheme : List ℕ
  pub authority : List ℕ
  pub version : List ℕ
  pub segments : List Part
  pub query : List Pair

-- the line of a request or of a response
pub data Head : Type 0 where
  request : Line → Head
  response : ℕ → Head

pub record Message : Type 0 where
  pub head : Head
  pub headers : List Header
  pub body : Option Tree

pub data Kind : Type 0 where
  of_request : Kind
  of_response : Kind

abbrev pub kind_of_head : Head → Kind
kind_of_head (request l) = of_request
kind_of_head (response s) = of_response

abbrev pub kind_of : Message → Kind
kind_of m = kind_of_head m.head

-- ---- whole messages: no hole but in the body, and all but the body in the grammar

abbrev pub is_text : (List ℕ → Bool) → Part → Bool
is_text test (clear s) = test s
is_text test (hole_part n) = false

abbrev pub is_value : Option Part → Bool
is_value None = true
is_value (Some p) = is_text is_query_value p

abbrev pub is_whole_line : Line → Bool
is_whole_line l =
    (is_method l.method && (is_scheme l.scheme && (is_authority l.authority && is_version l.version)))
    && ((nat_lt 0 (length l.segments) && list_all (is_text is_segment) l.segments)
    && list_all (λ p. is_query_name p.name && is_value p.value) l.query)

abbrev pub is_whole_head : Head → Bool
is_whole_head (request l) = is_whole_line l
is_whole_head (response s) = is_within 100 999 s

abbrev pub is_lower_name : List ℕ → Bool
is_lower_name s = is_header_name s && bytes_eq (lower s) s

abbrev pub is_whole_header : Header → Bool
is_whole_header h = is_lower_name h.name && is_text is_header_value h.value

abbrev pub is_whole : Message → Bool
is_whole m = is_whole_head m.head && list_all is_whole_header m.headers

abbrev pub body_depth : Option Tree → ℕ
body_depth None = 0
body_depth (Some t) = depth t

-- ---- the documents

pub data Member : Type 0 where
  no_object : Member
  request_line : Member
  status_line : Member
  method : Member
  scheme : Member
  authority : Member
  path : Member
  version : Member
  query : Member
  headers : Member

-- a member's name, or `message` where the document is no object
abbrev pub member_name : Member → List ℕ
member_name no_object = codes "message"
member_name request_line = codes "requestLine"
member_name status_line = codes "statusLine"
member_name method = codes "method"
member_name scheme = codes "scheme"
member_name authority = codes "authority"
member_name path = codes "path"
member_name version = codes "protocolVersion"
member_name query = codes "queryFragment"
member_name headers = codes "headers"

abbrev pub wanted : {A E : Type 0} → Option A → E → Result A E
wanted None e = Err e
wanted (Some x) e = Ok x

-- the member k of an object, if it is a text that passes the test
abbrev pub text_if : (List ℕ → Bool) → Tree → Option (List ℕ)
text_if test null = None
text_if test (truth b) = None
text_if test (whole z) = None
text_if test (words s) = if test s then Some s else None
text_if test (items ts) = None
text_if test (members ms) = None

abbrev pub text_in : (List ℕ → Bool) → Option Tree → Option (List ℕ)
text_in test None = None
text_in test (Some t) = text_if test t

abbrev pub text_at : (List ℕ → Bool) → List ℕ → Members → Option (List ℕ)
text_at test k ms = text_in test (get_member k ms)

abbrev pub onto_read : {B : Type 0} → Option B → Option (List B) → Option (List B)
onto_read None ys = None
onto_read (Some y) None = None
onto_read (Some y) (Some ys) = Some (y ∷ ys)

-- each read, or nothing
abbrev pub all_read : {A B : Type 0} → (A → Option B) → List A → Option (List B)
all_read f [] = Some []
all_read f (x ∷ xs) = onto_read (f x) (all_read f xs)

-- a text as a part, if it passes the test
abbrev pub clear_part : (List ℕ → Bool) → List ℕ → Option Part
clear_part test s = if test s then Some (clear s) else None

-- a path is one or more times `/` and a segment
abbrev pub segments_of : (List ℕ → Option Part) → List ℕ → Option (List Part)
segments_of part [] = None
segments_of part (b ∷ bs) = if b == 47 then all_read part (pieces 47 bs) else None

abbrev pub pair_of : (List ℕ → Option Part) → List ℕ × Option (List ℕ) → Option Pair
pair_of part (name, None) = if is_query_name name then Some (record { name = name; value = None }) else None
pair_of part (name, Some v) = if is_query_name name then option_map (λ p. record { name = name; value = Some p }) (part v) else None

abbrev pub query_of : (List ℕ → Option Part) → Option Tree → Option (List Pair)
query_of part None = Some []
query_of part (Some null) = None
query_of part (Some (truth b)) = None
query_of part (Some (whole z)) = None
query_of part (Some (words s)) = all_read (λ p. pair_of part (cut_at 61 p)) (pieces 38 s)
query_of part (Some (items ts)) = None
query_of part (Some (members ms)) = None

-- how the texts of a line and the values of headers are read as parts
pub record Parts : Type 0 where
  pub segment : List ℕ → Option Part
  pub value : List ℕ → Option Part
  pub header : Tree → Option Part

abbrev pub any_text : List ℕ → Bool
any_text s = true

abbrev pub line_of : Parts → Members → Result Line Member
line_of parts ms =
    wanted (text_at is_method (codes "method") ms) method >>= λ m.
    wanted (text_at is_scheme (codes "scheme") ms) scheme >>= λ s.
    wanted (text_at is_authority (codes "authority") ms) authority >>= λ a.
    wanted (text_at any_text (codes "path") ms) path >>= λ p.
    wanted (segments_of parts.segment p) path >>= λ ss.
    wanted (text_at is_version (codes "protocolVersion") ms) version >>= λ v.
    wanted (query_of parts.value (get_member (codes "queryFragment") ms)) query >>= λ q.
    Ok (record { method = m; scheme = s; authority = a; version = v; segments = ss; query = q })

abbrev pub request_of : Parts → Tree → Result Head Member
request_of parts null = Err request_line
request_of parts (truth b) = Err request_line
request_of parts (whole z) = Err request_line
request_of parts (words s) = Err request_line
request_of parts (items ts) = Err request_line
request_of parts (members ms) = line_of parts ms >>= λ l. Ok (request l)

abbrev pub status_head : Option ℕ → Result Head Member
status_head None = Err status_line
status_head (Some n) = if is_within 100 999 n then Ok (response n) else Err status_line

abbrev pub status_text : Tree → Option ℕ
status_text null = None
status_text (truth b) = None
status_text (whole z) = None
status_text (words s) = status_of s
status_text (items ts) = None
status_text (members ms) = None

-- a document has one of the two lines
abbrev pub head_of_lines : Parts → Option Tree → Option Tree → Result Head Member
head_of_lines parts None None = Err request_line
head_of_lines parts (Some r) None = request_of parts r
head_of_lines parts None (Some s) = status_head (status_text s)
head_of_lines parts (Some r) (Some s) = Err status_line

abbrev pub head_of : Parts → Members → Result Head Member
head_of parts ms = head_of_lines parts (get_member (codes "requestLine") ms) (get_member (codes "statusLine") ms)

abbrev pub part_in : Parts → Option Tree → Option Part
part_in parts None = None
part_in parts (Some t) = parts.header t

abbrev pub header_from : Option (List ℕ) → Option Part → Option Header
header_from None v = None
header_from (Some n) None = None
header_from (Some n) (Some v) = Some (record { name = lower n; value = v })

abbrev pub header_of : Parts → Tree → Option Header
header_of parts null = None
header_of parts (truth b) = None
header_of parts (whole z) = None
header_of parts (words s) = None
header_of parts (items ts) = None
header_of parts (members ms) = header_from (text_at is_header_name (codes "header") ms) (part_in parts (get_member (codes "value") ms))

abbrev pub headers_of : Parts → Option Tree → Option (List Header)
headers_of parts None = Some []
headers_of parts (Some t) = option_and_then (all_read (header_of parts)) (items_in (Some t))

-- in a plain document each part is a text of its grammar
abbrev pub plain_parts : Parts
plain_parts = record {
  segment = clear_part is_segment;
  value = clear_part is_query_value;
  header = λ t. option_map clear (text_if is_header_value t);
}

-- a request line that is there is an object, also beside a status line
abbrev pub line_form : Option Tree → Result (Unit {0}) Member
line_form None = Ok tt
line_form (Some null) = Err request_line
line_form (Some (truth b)) = Err request_line
line_form (Some (whole z)) = Err request_line
line_form (Some (words s)) = Err request_line
line_form (Some (items ts)) = Err request_line
line_form (Some (members ms)) = Ok tt

-- the message that a document is of, or the first member that is wrong. Other members are ignored
abbrev pub message_of : Tree → Result Message Member
message_of null = Err no_object
message_of (truth b) = Err no_object
message_of (whole z) = Err no_object
message_of (words s) = Err no_object
message_of (items ts) = Err no_object
message_of (members ms) =
    line_form (get_member (codes "requestLine") ms) >>= λ u.
    head_of plain_parts ms >>= λ h.
    wanted (headers_of plain_parts (get_member (codes "headers") ms)) headers >>= λ hs.
    Ok (record { head = h; headers = hs; body = get_member (codes "body") ms })
