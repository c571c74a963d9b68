-- The document of a whole message is read to the message.
use Rattle.std.proofs.Common.{◌≡◌, ℕ, List, [], ◌∷◌, ◌++◌, map, length, Bool, true, false, not, ◌&&◌, ◌==◌, Option, Some, None, Result, Ok, refl, ap, ap₂, ◌∙◌, codes, if◌then◌else◌, append-nil}
use Rattle.std.proofs.lemmas.Bool.{and_parts}
use Rattle.std.proofs.lemmas.Slice.Eq.{bytes_eq-Decides}
use Rattle.std.specs.Prelude.{nat_lt}
use Rattle.std.specs.List.{list_all}
use Rattle.spec_documents.specs.Tree.{Tree, words, items, Members, no_members, member, get_member, tree_list}
use Rattle.spec_documents.specs.Place.{◌>>=◌}
use Rattle.spec_documents.specs.Text.{is_uri_byte, is_query_byte, is_segment, is_query_name, is_query_value, is_method, is_scheme, is_authority, is_version, is_header_name, is_header_value, is_within, lower, pieces, joined, cut_at, status_of, index_text}
use Rattle.spec_messages.specs.Message.{Part, clear, hole_part, Pair, Header, Line, Head, request, response, Message, Member, all_read, onto_read, clear_part, is_text, is_value, is_whole, is_whole_line, is_whole_head, is_whole_header, is_lower_name, segments_of, pair_of, query_of, header_of, headers_of, wanted, text_in, line_of, head_of_lines, message_of, plain_parts, line_form, status_head}
use Rattle.spec_messages.specs.Block.{with_query, line_members, header_tree, list_tree, part_tree, part_text, path_text, value_text, query_text, head_text}
use Rattle.spec_messages.specs.Printing.{header_pair, line_tree, with_body, with_headers, message_tree}
use Rattle.spec_documents.proofs.HeadLemmas.{avoids, avoids_by, pieces_more, pieces_one, cut_there, cut_not}
use Rattle.spec_documents.proofs.GuardLemmas.{all-append}
use Rattle.spec_messages.proofs.LineRead.{read_head}

-- ---- parts

read_part : (ok : List ℕ → Bool) (p : Part) → is_text ok p ≡ true → clear_part ok (part_text p) ≡ Some p
read_part ok (clear s) e = rw e refl
read_part ok (hole_part n) e = cc

part_avoids : (f : ℕ → Bool) (c : ℕ) → f c ≡ false → (p : Part) → is_text (list_all f) p ≡ true → avoids c (part_text p) ≡ true
part_avoids f c out (clear s) e = avoids_by f c out s e
part_avoids f c out (hole_part n) e = cc

-- ---- paths

path_pieces_of : (p : Part) (ps : List Part) → list_all (is_text is_segment) (p ∷ ps) ≡ true → pieces 47 (part_text p ++ path_text ps) ≡ map part_text (p ∷ ps)
path_pieces_of p [] e = let q = and_parts (is_text is_segment p) _ e in ap (pieces 47) (append-nil (part_text p)) ∙ pieces_one 47 (part_text p) (part_avoids is_uri_byte 47 refl p q.0)
path_pieces_of p (r ∷ ps) e =
    let q = and_parts (is_text is_segment p) _ e in
    pieces_more 47 (part_text p) (part_text r ++ path_text ps) (part_avoids is_uri_byte 47 refl p q.0) ∙ ap (λ x. part_text p ∷ x) (path_pieces_of r ps q.1)

read_segments : (ps : List Part) → list_all (is_text is_segment) ps ≡ true → all_read (clear_part is_segment) (map part_text ps) ≡ Some ps
read_segments [] e = refl
read_segments (p ∷ ps) e = let q = and_parts (is_text is_segment p) _ e in ap₂ onto_read (read_part is_segment p q.0) (read_segments ps q.1)

read_path : (ps : List Part) → nat_lt 0 (length ps) ≡ true → list_all (is_text is_segment) ps ≡ true → segments_of (clear_part is_segment) (path_text ps) ≡ Some ps
read_path [] l e = cc
read_path (p ∷ ps) l e = ap (all_read (clear_part is_segment)) (path_pieces_of p ps e) ∙ read_segments (p ∷ ps) e

-- ---- queries

abbrev pub is_whole_pair : Pair → Bool
is_whole_pair p = is_query_name p.name && is_value p.value

name_avoids : (c : ℕ) → (is_query_byte c && not (c == 61)) ≡ false → (s : List ℕ) → is_query_name s ≡ true → avoids c s ≡ true
name_avoids c n s e = avoids_by (λ b. is_query_byte b && not (b == 61)) c n s e

pair_avoids : (p : Pair) → is_whole_pair p ≡ true → avoids 38 (value_text p.name p.value) ≡ true
pair_avoids p e = by p.value (and_parts (is_query_name p.name) _ e)
  where
    by : (v : Option Part) → (is_query_name p.name ≡ true) × (is_value v ≡ true) → avoids 38 (value_text p.name v) ≡ true
    by None h = name_avoids 38 refl p.name h.0
    by (Some q) h = all-append (λ b. not (b == 38)) p.name (61 ∷ part_text q) (name_avoids 38 refl p.name h.0) (part_avoids is_query_byte 38 refl q h.1)

read_pair : (p : Pair) → is_whole_pair p ≡ true → pair_of (clear_part is_query_value) (cut_at 61 (value_text p.name p.value)) ≡ Some p
read_pair p e = by p.value (and_parts (is_query_name p.name) _ e)
  where
    by : (v : Option Part) → (is_query_name p.name ≡ true) × (is_value v ≡ true) → pair_of (clear_part is_query_value) (cut_at 61 (value_text p.name v)) ≡ Some (record { name = p.name; value = v })
    by None h = ap (pair_of (clear_part is_query_value)) (cut_not 61 p.name (name_avoids 61 refl p.name h.0)) ∙ rw h.0 refl
    by (Some q) h = ap (pair_of (clear_part is_query_value)) (cut_there 61 p.name (part_text q) (name_avoids 61 refl p.name h.0)) ∙ rw (h.0, read_part is_query_value q h.1) refl

read_pairs : (ps : List Pair) → list_all is_whole_pair ps ≡ true → all_read (λ x. pair_of (clear_part is_query_value) (cut_at 61 x)) (map (λ p. value_text p.name p.value) ps) ≡ Some ps
read_pairs [] e = refl
read_pairs (p ∷ ps) e = let q = and_parts (is_whole_pair p) _ e in ap₂ onto_read (read_pair p q.0) (read_pairs ps q.1)

query_pieces_of : (p : Pair) (ps : List Pair) → list_all is_whole_pair (p ∷ ps) ≡ true → pieces 38 (joined 38 (map (λ p. value_text p.name p.value) (p ∷ ps))) ≡ map (λ p. value_text p.name p.value) (p ∷ ps)
query_pieces_of p [] e = pieces_one 38 (value_text p.name p.value) (pair_avoids p (and_parts (is_whole_pair p) _ e).0)
query_pieces_of p (r ∷ ps) e =
    let q = and_parts (is_whole_pair p) _ e in
    pieces_more 38 (value_text p.name p.value) (joined 38 (map (λ p. value_text p.name p.value) (r ∷ ps))) (pair_avoids p q.0) ∙ ap (λ x. value_text p.name p.value ∷ x) (query_pieces_of r ps q.1)

abbrev query_node : Option (List ℕ) → Option Tree
query_node None = None
query_node (Some q) = Some (words q)

read_query : (ps : List Pair) → list_all is_whole_pair ps ≡ true → query_of (clear_part is_query_value) (query_node (query_text ps)) ≡ Some ps
read_query [] e = refl
read_query (p ∷ ps) e = ap (all_read (λ x. pair_of (clear_part is_query_value) (cut_at 61 x))) (query_pieces_of p ps e) ∙ read_pairs (p ∷ ps) e

-- ---- the line

abbrev request_members : (a m p v s : List ℕ) → Option (List ℕ) → Members
request_members a m p v s q =
    member (codes "authority") (words a) (member (codes "method") (words m) (member (codes "path") (words p) (member (codes "protocolVersion") (words v) (with_query q (member (codes "scheme") (words s) no_members)))))

scheme_at : (a m p v s : List ℕ) (q : Option (List ℕ)) → get_member (codes "scheme") (request_members a m p v s q) ≡ Some (words s)
scheme_at a m p v s None = refl
scheme_at a m p v s (Some q) = refl

query_at : (a m p v s : List ℕ) (q : Option (List ℕ)) → get_member (codes "queryFragment") (request_members a m p v s q) ≡ query_node q
query_at a m p v s None = refl
query_at a m p v s (Some q) = refl

wanted_if : (ok : List ℕ → Bool) (s : List ℕ) (why : Member) → ok s ≡ true → wanted (if ok s then Some s else None) why ≡ Ok s
wanted_if ok s why e = rw e refl

wanted_is : {A : Type 0} (o : Option A) (x : A) (why : Member) → o ≡ Some x → wanted o why ≡ Ok x
wanted_is o x why e = ap (λ r. wanted r why) e

line_by : (rm rs ra rp : Result (List ℕ) Member) (f : List ℕ → Result (List Part) Member) (rv : Result (List ℕ) Member) (rq : Result (List Pair) Member) (l : Line) (p : List ℕ)
    → rm ≡ Ok l.method → rs ≡ Ok l.scheme → ra ≡ Ok l.authority → rp ≡ Ok p → f p ≡ Ok l.segments → rv ≡ Ok l.version → rq ≡ Ok l.query
    → (rm >>= λ m. rs >>= λ s. ra >>= λ a. rp >>= λ p. f p >>= λ ss. rv >>= λ v. rq >>= λ q. Ok (record { method = m; scheme = s; authority = a; version = v; segments = ss; query = q })) ≡ Ok l
line_by rm rs ra rp f rv rq l p em es ea ep ef ev eq = rw (em, es, ea, ep, ef, ev, eq) refl

read_line : (l : Line) → is_whole_line l ≡ true → line_of plain_parts (request_members l.authority l.method (path_text l.segments) l.version l.scheme (query_text l.query)) ≡ Ok l
read_line l e =
    let h = and_parts (is_method l.method && (is_scheme l.scheme && (is_authority l.authority && is_version l.version))) _ e in
    let t = and_parts (is_method l.method) _ h.0 in
    let u = and_parts (is_scheme l.scheme) _ t.1 in
    let v = and_parts (is_authority l.authority) _ u.1 in
    let w = and_parts (nat_lt 0 (length l.segments) && list_all (is_text is_segment) l.segments) _ h.1 in
    let s = and_parts (nat_lt 0 (length l.segments)) _ w.0 in
    let all = request_members l.authority l.method (path_text l.segments) l.version l.scheme (query_text l.query) in
    line_by _ _ _ (Ok (path_text l.segments)) (λ p. wanted (segments_of plain_parts.segment p) Member.path) _ _ l (path_text l.segments)
    (wanted_if is_method l.method Member.method t.0)
    (ap (λ o. wanted (text_in is_scheme o) Member.scheme) (scheme_at l.authority l.method (path_text l.segments) l.version l.scheme (query_text l.query)) ∙ wanted_if is_scheme l.scheme Member.scheme u.0)
    (wanted_if is_authority l.authority Member.authority v.0)
    refl
    (wanted_is (segments_of plain_parts.segment (path_text l.segments)) l.segments Member.path (read_path l.segments s.0 s.1))
    (wanted_if is_version l.version Member.version v.1)
    (wanted_is (query_of plain_parts.value (get_member (codes "queryFragment") all)) l.query Member.query
    (ap (query_of plain_parts.value) (query_at l.authority l.method (path_text l.segments) l.version l.scheme (query_text l.query)) ∙ read_query l.query w.1))

-- ---- headers

read_header : (h : Header) → is_whole_header h ≡ true → header_of plain_parts (header_tree (header_pair h)) ≡ Some h
read_header h e = by h.value (and_parts (is_lower_name h.name) _ e)
  where
    by : (v : Part) → (is_lower_name h.name ≡ true) × (is_text is_header_value v ≡ true) → header_of plain_parts (header_tree (h.name, part_tree v)) ≡ Some (record { name = h.name; value = v })
    by (clear s) g =
        let n = and_parts (is_header_name h.name) _ g.0 in
        let low : lower h.name ≡ h.name = (bytes_eq-Decides (lower h.name) h.name).0 n.1 in
        rw (n.0, g.1) (ap (λ x. Some (record { name = x; value = clear s })) low)
    by (hole_part n) g = let no : false ≡ true = g.1 in cc

read_headers : (hs : List Header) → list_all is_whole_header hs ≡ true → all_read (header_of plain_parts) (tree_list (list_tree header_tree (map header_pair hs))) ≡ Some hs
read_headers [] e = refl
read_headers (h ∷ hs) e = let q = and_parts (is_whole_header h) _ e in ap₂ onto_read (read_header h q.0) (read_headers hs q.1)

abbrev header_node : List Header → Option Tree
header_node [] = None
header_node (h ∷ hs) = Some (items (list_tree header_tree (map header_pair (h ∷ hs))))

read_header_node : (hs : List Header) → list_all is_whole_header hs ≡ true → headers_of plain_parts (header_node hs) ≡ Some hs
read_header_node [] e = refl
read_header_node (h ∷ hs) e = read_headers (h ∷ hs) e

-- ---- the members of the document

abbrev request_node : Head → Option Tree
request_node (request l) = Some (line_tree l)
request_node (response n) = None

abbrev status_node : Head → Option Tree
status_node (request l) = None
status_node (response n) = Some (words (index_text n))

abbrev all_members : Head → List Header → Option Tree → Members
all_members h hs b = with_body b (with_headers hs (line_members (head_text h)))

request_there : (h : Head) (hs : List Header) (b : Option Tree) → get_member (codes "requestLine") (all_members h hs b) ≡ request_node h
request_there (request l) [] None = refl
request_there (request l) [] (Some t) = refl
request_there (request l) (x ∷ hs) None = refl
request_there (request l) (x ∷ hs) (Some t) = refl
request_there (response n) [] None = refl
request_there (response n) [] (Some t) = refl
request_there (response n) (x ∷ hs) None = refl
request_there (response n) (x ∷ hs) (Some t) = refl

status_there : (h : Head) (hs : List Header) (b : Option Tree) → get_member (codes "statusLine") (all_members h hs b) ≡ status_node h
status_there (request l) [] None = refl
status_there (request l) [] (Some t) = refl
status_there (request l) (x ∷ hs) None = refl
status_there (request l) (x ∷ hs) (Some t) = refl
status_there (response n) [] None = refl
status_there (response n) [] (Some t) = refl
status_there (response n) (x ∷ hs) None = refl
status_there (response n) (x ∷ hs) (Some t) = refl

headers_there : (h : Head) (hs : List Header) (b : Option Tree) → get_member (codes "headers") (all_members h hs b) ≡ header_node hs
headers_there (request l) [] None = refl
headers_there (request l) [] (Some t) = refl
headers_there (request l) (x ∷ hs) None = refl
headers_there (request l) (x ∷ hs) (Some t) = refl
headers_there (response n) [] None = refl
headers_there (response n) [] (Some t) = refl
headers_there (response n) (x ∷ hs) None = refl
headers_there (response n) (x ∷ hs) (Some t) = refl

body_there : (h : Head) (hs : List Header) (b : Option Tree) → get_member (codes "body") (all_members h hs b) ≡ b
body_there (request l) [] None = refl
body_there (request l) [] (Some t) = refl
body_there (request l) (x ∷ hs) None = refl
body_there (request l) (x ∷ hs) (Some t) = refl
body_there (response n) [] None = refl
body_there (response n) [] (Some t) = refl
body_there (response n) (x ∷ hs) None = refl
body_there (response n) (x ∷ hs) (Some t) = refl

-- the status is read as in a block that has it
read_status : (n : ℕ) → is_within 100 999 n ≡ true → status_head (status_of (index_text n)) ≡ Ok (response n)
read_status n e = read_head (record { metadata = record { context = []; message = []; ipx = [] }; line = head_text (response n); headers = None; payload = None }) (response n) refl e

read_lines : (h : Head) → is_whole_head h ≡ true → head_of_lines plain_parts (request_node h) (status_node h) ≡ Ok h
read_lines (request l) e = ap (λ r. r >>= λ x. Ok (request x)) (read_line l e)
read_lines (response n) e = read_status n e

read_form : (h : Head) → line_form (request_node h) ≡ Ok tt
read_form (request l) = refl
read_form (response n) = refl

message_by : (r s hn bn : Option Tree) (m : Message) → line_form r ≡ Ok tt → head_of_lines plain_parts r s ≡ Ok m.head → headers_of plain_parts hn ≡ Some m.headers → bn ≡ m.body
    → (line_form r >>= λ u. head_of_lines plain_parts r s >>= λ x. wanted (headers_of plain_parts hn) Member.headers >>= λ ys. Ok (record { head = x; headers = ys; body = bn })) ≡ Ok m
message_by r s hn bn m ef eh es eb = rw (ef, eh, es, eb) refl

pub printed_read : (m : Message) → is_whole m ≡ true → message_of (message_tree m) ≡ Ok m
printed_read m e =
    let p = and_parts (is_whole_head m.head) _ e in
    let ms = all_members m.head m.headers m.body in
    message_by (get_member (codes "requestLine") ms) (get_member (codes "statusLine") ms) (get_member (codes "headers") ms) (get_member (codes "body") ms) m
    (ap line_form (request_there m.head m.headers m.body) ∙ read_form m.head)
    (ap₂ (head_of_lines plain_parts) (request_there m.head m.headers m.body) (status_there m.head m.headers m.body) ∙ read_lines m.head p.0)
    (ap (headers_of plain_parts) (headers_there m.head m.headers m.body) ∙ read_header_node m.headers p.1)
    (body_there m.head m.headers m.body)
