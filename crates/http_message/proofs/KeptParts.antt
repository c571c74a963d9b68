-- The program's reading of a block's line and headers is the definition's, but for great numbers of holes.
use Rattle.std.proofs.Common.{◌≡◌, ℕ, ◌<◌, ◌-◌, ◌^◌, min, List, [], ◌∷◌, map, Bool, true, false, ◌==◌, Option, Some, None, option_map, Result, Ok, Err, refl, ap, ap₂, ◌∙◌, codes, if◌then◌else◌, arith}
use Rattle.std.proofs.lemmas.Bool.{and_parts, ltb-true}
use Rattle.std.specs.List.{list_all}
use Rattle.spec_documents.specs.Tree.{Tree, null, truth, whole, words, items, members, Members, get_member, tree_list}
use Rattle.spec_documents.specs.Place.{◌>>=◌}
use Rattle.spec_documents.specs.Text.{is_segment, is_query_name, is_query_value, is_method, is_scheme, is_authority, is_version, is_header_name, is_header_value, pieces, cut_at}
use Rattle.spec_documents.specs.Hole.{text_hole, hole_index}
use Rattle.spec_messages.specs.Message.{Part, clear, hole_part, Pair, Header, Line, Head, request, response, all_read, onto_read, segments_of, pair_of, query_of, line_of, request_of, status_head, status_text, head_of, head_of_lines, header_of, header_from, headers_of, part_in, wanted, text_at, any_text, text_if}
use Rattle.spec_messages.specs.Message as spec
use Rattle.spec_messages.specs.Block.{block_parts, hole_or_clear}
use Rattle.doc_forms.specs.Capped.{capped}
use Rattle.http_message.specs.declared.form.Form.TheVariants.{Block}
use Rattle.http_message.specs.Forms.{parts_of, hole_or_text}
use Rattle.http_message.specs.Kept.{kept_part, kept_pair, kept_header, kept_line, kept_head, ok_map, is_held, is_held_value, is_held_head, are_held_headers}

-- ---- lists that are read item by item

onto_kept : {B : Type 0} (k : B → B) (o : Option B) (r : Option (List B)) → onto_read (option_map k o) (option_map (map k) r) ≡ option_map (map k) (onto_read o r)
onto_kept k None r = refl
onto_kept k (Some y) None = refl
onto_kept k (Some y) (Some ys) = refl

all_kept : {A B : Type 0} (k : B → B) (f g : A → Option B) → ((x : A) → f x ≡ option_map k (g x)) → (xs : List A) → all_read f xs ≡ option_map (map k) (all_read g xs)
all_kept k f g h [] = refl
all_kept k f g h (x ∷ xs) = ap₂ onto_read (h x) (all_kept k f g h xs) ∙ onto_kept k (g x) (all_read g xs)

if_kept : {B : Type 0} (k : B → B) (t : Bool) (o r : Option B) → o ≡ option_map k r → (if t then o else None) ≡ option_map k (if t then r else None)
if_kept k true o r h = h
if_kept k false o r h = refl

-- ---- parts

text_kept : (test : List ℕ → Bool) (s : List ℕ) (o : Option ℕ) → hole_or_clear test s (option_map capped o) ≡ option_map kept_part (hole_or_clear test s o)
text_kept test s None = if_kept kept_part (test s) (Some (clear s)) (Some (clear s)) refl
text_kept test s (Some n) = refl

text_value : (t : Bool) (s : List ℕ) → option_map clear (if t then Some s else None) ≡ option_map kept_part (if t then Some (clear s) else None)
text_value true s = refl
text_value false s = refl

hole_value : (ms : Members) (o : Option ℕ) → hole_or_text (option_map capped o) (members ms) ≡ option_map kept_part (option_map hole_part o)
hole_value ms None = refl
hole_value ms (Some n) = refl

value_kept : (t : Tree) → (parts_of Block).header t ≡ option_map kept_part (block_parts.header t)
unfolding parts_of
value_kept null = refl
value_kept (truth b) = refl
value_kept (whole z) = refl
value_kept (words s) = text_value (is_header_value s) s
value_kept (items ts) = refl
value_kept (members ms) = hole_value ms (hole_index (members ms))

-- ---- the line

segments_kept : (s : List ℕ) → segments_of (parts_of Block).segment s ≡ option_map (map kept_part) (segments_of block_parts.segment s)
unfolding parts_of
segments_kept [] = refl
segments_kept (b ∷ bs) =
    if_kept (map kept_part) (b == 47) (all_read (parts_of Block).segment (pieces 47 bs)) (all_read block_parts.segment (pieces 47 bs))
    (all_kept kept_part (parts_of Block).segment block_parts.segment (λ x. text_kept is_segment x (text_hole x)) (pieces 47 bs))

pair_value : (name : List ℕ) (o : Option Part) → option_map (λ p. record { name = name; value = Some p }) (option_map kept_part o) ≡ option_map kept_pair (option_map (λ p. record { name = name; value = Some p }) o)
pair_value name None = refl
pair_value name (Some p) = refl

pair_kept : (cut : List ℕ × Option (List ℕ)) → pair_of (parts_of Block).value cut ≡ option_map kept_pair (pair_of block_parts.value cut)
unfolding parts_of
pair_kept (name, None) = if_kept kept_pair (is_query_name name) (Some (record { name = name; value = None })) (Some (record { name = name; value = None })) refl
pair_kept (name, Some v) =
    if_kept kept_pair (is_query_name name) _ _
    (ap (option_map (λ p. record { name = name; value = Some p })) (text_kept is_query_value v (text_hole v)) ∙ pair_value name (block_parts.value v))

query_kept : (o : Option Tree) → query_of (parts_of Block).value o ≡ option_map (map kept_pair) (query_of block_parts.value o)
query_kept None = refl
query_kept (Some null) = refl
query_kept (Some (truth b)) = refl
query_kept (Some (whole z)) = refl
query_kept (Some (words s)) = all_kept kept_pair (λ p. pair_of (parts_of Block).value (cut_at 61 p)) (λ p. pair_of block_parts.value (cut_at 61 p)) (λ x. pair_kept (cut_at 61 x)) (pieces 38 s)
query_kept (Some (items ts)) = refl
query_kept (Some (members ms)) = refl

line_end : (m s a : List ℕ) (x y : Option (List Part)) (v : Option (List ℕ)) (q r : Option (List Pair)) → x ≡ option_map (map kept_part) y → q ≡ option_map (map kept_pair) r
    → (wanted x spec.path >>= λ b. wanted v spec.version >>= λ w. wanted q spec.query >>= λ c. Ok (record { method = m; scheme = s; authority = a; version = w; segments = b; query = c }))
    ≡ ok_map kept_line (wanted y spec.path >>= λ b. wanted v spec.version >>= λ w. wanted r spec.query >>= λ c. Ok (record { method = m; scheme = s; authority = a; version = w; segments = b; query = c }))
line_end m s a x None v q r ex eq = rw (ex) refl
line_end m s a x (Some y) None q r ex eq = rw (ex) refl
line_end m s a x (Some y) (Some w) q None ex eq = rw (ex, eq) refl
line_end m s a x (Some y) (Some w) q (Some r) ex eq = rw (ex, eq) refl

line_start : (m s a p v : Option (List ℕ)) (f g : List ℕ → Option (List Part)) (q r : Option (List Pair)) → ((t : List ℕ) → f t ≡ option_map (map kept_part) (g t)) → q ≡ option_map (map kept_pair) r
    → (wanted m spec.method >>= λ b. wanted s spec.scheme >>= λ c. wanted a spec.authority >>= λ d. wanted p spec.path >>= λ t. wanted (f t) spec.path >>= λ x. wanted v spec.version >>= λ w. wanted q spec.query >>= λ y.
    Ok (record { method = b; scheme = c; authority = d; version = w; segments = x; query = y }))
    ≡ ok_map kept_line (wanted m spec.method >>= λ b. wanted s spec.scheme >>= λ c. wanted a spec.authority >>= λ d. wanted p spec.path >>= λ t. wanted (g t) spec.path >>= λ x. wanted v spec.version >>= λ w. wanted r spec.query >>= λ y.
    Ok (record { method = b; scheme = c; authority = d; version = w; segments = x; query = y }))
line_start None s a p v f g q r ef eq = refl
line_start (Some m) None a p v f g q r ef eq = refl
line_start (Some m) (Some s) None p v f g q r ef eq = refl
line_start (Some m) (Some s) (Some a) None v f g q r ef eq = refl
line_start (Some m) (Some s) (Some a) (Some t) v f g q r ef eq = line_end m s a (f t) (g t) v q r (ef t) eq

line_kept : (ms : Members) → line_of (parts_of Block) ms ≡ ok_map kept_line (line_of block_parts ms)
line_kept ms =
    line_start (text_at is_method (codes "method") ms) (text_at is_scheme (codes "scheme") ms) (text_at is_authority (codes "authority") ms) (text_at any_text (codes "path") ms) (text_at is_version (codes "protocolVersion") ms)
    (segments_of (parts_of Block).segment) (segments_of block_parts.segment)
    (query_of (parts_of Block).value (get_member (codes "queryFragment") ms)) (query_of block_parts.value (get_member (codes "queryFragment") ms))
    segments_kept (query_kept (get_member (codes "queryFragment") ms))

request_by : (r : Result Line spec.Member) → (ok_map kept_line r >>= λ l. Ok (request l)) ≡ ok_map kept_head (r >>= λ l. Ok (request l))
request_by (Ok l) = refl
request_by (Err e) = refl

request_kept : (t : Tree) → request_of (parts_of Block) t ≡ ok_map kept_head (request_of block_parts t)
request_kept null = refl
request_kept (truth b) = refl
request_kept (whole z) = refl
request_kept (words s) = refl
request_kept (items ts) = refl
request_kept (members ms) = ap (λ r. r >>= λ l. Ok (request l)) (line_kept ms) ∙ request_by (line_of block_parts ms)

status_by : (t : Bool) (n : ℕ) → (if t then Ok (response n) else Err spec.status_line) ≡ ok_map kept_head (if t then Ok (response n) else Err spec.status_line)
status_by true n = refl
status_by false n = refl

status_kept : (o : Option ℕ) → status_head o ≡ ok_map kept_head (status_head o)
status_kept None = refl
status_kept (Some n) = status_by _ n

lines_kept : (r s : Option Tree) → head_of_lines (parts_of Block) r s ≡ ok_map kept_head (head_of_lines block_parts r s)
lines_kept None None = refl
lines_kept (Some r) None = request_kept r
lines_kept None (Some s) = status_kept (status_text s)
lines_kept (Some r) (Some s) = refl

pub head_kept : (ms : Members) → head_of (parts_of Block) ms ≡ ok_map kept_head (head_of block_parts ms)
head_kept ms = lines_kept (get_member (codes "requestLine") ms) (get_member (codes "statusLine") ms)

-- ---- the headers

from_kept : (n : Option (List ℕ)) (v : Option Part) → header_from n (option_map kept_part v) ≡ option_map kept_header (header_from n v)
from_kept None v = refl
from_kept (Some n) None = refl
from_kept (Some n) (Some v) = refl

part_kept : (o : Option Tree) → part_in (parts_of Block) o ≡ option_map kept_part (part_in block_parts o)
part_kept None = refl
part_kept (Some t) = value_kept t

header_kept : (t : Tree) → header_of (parts_of Block) t ≡ option_map kept_header (header_of block_parts t)
header_kept null = refl
header_kept (truth b) = refl
header_kept (whole z) = refl
header_kept (words s) = refl
header_kept (items ts) = refl
header_kept (members ms) =
    ap (header_from (text_at is_header_name (codes "header") ms)) (part_kept (get_member (codes "value") ms))
    ∙ from_kept (text_at is_header_name (codes "header") ms) (part_in block_parts (get_member (codes "value") ms))

pub headers_kept : (o : Option Tree) → headers_of (parts_of Block) o ≡ option_map (map kept_header) (headers_of block_parts o)
headers_kept None = refl
headers_kept (Some null) = refl
headers_kept (Some (truth b)) = refl
headers_kept (Some (whole z)) = refl
headers_kept (Some (words s)) = refl
headers_kept (Some (items ts)) = all_kept kept_header (header_of (parts_of Block)) (header_of block_parts) header_kept (tree_list ts)
headers_kept (Some (members ms)) = refl

-- ---- where each number is held, all is kept as it is

same_part : (p : Part) → is_held p ≡ true → kept_part p ≡ p
same_part (clear s) h = refl
same_part (hole_part n) h =
    let low : n < 2 ^ 32 = ltb-true n (2 ^ 32) h in
    let same : min n (2 ^ 32 - 1) ≡ n = omega arith in
    ap hole_part same

same_value : (o : Option Part) → is_held_value o ≡ true → option_map kept_part o ≡ o
same_value None h = refl
same_value (Some p) h = ap Some (same_part p h)

same_list : {B : Type 0} (k : B → B) (test : B → Bool) → ((x : B) → test x ≡ true → k x ≡ x) → (xs : List B) → list_all test xs ≡ true → map k xs ≡ xs
same_list k test h [] e = refl
same_list k test h (x ∷ xs) e = let p = and_parts (test x) (list_all test xs) e in ap₂ ◌∷◌ (h x p.0) (same_list k test h xs p.1)

pub same_head : (h : Head) → is_held_head h ≡ true → kept_head h ≡ h
same_head (request l) e =
    let p = and_parts (list_all is_held l.segments) (list_all (λ p. is_held_value p.value) l.query) e in
    let s = same_list kept_part is_held same_part l.segments p.0 in
    let q = same_list kept_pair (λ p. is_held_value p.value) (λ x g. ap (λ v. record { name = x.name; value = v }) (same_value x.value g)) l.query p.1 in
    ap request (λ i. record { method = l.method; scheme = l.scheme; authority = l.authority; version = l.version; segments = s i; query = q i })
same_head (response s) e = refl

pub same_headers : (hs : List Header) → are_held_headers hs ≡ true → map kept_header hs ≡ hs
same_headers hs e = same_list kept_header (λ h. is_held h.value) (λ x g. ap (λ v. record { name = x.name; value = v }) (same_part x.value g)) hs e
