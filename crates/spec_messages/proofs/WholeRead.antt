-- What is read from a document is whole.
use Rattle.std.proofs.Common.{not, codes, ◌+◌, ◌≤◌, nat_le, ◌≡◌, ℕ, suc, List, [], ◌∷◌, Bool, true, false, ◌&&◌, ◌==◌, Option, Some, None, option_map, Result, Ok, Err, refl, sym, ap, ap₂, bytes_eq, ◌∙◌, subst, length, nat_lt, arith, if◌then◌else◌}
use Rattle.std.specs.List.{list_all}
use Rattle.std.proofs.lemmas.Bool.{and_from, and_parts, or_left, or_right, lt-ltb, leb-true, le-leb, eq-eqb, eqb-true}
use Rattle.spec_documents.specs.Tree.{Members, get_member, tree_list, Tree, null, truth, whole, words, items, members}
use Rattle.spec_documents.specs.Text.{is_method, is_scheme, is_authority, is_version, lower, lower_byte, is_within, has_length, is_token_byte, is_header_name, is_header_value, pieces, cut_at, is_segment, is_query_name, is_query_value}
use Rattle.spec_messages.specs.Message.{Line, Head, Message, request, response, is_whole, is_whole_head, is_whole_line, message_of, line_form, head_of, head_of_lines, request_of, status_head, status_text, line_of, any_text, wanted, Header, header_from, header_of, headers_of, part_in, plain_parts, is_whole_header, is_lower_name, text_at, Pair, is_value, pair_of, query_of, Part, clear, all_read, onto_read, text_in, clear_part, is_text, segments_of}
use Rattle.spec_messages.specs.Message as spec
use Rattle.spec_documents.specs.Place.{◌>>=◌}
use Rattle.spec_documents.proofs.TreeLemmas.{bind_ok}
use Rattle.std.proofs.lemmas.List.{length-map}
use Rattle.spec_messages.proofs.PieceLemmas.{cut_pieces, pieces_after}

chosen_some : {A : Type 0} (t : Bool) (x y : A) → (if t then Some x else None) ≡ Some y → (t ≡ true) × (x ≡ y)
chosen_some true x y e = let same : x ≡ y = cc in (refl, same)
chosen_some false x y e = cc

pub text_passes : (test : List ℕ → Bool) (o : Option Tree) (s : List ℕ) → text_in test o ≡ Some s → test s ≡ true
text_passes test None s e = cc
text_passes test (Some null) s e = cc
text_passes test (Some (truth b)) s e = cc
text_passes test (Some (whole z)) s e = cc
text_passes test (Some (words r)) s e = let h = chosen_some (test r) r s e in subst (λ x. test x ≡ true) h.1 h.0
text_passes test (Some (items ts)) s e = cc
text_passes test (Some (members ms)) s e = cc

pub part_passes : (test : List ℕ → Bool) (s : List ℕ) (p : Part) → clear_part test s ≡ Some p → is_text test p ≡ true
part_passes test s p e = let h = chosen_some (test s) (clear s) p e in subst (λ x. is_text test x ≡ true) h.1 h.0

onto_parts : {B : Type 0} (o : Option B) (r : Option (List B)) (ys : List B) → onto_read o r ≡ Some ys → (y : B) × (zs : List B) × (o ≡ Some y) × (r ≡ Some zs) × (y ∷ zs ≡ ys)
onto_parts None r ys e = cc
onto_parts (Some y) None ys e = cc
onto_parts (Some y) (Some zs) ys e = let same : y ∷ zs ≡ ys = cc in (y, zs, refl, refl, same)

pub all_pass : {A B : Type 0} (f : A → Option B) (test : B → Bool) → ((x : A) (y : B) → f x ≡ Some y → test y ≡ true) → (xs : List A) (ys : List B) → all_read f xs ≡ Some ys → list_all test ys ≡ true
all_pass f test h [] ys e = let same : [] ≡ ys = cc in subst (λ zs. list_all test zs ≡ true) same refl
all_pass f test h (x ∷ xs) ys e =
    let p = onto_parts (f x) (all_read f xs) ys e in
    subst (λ zs. list_all test zs ≡ true) p.4 (and_from _ _ (h x p.0 p.2) (all_pass f test h xs p.1 p.3))

some_piece : {B : Type 0} (f : List ℕ → Option B) (c : ℕ) (cut : List ℕ × Option (List ℕ)) (ys : List B) → all_read f (pieces_after c cut) ≡ Some ys → nat_lt 0 (length ys) ≡ true
some_piece f c (front, None) ys e = let p = onto_parts (f front) (Some []) ys e in subst (λ zs. nat_lt 0 (length zs) ≡ true) p.4 (lt-ltb 0 (suc (length p.1)) (omega arith))
some_piece f c (front, Some rest) ys e = let p = onto_parts (f front) (all_read f (pieces c rest)) ys e in subst (λ zs. nat_lt 0 (length zs) ≡ true) p.4 (lt-ltb 0 (suc (length p.1)) (omega arith))

pub pieces_pass : (f : List ℕ → Option Part) (test : Part → Bool) → ((x : List ℕ) (y : Part) → f x ≡ Some y → test y ≡ true) → (c : ℕ) (bs : List ℕ) (ys : List Part) → all_read f (pieces c bs) ≡ Some ys → (nat_lt 0 (length ys) && list_all test ys) ≡ true
pieces_pass f test h c bs ys e = and_from _ _ (some_piece f c (cut_at c bs) ys (ap (all_read f) (sym (cut_pieces c bs)) ∙ e)) (all_pass f test h (pieces c bs) ys e)

-- ---- the path and the query

chosen_opt : {A : Type 0} (t : Bool) (o : Option A) (y : A) → (if t then o else None) ≡ Some y → (t ≡ true) × (o ≡ Some y)
chosen_opt true o y e = (refl, e)
chosen_opt false o y e = cc

mapped_some : {A B : Type 0} (f : A → B) (o : Option A) (y : B) → option_map f o ≡ Some y → (x : A) × (o ≡ Some x) × (f x ≡ y)
mapped_some f None y e = cc
mapped_some f (Some x) y e = let same : f x ≡ y = cc in (x, refl, same)

pub path_passes : (s : List ℕ) (ss : List Part) → segments_of (clear_part is_segment) s ≡ Some ss → (nat_lt 0 (length ss) && list_all (is_text is_segment) ss) ≡ true
path_passes [] ss e = cc
path_passes (b ∷ bs) ss e = pieces_pass (clear_part is_segment) (is_text is_segment) (part_passes is_segment) 47 bs ss (chosen_opt (b == 47) (all_read (clear_part is_segment) (pieces 47 bs)) ss e).1

abbrev pub is_pair : Pair → Bool
is_pair p = is_query_name p.name && is_value p.value

pub pair_passes : (cut : List ℕ × Option (List ℕ)) (q : Pair) → pair_of (clear_part is_query_value) cut ≡ Some q → is_pair q ≡ true
pair_passes (name, None) q e = let h = chosen_some (is_query_name name) (record { name = name; value = None }) q e in subst (λ x. is_pair x ≡ true) h.1 (and_from _ _ h.0 refl)
pair_passes (name, Some v) q e =
    let h = chosen_opt (is_query_name name) (option_map (λ p. record { name = name; value = Some p }) (clear_part is_query_value v)) q e in
    let m = mapped_some (λ p. record { name = name; value = Some p }) (clear_part is_query_value v) q h.1 in
    subst (λ x. is_pair x ≡ true) m.2 (and_from _ _ h.0 (part_passes is_query_value v m.0 m.1))

pub query_passes : (o : Option Tree) (qs : List Pair) → query_of (clear_part is_query_value) o ≡ Some qs → list_all is_pair qs ≡ true
query_passes None qs e = let same : [] ≡ qs = cc in subst (λ x. list_all is_pair x ≡ true) same refl
query_passes (Some null) qs e = cc
query_passes (Some (truth b)) qs e = cc
query_passes (Some (whole z)) qs e = cc
query_passes (Some (words s)) qs e = all_pass (λ p. pair_of (clear_part is_query_value) (cut_at 61 p)) is_pair (λ x y h. pair_passes (cut_at 61 x) y h) (pieces 38 s) qs e
query_passes (Some (items ts)) qs e = cc
query_passes (Some (members ms)) qs e = cc

-- ---- names in lower case

other_byte : (t : Bool) (b : ℕ) → (b + 32 == b) ≡ t → t ≡ false
other_byte true b e = let no : b + 32 ≡ b = eqb-true (b + 32) b e in absurd (omega arith)
other_byte false b e = refl

lower_step : (t : Bool) (b : ℕ) → ((if t then b + 32 else b) == b) ≡ not t
lower_step true b = other_byte (b + 32 == b) b refl
lower_step false b = eq-eqb b b refl

pub lower_same : (s : List ℕ) → bytes_eq (lower s) s ≡ list_all (λ b. not (is_within 65 90 b)) s
lower_same [] = refl
lower_same (b ∷ s) = ap₂ ◌&&◌ (lower_step (is_within 65 90 b) b) (lower_same s)

-- ---- headers

and_false : (x : Bool) → (x && false) ≡ false
and_false true = refl
and_false false = refl

too_great : (u : Bool) (b : ℕ) → nat_le (b + 32) 90 ≡ u → 65 ≤ b → u ≡ false
too_great true b e h = let no : b + 32 ≤ 90 = leb-true (b + 32) 90 e in absurd (omega arith)
too_great false b e h = refl

lower_byte_low : (t : Bool) (b : ℕ) → is_within 65 90 b ≡ t → not (is_within 65 90 (if t then b + 32 else b)) ≡ true
lower_byte_low true b e =
    let p = and_parts (nat_le 65 b) (nat_le b 90) e in
    let q : nat_le (b + 32) 90 ≡ false = too_great (nat_le (b + 32) 90) b refl (leb-true 65 b p.0) in
    ap not (ap (λ x. nat_le 65 (b + 32) && x) q ∙ and_false (nat_le 65 (b + 32)))
lower_byte_low false b e = ap not e

lower_byte_token : (t : Bool) (b : ℕ) → is_within 65 90 b ≡ t → is_token_byte b ≡ true → is_token_byte (if t then b + 32 else b) ≡ true
lower_byte_token true b e h =
    let p = and_parts (nat_le 65 b) (nat_le b 90) e in
    let low : 65 ≤ b = leb-true 65 b p.0 in
    let high : b ≤ 90 = leb-true b 90 p.1 in
    or_left _ _ (or_right _ _ (or_right _ _ (and_from _ _ (le-leb 97 (b + 32) (omega arith)) (le-leb (b + 32) 122 (omega arith)))))
lower_byte_token false b e h = h

lower_low : (s : List ℕ) → list_all (λ b. not (is_within 65 90 b)) (lower s) ≡ true
lower_low [] = refl
lower_low (b ∷ s) = and_from _ _ (lower_byte_low (is_within 65 90 b) b refl) (lower_low s)

lower_tokens : (s : List ℕ) → list_all is_token_byte s ≡ true → list_all is_token_byte (lower s) ≡ true
lower_tokens [] h = refl
lower_tokens (b ∷ s) h = let p = and_parts (is_token_byte b) (list_all is_token_byte s) h in and_from _ _ (lower_byte_token (is_within 65 90 b) b refl p.0) (lower_tokens s p.1)

pub lower_passes : (s : List ℕ) → is_header_name s ≡ true → is_lower_name (lower s) ≡ true
lower_passes s h =
    let p = and_parts (has_length 1 255 s) (list_all is_token_byte s) h in
    and_from _ _ (and_from _ _ (ap (is_within 1 255) (length-map s lower_byte) ∙ p.0) (lower_tokens s p.1)) (lower_same (lower s) ∙ lower_low s)

header_by : (n : Option (List ℕ)) (v : Option Part) (h : Header) → ((s : List ℕ) → n ≡ Some s → is_header_name s ≡ true) → ((p : Part) → v ≡ Some p → is_text is_header_value p ≡ true) → header_from n v ≡ Some h → is_whole_header h ≡ true
header_by None v h a b e = cc
header_by (Some n) None h a b e = cc
header_by (Some n) (Some v) h a b e =
    let same : record { name = lower n; value = v } ≡ h = cc in
    subst (λ x. is_whole_header x ≡ true) same (and_from _ _ (lower_passes n (a n refl)) (b v refl))

value_passes : (o : Option Tree) (p : Part) → part_in plain_parts o ≡ Some p → is_text is_header_value p ≡ true
value_passes None p e = cc
value_passes (Some t) p e =
    let m = mapped_some clear (text_in is_header_value (Some t)) p e in
    subst (λ x. is_text is_header_value x ≡ true) m.2 (text_passes is_header_value (Some t) m.0 m.1)

pub header_passes : (t : Tree) (h : Header) → header_of plain_parts t ≡ Some h → is_whole_header h ≡ true
header_passes null h e = cc
header_passes (truth b) h e = cc
header_passes (whole z) h e = cc
header_passes (words s) h e = cc
header_passes (items ts) h e = cc
header_passes (members ms) h e =
    header_by (text_at is_header_name (codes "header") ms) (part_in plain_parts (get_member (codes "value") ms)) h
    (λ s is. text_passes is_header_name (get_member (codes "header") ms) s is) (λ p is. value_passes (get_member (codes "value") ms) p is) e

pub headers_pass : (o : Option Tree) (hs : List Header) → headers_of plain_parts o ≡ Some hs → list_all is_whole_header hs ≡ true
headers_pass None hs e = let same : [] ≡ hs = cc in subst (λ x. list_all is_whole_header x ≡ true) same refl
headers_pass (Some null) hs e = cc
headers_pass (Some (truth b)) hs e = cc
headers_pass (Some (whole z)) hs e = cc
headers_pass (Some (words s)) hs e = cc
headers_pass (Some (items ts)) hs e = all_pass (header_of plain_parts) is_whole_header header_passes (tree_list ts) hs e
headers_pass (Some (members ms)) hs e = cc

-- ---- the line

line_end : (m s a : List ℕ) (xs : Option (List Part)) (v : Option (List ℕ)) (q : Option (List Pair)) (l : Line)
    → is_method m ≡ true → is_scheme s ≡ true → is_authority a ≡ true
    → ((x : List Part) → xs ≡ Some x → (nat_lt 0 (length x) && list_all (is_text is_segment) x) ≡ true)
    → ((x : List ℕ) → v ≡ Some x → is_version x ≡ true)
    → ((x : List Pair) → q ≡ Some x → list_all is_pair x ≡ true)
    → (wanted xs spec.path >>= λ x. wanted v spec.version >>= λ w. wanted q spec.query >>= λ y. Ok (record { method = m; scheme = s; authority = a; version = w; segments = x; query = y })) ≡ Ok l
    → is_whole_line l ≡ true
line_end m s a None v q l hm hs ha hx hv hq e = cc
line_end m s a (Some x) None q l hm hs ha hx hv hq e = cc
line_end m s a (Some x) (Some w) None l hm hs ha hx hv hq e = cc
line_end m s a (Some x) (Some w) (Some y) l hm hs ha hx hv hq e =
    let same : record { method = m; scheme = s; authority = a; version = w; segments = x; query = y } ≡ l = cc in
    subst (λ z. is_whole_line z ≡ true) same (and_from _ _ (and_from _ _ hm (and_from _ _ hs (and_from _ _ ha (hv w refl)))) (and_from _ _ (hx x refl) (hq y refl)))

line_start : (m s a p v : Option (List ℕ)) (f : List ℕ → Option (List Part)) (q : Option (List Pair)) (l : Line)
    → ((x : List ℕ) → m ≡ Some x → is_method x ≡ true) → ((x : List ℕ) → s ≡ Some x → is_scheme x ≡ true) → ((x : List ℕ) → a ≡ Some x → is_authority x ≡ true)
    → ((t : List ℕ) (x : List Part) → f t ≡ Some x → (nat_lt 0 (length x) && list_all (is_text is_segment) x) ≡ true)
    → ((x : List ℕ) → v ≡ Some x → is_version x ≡ true)
    → ((x : List Pair) → q ≡ Some x → list_all is_pair x ≡ true)
    → (wanted m spec.method >>= λ b. wanted s spec.scheme >>= λ c. wanted a spec.authority >>= λ d. wanted p spec.path >>= λ t. wanted (f t) spec.path >>= λ x. wanted v spec.version >>= λ w. wanted q spec.query >>= λ y.
    Ok (record { method = b; scheme = c; authority = d; version = w; segments = x; query = y })) ≡ Ok l
    → is_whole_line l ≡ true
line_start None s a p v f q l hm hs ha hx hv hq e = cc
line_start (Some m) None a p v f q l hm hs ha hx hv hq e = cc
line_start (Some m) (Some s) None p v f q l hm hs ha hx hv hq e = cc
line_start (Some m) (Some s) (Some a) None v f q l hm hs ha hx hv hq e = cc
line_start (Some m) (Some s) (Some a) (Some t) v f q l hm hs ha hx hv hq e = line_end m s a (f t) v q l (hm m refl) (hs s refl) (ha a refl) (hx t) hv hq e

pub line_passes : (ms : Members) (l : Line) → line_of plain_parts ms ≡ Ok l → is_whole_line l ≡ true
line_passes ms l e =
    line_start (text_at is_method (codes "method") ms) (text_at is_scheme (codes "scheme") ms) (text_at is_authority (codes "authority") ms) (text_at any_text (codes "path") ms) (text_at is_version (codes "protocolVersion") ms)
    (segments_of (clear_part is_segment)) (query_of (clear_part is_query_value) (get_member (codes "queryFragment") ms)) l
    (λ x h. text_passes is_method (get_member (codes "method") ms) x h) (λ x h. text_passes is_scheme (get_member (codes "scheme") ms) x h) (λ x h. text_passes is_authority (get_member (codes "authority") ms) x h)
    (λ t x h. path_passes t x h) (λ x h. text_passes is_version (get_member (codes "protocolVersion") ms) x h) (λ x h. query_passes (get_member (codes "queryFragment") ms) x h) e

-- ---- the message

request_passes : (t : Tree) (h : Head) → request_of plain_parts t ≡ Ok h → is_whole_head h ≡ true
request_passes null h e = cc
request_passes (truth b) h e = cc
request_passes (whole z) h e = cc
request_passes (words s) h e = cc
request_passes (items ts) h e = cc
request_passes (members ms) h e =
    let b = bind_ok (line_of plain_parts ms) (λ l. Ok (request l)) h e in
    let same : request b.0 ≡ h = cc in
    subst (λ x. is_whole_head x ≡ true) same (line_passes ms b.0 b.1)

status_step : (t : Bool) (n : ℕ) (h : Head) → is_within 100 999 n ≡ t → (if t then Ok (response n) else Err spec.status_line) ≡ Ok h → is_whole_head h ≡ true
status_step true n h w e = let same : response n ≡ h = cc in subst (λ x. is_whole_head x ≡ true) same w
status_step false n h w e = cc

status_passes : (o : Option ℕ) (h : Head) → status_head o ≡ Ok h → is_whole_head h ≡ true
status_passes None h e = cc
status_passes (Some n) h e = status_step (is_within 100 999 n) n h refl e

head_passes : (r s : Option Tree) (h : Head) → head_of_lines plain_parts r s ≡ Ok h → is_whole_head h ≡ true
head_passes None None h e = cc
head_passes (Some r) None h e = request_passes r h e
head_passes None (Some s) h e = status_passes (status_text s) h e
head_passes (Some r) (Some s) h e = cc

message_by : (f : Result (Unit {0}) spec.Member) (h : Result Head spec.Member) (hs : Option (List Header)) (body : Option Tree) (m : Message) → ((x : Head) → h ≡ Ok x → is_whole_head x ≡ true) → ((x : List Header) → hs ≡ Some x → list_all is_whole_header x ≡ true)
    → (f >>= λ u. h >>= λ x. wanted hs spec.headers >>= λ ys. Ok (record { head = x; headers = ys; body = body })) ≡ Ok m → is_whole m ≡ true
message_by (Err k) h hs body m a b e = cc
message_by (Ok u) (Err k) hs body m a b e = cc
message_by (Ok u) (Ok x) None body m a b e = cc
message_by (Ok u) (Ok x) (Some ys) body m a b e =
    let same : record { head = x; headers = ys; body = body } ≡ m = cc in
    subst (λ z. is_whole z ≡ true) same (and_from _ _ (a x refl) (b ys refl))

pub read_whole : (t : Tree) (m : Message) → message_of t ≡ Ok m → is_whole m ≡ true
read_whole null m e = cc
read_whole (truth b) m e = cc
read_whole (whole z) m e = cc
read_whole (words s) m e = cc
read_whole (items ts) m e = cc
read_whole (members ms) m e =
    message_by (line_form (get_member (codes "requestLine") ms)) (head_of plain_parts ms) (headers_of plain_parts (get_member (codes "headers") ms)) (get_member (codes "body") ms) m
    (λ x h. head_passes (get_member (codes "requestLine") ms) (get_member (codes "statusLine") ms) x h) (λ x h. headers_pass (get_member (codes "headers") ms) x h) e
