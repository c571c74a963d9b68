-- Filling by where each node stands is the fill of the block.
use Rattle.std.proofs.Common.{◌≡◌, ℕ, List, [], ◌∷◌, Bool, true, false, Option, Some, None, Result, Ok, Err, Ordering, Less, Equal, Greater, refl, sym, ap, ap₂, ◌∙◌, if◌then◌else◌, codes, inl, inr}
use Rattle.std.specs.Prelude.{◌⊎◌, bytes_eq, ⊤}
use Rattle.std.specs.Ordering.{is_lt}
use Rattle.std.specs.Cmp.Lexicographic.{nat_list_cmp_total}
use Rattle.std.proofs.lemmas.Bool.{and_parts}
use Rattle.std.proofs.lemmas.Slice.Eq.{bytes_eq-Decides}
use Rattle.spec_documents.specs.Tree.{Tree, null, truth, whole, words, items, members, Trees, no_items, item, Members, no_members, member, name_cmp, get_member, set_member, before_first, is_ordered, are_ordered, are_members}
use Rattle.spec_documents.specs.Place.{Pointer, Cause, no_place, found, ◌>>=◌, child, at, with, put_child, or_same}
use Rattle.spec_documents.specs.Hole.{has_mark, hole_members, object_or, fill, fill_items, fill_members, fill_here, adjust, adjusted, on_words, on_items, map_items, filled_path, filled_query, fill_lines, fill_objects, fill_all, path_pointer, query_pointer}
use Rattle.spec_documents.proofs.TreeLemmas.{name_self, same_name, get_past}
use Rattle.spec_documents.proofs.OpLemmas.{by_name}
use Rattle.spec_documents.proofs.ApartLemmas.{Apart, set_past, set_here}
use Rattle.spec_documents.proofs.SameLemmas.{with-same}
use Rattle.enc_index.specs.declared.site.Site.{Site}
use Rattle.enc_index.specs.declared.site.Site.TheVariants.{Block, RequestLine, Path, Query, Headers, Header, HeaderValue, Payload, Item, Value, Elsewhere}
use Rattle.enc_index.specs.Sites.{member_site, entered_site, hole_at, filled_at, filled_items, filled_members}

-- ---- elsewhere nothing changes

mutual
  pub elsewhere : (vs : List Tree) (t : Tree) → filled_at Elsewhere vs t ≡ t
  elsewhere vs null = refl
  elsewhere vs (truth b) = refl
  elsewhere vs (whole z) = refl
  elsewhere vs (words s) = refl
  elsewhere vs (items ts) = ap items (elsewhere_items vs ts)
  elsewhere vs (members ms) = ap members (elsewhere_members vs ms)

  elsewhere_items : (vs : List Tree) (ts : Trees) → filled_items Elsewhere vs ts ≡ ts
  elsewhere_items vs no_items = refl
  elsewhere_items vs (item t ts) = ap₂ item (elsewhere vs t) (elsewhere_items vs ts)

  elsewhere_members : (vs : List Tree) (ms : Members) → filled_members Elsewhere vs ms ≡ ms
  elsewhere_members vs no_members = refl
  elsewhere_members vs (member k t ms) = ap₂ (member k) (elsewhere vs t) (elsewhere_members vs ms)

-- a site none of whose members is looked into
quiet_members : (site : Site) (vs : List Tree) (ms : Members) → ((k : List ℕ) → member_site site k ≡ Elsewhere) → filled_members site vs ms ≡ ms
quiet_members site vs no_members quiet = refl
quiet_members site vs (member k t ms) quiet = ap₂ (member k) (ap (λ s. filled_at s vs t) (quiet k) ∙ elsewhere vs t) (quiet_members site vs ms quiet)

-- ---- at an item's value each hole is filled

mutual
  value_filled : (vs : List Tree) (t : Tree) → filled_at Value vs t ≡ fill vs t
  value_filled vs null = refl
  value_filled vs (truth b) = refl
  value_filled vs (whole z) = refl
  value_filled vs (words s) = refl
  value_filled vs (items ts) = ap items (value_items vs ts)
  value_filled vs (members ms) = ap (object_or (hole_members ms) vs) (value_members vs ms)

  value_items : (vs : List Tree) (ts : Trees) → filled_items Value vs ts ≡ fill_items vs ts
  value_items vs no_items = refl
  value_items vs (item t ts) = ap₂ item (value_filled vs t) (value_items vs ts)

  value_members : (vs : List Tree) (ms : Members) → filled_members Value vs ms ≡ fill_members vs ms
  value_members vs no_members = refl
  value_members vs (member k t ms) = ap₂ (member k) (value_filled vs t) (value_members vs ms)

header_object : (vs : List Tree) (ms : Members) (b : Bool) → object_or (hole_at (entered_site HeaderValue b) (members ms)) vs (filled_members (entered_site HeaderValue b) vs ms) ≡ (if b then fill vs (members ms) else members ms)
header_object vs ms true = value_filled vs (members ms)
header_object vs ms false = elsewhere vs (members ms)

header_value : (vs : List Tree) (t : Tree) → filled_at HeaderValue vs t ≡ fill_here vs t
header_value vs null = refl
header_value vs (truth b) = refl
header_value vs (whole z) = refl
header_value vs (words s) = refl
header_value vs (items ts) = ap items (elsewhere_items vs ts)
header_value vs (members ms) = header_object vs ms (has_mark ms)

path_text : (vs : List Tree) (t : Tree) → filled_at Path vs t ≡ on_words (filled_path vs) t
path_text vs null = refl
path_text vs (truth b) = refl
path_text vs (whole z) = refl
path_text vs (words s) = refl
path_text vs (items ts) = ap items (elsewhere_items vs ts)
path_text vs (members ms) = ap members (quiet_members Path vs ms (λ k. refl))

query_text : (vs : List Tree) (t : Tree) → filled_at Query vs t ≡ on_words (filled_query vs) t
query_text vs null = refl
query_text vs (truth b) = refl
query_text vs (whole z) = refl
query_text vs (words s) = refl
query_text vs (items ts) = ap items (elsewhere_items vs ts)
query_text vs (members ms) = ap members (quiet_members Query vs ms (λ k. refl))

-- ---- members changed by name

abbrev changed : List ℕ → (Tree → Tree) → Members → Members
changed k f no_members = no_members
changed k f (member l u ms) = member l (if bytes_eq l k then f u else u) (changed k f ms)

-- the names ascend
abbrev Rising : Members → Type 0
Rising no_members = ⊤
Rising (member k t ms) = (before_first k ms ≡ true) × Rising ms

ordered-Rising : (ms : Members) → are_members ms ≡ true → Rising ms
ordered-Rising no_members e = tt
ordered-Rising (member k t ms) e =
    let both = and_parts (before_first k ms) _ e in
    (both.0, ordered-Rising ms (and_parts (is_ordered t) _ both.1).1)

first_changed : (k l : List ℕ) (f : Tree → Tree) (ms : Members) → before_first l (changed k f ms) ≡ before_first l ms
first_changed k l f no_members = refl
first_changed k l f (member j u ms) = refl

changed-Rising : (k : List ℕ) (f : Tree → Tree) (ms : Members) → Rising ms → Rising (changed k f ms)
changed-Rising k f no_members h = tt
changed-Rising k f (member l u ms) h = (first_changed k l f ms ∙ h.0, changed-Rising k f ms h.1)

less_is : (o : Ordering) → is_lt o ≡ true → o ≡ Less
less_is Less e = refl
less_is Equal e = cc
less_is Greater e = cc

apart_less : (k l : List ℕ) → name_cmp k l ≡ Less → Apart k l
apart_less k l less same = let no : Less ≡ Equal = sym less ∙ same in cc

-- a name before the first one is not there
not_there : (k : List ℕ) (ms : Members) → before_first k ms ≡ true → Rising ms → get_member k ms ≡ None
not_there k no_members e h = refl
not_there k (member l u ms) e h =
    let less = less_is (name_cmp k l) e in
    get_past k l u ms (apart_less k l less) ∙ not_there k ms (further ms h.0) h.1
  where
    further : (ns : Members) → before_first l ns ≡ true → before_first k ns ≡ true
    further no_members d = refl
    further (member j w ns) d = ap is_lt (nat_list_cmp_total.trans k l j (less_is (name_cmp k l) e) (less_is (name_cmp l j) d))

other_name : (l k : List ℕ) → Apart k l → bytes_eq l k ≡ false
other_name l k ne = by (bytes_eq l k) refl
  where
    by : (b : Bool) → bytes_eq l k ≡ b → b ≡ false
    by false e = refl
    by true e = absurd (ne (ap (name_cmp k) ((bytes_eq-Decides l k).0 e) ∙ name_self k))

same_bytes : (l k : List ℕ) → name_cmp k l ≡ Equal → bytes_eq l k ≡ true
same_bytes l k e = (bytes_eq-Decides l k).1 (sym (same_name k l e))

unchanged : (k : List ℕ) (f : Tree → Tree) (ms : Members) → get_member k ms ≡ None → changed k f ms ≡ ms
unchanged k f no_members e = refl
unchanged k f (member l u ms) e = by (λ d. unchanged k f ms d) (by_name (name_cmp k l))
  where
    by : (get_member k ms ≡ None → changed k f ms ≡ ms) → (name_cmp k l ≡ Equal) ⊎ Apart k l → changed k f (member l u ms) ≡ member l u ms
    by rest (inl same) = let no : Some u ≡ None = sym (here same) ∙ e in cc
      where
        here : name_cmp k l ≡ Equal → get_member k (member l u ms) ≡ Some u
        here d = rw d
    by rest (inr ne) = ap₂ (member l) (ap (λ b. if b then f u else u) (other_name l k ne)) (rest (sym (get_past k l u ms ne) ∙ e))

set-changed : (k : List ℕ) (f : Tree → Tree) (u : Tree) (ms : Members) → Rising ms → get_member k ms ≡ Some u → set_member k (f u) ms ≡ changed k f ms
set-changed k f u no_members h e = refl
set-changed k f u (member l w ms) h e = by (λ d. set-changed k f u ms h.1 d) (by_name (name_cmp k l))
  where
    by : (get_member k ms ≡ Some u → set_member k (f u) ms ≡ changed k f ms) → (name_cmp k l ≡ Equal) ⊎ Apart k l → set_member k (f u) (member l w ms) ≡ changed k f (member l w ms)
    by rest (inl same) =
        let is : w ≡ u = there same in
        set_here k l (f u) w ms same
        ∙ ap₂ (member l) (ap f (sym is) ∙ sym (ap (λ b. if b then f w else w) (same_bytes l k same))) (sym (unchanged k f ms (not_there k ms (ap (λ n. before_first n ms) (same_name k l same) ∙ h.0) h.1)))
      where
        there : name_cmp k l ≡ Equal → w ≡ u
        there d = let here : Some w ≡ Some u = rw d at e in cc
    by rest (inr ne) =
        set_past k l (f u) w ms ne
        ∙ ap₂ (member l) (sym (ap (λ b. if b then f w else w) (other_name l k ne))) (rest (sym (get_past k l w ms ne) ∙ e))

adjusted-changed : (k : List ℕ) (f : Tree → Tree) (ms : Members) (o : Option Tree) → Rising ms → get_member k ms ≡ o → adjusted f (k ∷ []) (members ms) (found o no_place >>= λ u. Ok u) ≡ members (changed k f ms)
adjusted-changed k f ms None h e = ap members (sym (unchanged k f ms e))
adjusted-changed k f ms (Some u) h e = put (get_member k ms) e ∙ ap members (set-changed k f u ms h e)
  where
    put : (o : Option Tree) → o ≡ Some u → or_same (found o no_place >>= λ c. Ok (members (set_member k (f u) ms))) (members ms) ≡ members (set_member k (f u) ms)
    put None d = cc
    put (Some w) d = refl

adjust-members : (k : List ℕ) (f : Tree → Tree) (ms : Members) → Rising ms → adjust (k ∷ []) f (members ms) ≡ members (changed k f ms)
adjust-members k f ms h = adjusted-changed k f ms (get_member k ms) h refl

-- a change along a pointer is a change of the member that it begins with
adjust-step : (k : List ℕ) (p : Pointer) (f : Tree → Tree) (t : Tree) → adjust (k ∷ p) f t ≡ adjust (k ∷ []) (adjust p f) t
adjust-step k p f t = by (child k t) refl
  where
    along : (c : Tree) → child k t ≡ Ok c → (r : Result Tree Cause) → at c p ≡ r → adjusted f (k ∷ p) t r ≡ with t (k ∷ []) (adjusted f p c r)
    along c e (Err why) a = sym (with-same t (k ∷ []) c (whole_place e))
      where
        whole_place : child k t ≡ Ok c → at t (k ∷ []) ≡ Ok c
        whole_place d = ap (λ r. r >>= λ u. at u []) d
    along c e (Ok u) a = ap (λ r. or_same (r >>= λ d. Ok (put_child k (with d p (f u)) t)) t) e ∙ sym (ap (λ r. or_same (r >>= λ d. Ok (put_child k (with d [] (with c p (f u))) t)) t) e)

    by : (r : Result Tree Cause) → child k t ≡ r → adjust (k ∷ p) f t ≡ adjust (k ∷ []) (adjust p f) t
    by (Err why) e = ap (λ r. adjusted f (k ∷ p) t (r >>= λ c. at c p)) e ∙ sym (ap (λ r. adjusted (adjust p f) (k ∷ []) t (r >>= λ c. Ok c)) e)
    by (Ok c) e =
        ap (λ r. adjusted f (k ∷ p) t (r >>= λ c. at c p)) e ∙ along c e (at c p) refl
        ∙ sym (ap (λ r. adjusted (adjust p f) (k ∷ []) t (r >>= λ c. Ok c)) e)

changed-changed : (k : List ℕ) (f g : Tree → Tree) (ms : Members) → changed k f (changed k g ms) ≡ changed k (λ u. f (g u)) ms
changed-changed k f g no_members = refl
changed-changed k f g (member l u ms) = ap₂ (member l) (by (bytes_eq l k)) (changed-changed k f g ms)
  where
    by : (b : Bool) → (if b then f (if b then g u else u) else (if b then g u else u)) ≡ (if b then f (g u) else u)
    by true = refl
    by false = refl

-- ---- an item with a value

one_name : (site inner : Site) (k : List ℕ) (f : Tree → Tree) (vs : List Tree) (ms : Members) → ((l : List ℕ) → member_site site l ≡ (if bytes_eq l k then inner else Elsewhere))
    → ((u : Tree) → filled_at inner vs u ≡ f u) → filled_members site vs ms ≡ changed k f ms
one_name site inner k f vs no_members is done = refl
one_name site inner k f vs (member l u ms) is done = ap₂ (member l) (ap (λ s. filled_at s vs u) (is l) ∙ by (bytes_eq l k)) (one_name site inner k f vs ms is done)
  where
    by : (b : Bool) → filled_at (if b then inner else Elsewhere) vs u ≡ (if b then f u else u)
    by true = done u
    by false = elsewhere vs u

header_item : (vs : List Tree) (t : Tree) → is_ordered t ≡ true → filled_at Header vs t ≡ adjust (codes "value" ∷ []) (fill_here vs) t
header_item vs null e = refl
header_item vs (truth b) e = refl
header_item vs (whole z) e = refl
header_item vs (words s) e = refl
header_item vs (items ts) e = ap items (elsewhere_items vs ts)
header_item vs (members ms) e =
    ap members (one_name Header HeaderValue (codes "value") (fill_here vs) vs ms (λ l. refl) (header_value vs)) ∙ sym (adjust-members (codes "value") (fill_here vs) ms (ordered-Rising ms e))

payload_item : (vs : List Tree) (t : Tree) → is_ordered t ≡ true → filled_at Item vs t ≡ adjust (codes "value" ∷ []) (fill vs) t
payload_item vs null e = refl
payload_item vs (truth b) e = refl
payload_item vs (whole z) e = refl
payload_item vs (words s) e = refl
payload_item vs (items ts) e = ap items (elsewhere_items vs ts)
payload_item vs (members ms) e =
    ap members (one_name Item Value (codes "value") (fill vs) vs ms (λ l. refl) (value_filled vs)) ∙ sym (adjust-members (codes "value") (fill vs) ms (ordered-Rising ms e))

each_item : (site : Site) (f : Tree → Tree) (vs : List Tree) (ts : Trees) → ((t : Tree) → is_ordered t ≡ true → filled_at site vs t ≡ f t) → are_ordered ts ≡ true → filled_items site vs ts ≡ map_items f ts
each_item site f vs no_items done e = refl
each_item site f vs (item t ts) done e = let both = and_parts (is_ordered t) _ e in ap₂ item (done t both.0) (each_item site f vs ts done both.1)

header_list : (vs : List Tree) (t : Tree) → is_ordered t ≡ true → filled_at Headers vs t ≡ on_items (adjust (codes "value" ∷ []) (fill_here vs)) t
header_list vs null e = refl
header_list vs (truth b) e = refl
header_list vs (whole z) e = refl
header_list vs (words s) e = refl
header_list vs (items ts) e = ap items (each_item Header (adjust (codes "value" ∷ []) (fill_here vs)) vs ts (header_item vs) e)
header_list vs (members ms) e = ap members (quiet_members Headers vs ms (λ k. refl))

payload_list : (vs : List Tree) (t : Tree) → is_ordered t ≡ true → filled_at Payload vs t ≡ on_items (adjust (codes "value" ∷ []) (fill vs)) t
payload_list vs null e = refl
payload_list vs (truth b) e = refl
payload_list vs (whole z) e = refl
payload_list vs (words s) e = refl
payload_list vs (items ts) e = ap items (each_item Item (adjust (codes "value" ∷ []) (fill vs)) vs ts (payload_item vs) e)
payload_list vs (members ms) e = ap members (quiet_members Payload vs ms (λ k. refl))

-- ---- the request line

not_both : (l a b : List ℕ) → bytes_eq a b ≡ false → bytes_eq l a ≡ true → bytes_eq l b ≡ false
not_both l a b apart same = ap (λ n. bytes_eq n b) ((bytes_eq-Decides l a).0 same) ∙ apart

line_member : (vs : List Tree) (l : List ℕ) (u : Tree) (a b : Bool) → bytes_eq l (codes "path") ≡ a → bytes_eq l (codes "queryFragment") ≡ b
    → filled_at (if a then Path else (if b then Query else Elsewhere)) vs u ≡ (if a then on_words (filled_path vs) (if b then on_words (filled_query vs) u else u) else (if b then on_words (filled_query vs) u else u))
line_member vs l u true true ea eb = let no : true ≡ false = sym eb ∙ not_both l (codes "path") (codes "queryFragment") refl ea in cc
line_member vs l u true false ea eb = path_text vs u
line_member vs l u false true ea eb = query_text vs u
line_member vs l u false false ea eb = elsewhere vs u

line_members : (vs : List Tree) (ms : Members) → filled_members RequestLine vs ms ≡ changed (codes "path") (on_words (filled_path vs)) (changed (codes "queryFragment") (on_words (filled_query vs)) ms)
line_members vs no_members = refl
line_members vs (member l u ms) = ap₂ (member l) (line_member vs l u (bytes_eq l (codes "path")) (bytes_eq l (codes "queryFragment")) refl refl) (line_members vs ms)

abbrev line_filled : List Tree → Tree → Tree
line_filled vs t = adjust (codes "path" ∷ []) (on_words (filled_path vs)) (adjust (codes "queryFragment" ∷ []) (on_words (filled_query vs)) t)

request_line : (vs : List Tree) (t : Tree) → is_ordered t ≡ true → filled_at RequestLine vs t ≡ line_filled vs t
request_line vs null e = refl
request_line vs (truth b) e = refl
request_line vs (whole z) e = refl
request_line vs (words s) e = refl
request_line vs (items ts) e = ap items (elsewhere_items vs ts)
request_line vs (members ms) e =
    let up = ordered-Rising ms e in
    ap members (line_members vs ms)
    ∙ sym (adjust-members (codes "path") (on_words (filled_path vs)) (changed (codes "queryFragment") (on_words (filled_query vs)) ms) (changed-Rising (codes "queryFragment") (on_words (filled_query vs)) ms up))
    ∙ ap (adjust (codes "path" ∷ []) (on_words (filled_path vs))) (sym (adjust-members (codes "queryFragment") (on_words (filled_query vs)) ms up))

-- ---- the block

abbrev headers_filled : List Tree → Tree → Tree
headers_filled vs t = on_items (adjust (codes "value" ∷ []) (fill_here vs)) t

abbrev payload_filled : List Tree → Tree → Tree
payload_filled vs t = on_items (adjust (codes "value" ∷ []) (fill vs)) t

block_member : (vs : List Tree) (l : List ℕ) (u : Tree) (a b c : Bool) → is_ordered u ≡ true → bytes_eq l (codes "requestLine") ≡ a → bytes_eq l (codes "headers") ≡ b → bytes_eq l (codes "payload") ≡ c
    → filled_at (if a then RequestLine else (if b then Headers else (if c then Payload else Elsewhere))) vs u
    ≡ (let p = (if c then payload_filled vs u else u) in let h = (if b then headers_filled vs p else p) in if a then line_filled vs h else h)
block_member vs l u true true c o ea eb ec = let no : true ≡ false = sym eb ∙ not_both l (codes "requestLine") (codes "headers") refl ea in cc
block_member vs l u true false true o ea eb ec = let no : true ≡ false = sym ec ∙ not_both l (codes "requestLine") (codes "payload") refl ea in cc
block_member vs l u true false false o ea eb ec = request_line vs u o
block_member vs l u false true true o ea eb ec = let no : true ≡ false = sym ec ∙ not_both l (codes "headers") (codes "payload") refl eb in cc
block_member vs l u false true false o ea eb ec = header_list vs u o
block_member vs l u false false true o ea eb ec = payload_list vs u o
block_member vs l u false false false o ea eb ec = elsewhere vs u

block_members : (vs : List Tree) (ms : Members) → are_members ms ≡ true
    → filled_members Block vs ms ≡ changed (codes "requestLine") (line_filled vs) (changed (codes "headers") (headers_filled vs) (changed (codes "payload") (payload_filled vs) ms))
block_members vs no_members e = refl
block_members vs (member l u ms) e =
    let both = and_parts (before_first l ms) _ e in
    let rest = and_parts (is_ordered u) _ both.1 in
    ap₂ (member l) (block_member vs l u (bytes_eq l (codes "requestLine")) (bytes_eq l (codes "headers")) (bytes_eq l (codes "payload")) rest.0 refl refl refl) (block_members vs ms rest.1)

pub block_filled : (vs : List Tree) (j : Tree) → is_ordered j ≡ true → filled_at Block vs j ≡ fill_all vs j
block_filled vs null e = refl
block_filled vs (truth b) e = refl
block_filled vs (whole z) e = refl
block_filled vs (words s) e = refl
block_filled vs (items ts) e = ap items (elsewhere_items vs ts)
block_filled vs (members ms) e =
    let up = ordered-Rising ms e in
    let line = codes "requestLine" in
    let path = adjust (codes "path" ∷ []) (on_words (filled_path vs)) in
    let query = adjust (codes "queryFragment" ∷ []) (on_words (filled_query vs)) in
    let payload = changed (codes "payload") (payload_filled vs) ms in
    let inner = changed (codes "headers") (headers_filled vs) payload in
    let up_payload : Rising payload = changed-Rising (codes "payload") (payload_filled vs) ms up in
    let up_inner : Rising inner = changed-Rising (codes "headers") (headers_filled vs) payload up_payload in
    let objects : fill_objects vs (members ms) ≡ members inner = ap (adjust (codes "headers" ∷ []) (headers_filled vs)) (adjust-members (codes "payload") (payload_filled vs) ms up) ∙ adjust-members (codes "headers") (headers_filled vs) payload up_payload in
    let queries : adjust query_pointer (on_words (filled_query vs)) (members inner) ≡ members (changed line query inner) = adjust-step line (codes "queryFragment" ∷ []) (on_words (filled_query vs)) (members inner) ∙ adjust-members line query inner up_inner in
    let paths : adjust path_pointer (on_words (filled_path vs)) (members (changed line query inner)) ≡ members (changed line path (changed line query inner)) =
    adjust-step line (codes "path" ∷ []) (on_words (filled_path vs)) (members (changed line query inner)) ∙ adjust-members line path (changed line query inner) (changed-Rising line query inner up_inner) in
    ap members (block_members vs ms e)
    ∙ sym (ap (fill_lines vs) objects ∙ ap (adjust path_pointer (on_words (filled_path vs))) queries ∙ paths ∙ ap members (changed-changed line path query inner))
