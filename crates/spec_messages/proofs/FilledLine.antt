-- The line of a filled block is read to the filled line.
use Rattle.std.proofs.Common.{◌≡◌, ℕ, List, [], ◌∷◌, map, Bool, true, false, Option, Some, None, option_map, Result, Ok, Err, refl, sym, ap, ap₂, ◌∙◌, if◌then◌else◌, codes}
use Rattle.std.proofs.lemmas.Bool.{and_parts}
use Rattle.std.specs.List.{list_all}
use Rattle.spec_documents.specs.Tree.{Tree, words, items, members, Members, member, get_member, set_member}
use Rattle.spec_documents.specs.Place.{Pointer, Cause, no_place, found, ◌>>=◌, child, at, with, put_child}
use Rattle.spec_documents.specs.Text.{is_segment, is_method, is_scheme, is_authority, is_version, is_within}
use Rattle.spec_documents.specs.Hole.{path_pointer, query_pointer, adjusted, adjust, on_words, filled_path, filled_query, fill_lines}
use Rattle.spec_messages.specs.Message.{Part, Pair, Line, Head, request, response, Member, method, scheme, authority, version, path as bad_path, query as bad_query, wanted, text_if, segments_of, query_of, line_of, status_head, status_text, head_of_lines, head_of}
use Rattle.spec_messages.specs.Split.{fill_part, fill_pair, fill_head, has_text, head_has_texts}
use Rattle.spec_messages.specs.Block.{RequestText, LineText, request_text, status_text as status_line_text, Block, meta_tree, request_tree, line_members, header_tree, item_tree, list_tree, with_list, block_members, block_tree, block_parts}
use Rattle.spec_documents.proofs.TreeLemmas.{bind_ok}
use Rattle.spec_documents.proofs.ApartLemmas.{Apart, set_past}
use Rattle.spec_messages.proofs.BlockLemmas.{tail_members, greater}
use Rattle.spec_messages.proofs.LineLemmas.{line_node, line-block}
use Rattle.spec_messages.proofs.LineRead.{request_members, query_node, status_past}
use Rattle.spec_messages.proofs.FilledTexts.{path_filled, query_filled}

abbrev pub filled_request : List Tree → RequestText → RequestText
filled_request vs r = record r { path = filled_path vs r.path; query = option_map (filled_query vs) r.query }

abbrev pub filled_line : List Tree → LineText → LineText
filled_line vs (request_text r) = request_text (filled_request vs r)
filled_line vs (status_line_text s) = status_line_text s

-- ---- reading

-- a line, of what is read of its members
abbrev pub chain : Option (List ℕ) → Option (List ℕ) → Option (List ℕ) → Option (List Part) → Option (List ℕ) → Option (List Pair) → Result Line Member
chain om os oa og ov oq =
    wanted om method >>= λ m. wanted os scheme >>= λ s. wanted oa authority >>= λ a. wanted og bad_path >>= λ ss. wanted ov version >>= λ v. wanted oq bad_query >>= λ q.
    Ok (record { method = m; scheme = s; authority = a; version = v; segments = ss; query = q })

line_chain : (a m p v s : List ℕ) (q : Option (List ℕ)) → line_of block_parts (request_members a m p v s q)
    ≡ chain (text_if is_method (words m)) (text_if is_scheme (words s)) (text_if is_authority (words a)) (segments_of block_parts.segment p) (text_if is_version (words v)) (query_of block_parts.value (query_node q))
line_chain a m p v s None = refl
line_chain a m p v s (Some q) = refl

-- with another path and query that are read it is read to the line with them
chain_again : (om os oa : Option (List ℕ)) (og : Option (List Part)) (ov : Option (List ℕ)) (oq : Option (List Pair)) (l : Line) → chain om os oa og ov oq ≡ Ok l
    → (og ≡ Some l.segments) × (oq ≡ Some l.query) × ((ss : List Part) (qs : List Pair) → chain om os oa (Some ss) ov (Some qs) ≡ Ok (record l { segments = ss; query = qs }))
chain_again None os oa og ov oq l e = cc
chain_again (Some m) None oa og ov oq l e = cc
chain_again (Some m) (Some s) None og ov oq l e = cc
chain_again (Some m) (Some s) (Some a) None ov oq l e = cc
chain_again (Some m) (Some s) (Some a) (Some ts) None oq l e = cc
chain_again (Some m) (Some s) (Some a) (Some ts) (Some v) None l e = cc
chain_again (Some m) (Some s) (Some a) (Some ts) (Some v) (Some rs) l e =
    let is : record { method = m; scheme = s; authority = a; version = v; segments = ts; query = rs } ≡ l = cc in (
      ap (λ (x : Line). Some x.segments) is,
      ap (λ (x : Line). Some x.query) is,
      λ ss qs. ap (λ (x : Line). Ok (record x { segments = ss; query = qs })) is,
    )

request_filled : (vs : List Tree) (a m p v s : List ℕ) (q : Option (List ℕ)) (l : Line) → line_of block_parts (request_members a m p v s q) ≡ Ok l → head_has_texts vs (request l) ≡ true
    → line_of block_parts (request_members a m (filled_path vs p) v s (option_map (filled_query vs) q)) ≡ Ok (record l { segments = map (fill_part vs) l.segments; query = map (fill_pair vs) l.query })
request_filled vs a m p v s q l e h =
    let k = chain_again (text_if is_method (words m)) (text_if is_scheme (words s)) (text_if is_authority (words a)) (segments_of block_parts.segment p) (text_if is_version (words v)) (query_of block_parts.value (query_node q)) l (sym (line_chain a m p v s q) ∙ e) in
    let t = and_parts (list_all (has_text is_segment vs) l.segments) _ h in
    line_chain a m (filled_path vs p) v s (option_map (filled_query vs) q)
    ∙ ap₂ (λ og oq. chain (text_if is_method (words m)) (text_if is_scheme (words s)) (text_if is_authority (words a)) og (text_if is_version (words v)) oq)
    (path_filled vs p l.segments k.0 t.0) (query_filled vs q l.query k.1 t.1)
    ∙ k.2 (map (fill_part vs) l.segments) (map (fill_pair vs) l.query)

status_filled : (vs : List Tree) (o : Option ℕ) (h : Head) → status_head o ≡ Ok h → status_head o ≡ Ok (fill_head vs h)
status_filled vs None h e = cc
status_filled vs (Some n) h e = by (is_within 100 999 n) e
  where
    by : (b : Bool) → (if b then Ok (response n) else Err Member.status_line) ≡ Ok h → (if b then Ok (response n) else Err Member.status_line) ≡ Ok (fill_head vs h)
    by true e = let is : response n ≡ h = cc in ap (λ x. Ok (fill_head vs x)) is
    by false e = cc

lines_filled : (vs : List Tree) (l : LineText) (h : Head) → head_of_lines block_parts (line_node l) (get_member (codes "statusLine") (line_members l)) ≡ Ok h → head_has_texts vs h ≡ true
    → head_of_lines block_parts (line_node (filled_line vs l)) (get_member (codes "statusLine") (line_members (filled_line vs l))) ≡ Ok (fill_head vs h)
lines_filled vs (request_text r) (request l) e h =
    let k = bind_ok (line_of block_parts (request_members r.authority r.method r.path r.version r.scheme r.query)) (λ l. Ok (request l)) (request l) e in
    let is : k.0 ≡ l = cc in
    ap (λ x. x >>= λ l. Ok (request l)) (request_filled vs r.authority r.method r.path r.version r.scheme r.query l (k.1 ∙ ap Ok is) h)
lines_filled vs (request_text r) (response n) e h =
    let k = bind_ok (line_of block_parts (request_members r.authority r.method r.path r.version r.scheme r.query)) (λ l. Ok (request l)) (response n) e in
    let clash : request k.0 ≡ response n = cc in cc
lines_filled vs (status_line_text s) h e t = status_filled vs (status_text (words s)) h e

head_is : (b : Block) → head_of block_parts (block_members b) ≡ head_of_lines block_parts (line_node b.line) (get_member (codes "statusLine") (line_members b.line))
head_is b = ap₂ (head_of_lines block_parts) (line-block b) (status_past b)

-- a block with the line of b, filled
pub head_filled : (vs : List Tree) (b w : Block) (h : Head) → w.line ≡ filled_line vs b.line → head_of block_parts (block_members b) ≡ Ok h → head_has_texts vs h ≡ true → head_of block_parts (block_members w) ≡ Ok (fill_head vs h)
head_filled vs b w h is e t =
    head_is w
    ∙ ap (λ l. head_of_lines block_parts (line_node l) (get_member (codes "statusLine") (line_members l))) is
    ∙ lines_filled vs b.line h (sym (head_is b) ∙ e) t

-- ---- the texts in place

with_child : (x : List ℕ) (p : Pointer) (w c t : Tree) → child x t ≡ Ok c → with t (x ∷ p) w ≡ put_child x (with c p w) t
with_child x p w c t e = rw e

set_past_list : (j k : List ℕ) (f : List ℕ × Tree → Tree) (u : Tree) (o : Option (List (List ℕ × Tree))) (ms : Members) → Apart j k → set_member j u (with_list k f o ms) ≡ with_list k f o (set_member j u ms)
set_past_list j k f u None ms ne = refl
set_past_list j k f u (Some xs) ms ne = set_past j k u (items (list_tree f xs)) ms ne

set_request : (b : Block) (r s : RequestText) → b.line ≡ request_text r → set_member (codes "requestLine") (request_tree s) (block_members b) ≡ block_members (record b { line = request_text s })
set_request b r s is =
    set_past_list (codes "requestLine") (codes "headers") header_tree (request_tree s) b.headers (member (codes "metaData") (meta_tree b.metadata) (tail_members b.payload b.line)) greater
    ∙ ap (with_list (codes "headers") header_tree b.headers)
    (set_past (codes "requestLine") (codes "metaData") (request_tree s) (meta_tree b.metadata) (tail_members b.payload b.line) greater
    ∙ ap (member (codes "metaData") (meta_tree b.metadata))
    (set_past_list (codes "requestLine") (codes "payload") item_tree (request_tree s) b.payload (line_members b.line) greater
    ∙ ap (λ l. with_list (codes "payload") item_tree b.payload (set_member (codes "requestLine") (request_tree s) (line_members l))) is))

request_child : (b : Block) (r : RequestText) → b.line ≡ request_text r → child (codes "requestLine") (block_tree b) ≡ Ok (request_tree r)
request_child b r is = ap (λ o. found o no_place) (line-block b ∙ ap line_node is)

-- a member of the line that is there
adjust_some : (k : List ℕ) (f : Tree → Tree) (b : Block) (r s : RequestText) (v : Tree) → b.line ≡ request_text r → child k (request_tree r) ≡ Ok v → put_child k (f v) (request_tree r) ≡ request_tree s
    → adjust (codes "requestLine" ∷ k ∷ []) f (block_tree b) ≡ block_tree (record b { line = request_text s })
adjust_some k f b r s v is c p =
    let here = request_child b r is in
    ap (adjusted f (codes "requestLine" ∷ k ∷ []) (block_tree b)) (ap (λ o. o >>= λ u. at u (k ∷ [])) here ∙ ap (λ o. o >>= λ u. Ok u) c)
    ∙ with_child (codes "requestLine") (k ∷ []) (f v) (request_tree r) (block_tree b) here
    ∙ ap (λ t. put_child (codes "requestLine") t (block_tree b)) (with_child k [] (f v) v (request_tree r) c ∙ p)
    ∙ ap members (set_request b r s is)

-- a member of the line that is not
adjust_none : (k : List ℕ) (f : Tree → Tree) (b : Block) (r : RequestText) (why : Cause) → b.line ≡ request_text r → child k (request_tree r) ≡ Err why → adjust (codes "requestLine" ∷ k ∷ []) f (block_tree b) ≡ block_tree b
adjust_none k f b r why is c = ap (adjusted f (codes "requestLine" ∷ k ∷ []) (block_tree b)) (ap (λ o. o >>= λ u. at u (k ∷ [])) (request_child b r is) ∙ ap (λ o. o >>= λ u. Ok u) c)

-- no line of a request
adjust_away : (k : List ℕ) (f : Tree → Tree) (b : Block) (s : List ℕ) → b.line ≡ status_line_text s → adjust (codes "requestLine" ∷ k ∷ []) f (block_tree b) ≡ block_tree b
adjust_away k f b s is = ap (λ o. adjusted f (codes "requestLine" ∷ k ∷ []) (block_tree b) (found o no_place >>= λ u. at u (k ∷ []))) (line-block b ∙ ap line_node is)

query_step : (vs : List Tree) (b : Block) (a m p v s : List ℕ) (q : Option (List ℕ)) → b.line ≡ request_text (record { method = m; scheme = s; authority = a; path = p; version = v; query = q })
    → adjust query_pointer (on_words (filled_query vs)) (block_tree b) ≡ block_tree (record b { line = request_text (record { method = m; scheme = s; authority = a; path = p; version = v; query = option_map (filled_query vs) q }) })
query_step vs b a m p v s None is =
    adjust_none (codes "queryFragment") (on_words (filled_query vs)) b (record { method = m; scheme = s; authority = a; path = p; version = v; query = None }) no_place is refl
    ∙ ap (λ l. block_tree (record b { line = l })) is
query_step vs b a m p v s (Some q) is =
    adjust_some (codes "queryFragment") (on_words (filled_query vs)) b (record { method = m; scheme = s; authority = a; path = p; version = v; query = Some q })
    (record { method = m; scheme = s; authority = a; path = p; version = v; query = Some (filled_query vs q) }) (words q) is refl refl

path_step : (vs : List Tree) (b : Block) (r : RequestText) → b.line ≡ request_text r → adjust path_pointer (on_words (filled_path vs)) (block_tree b) ≡ block_tree (record b { line = request_text (record r { path = filled_path vs r.path }) })
path_step vs b r is = adjust_some (codes "path") (on_words (filled_path vs)) b r (record r { path = filled_path vs r.path }) (words r.path) is refl refl

line_step : (vs : List Tree) (b : Block) (l : LineText) → b.line ≡ l → fill_lines vs (block_tree b) ≡ block_tree (record b { line = filled_line vs l })
line_step vs b (request_text r) is =
    ap (adjust path_pointer (on_words (filled_path vs))) (query_step vs b r.authority r.method r.path r.version r.scheme r.query is)
    ∙ path_step vs (record b { line = request_text (record r { query = option_map (filled_query vs) r.query }) }) (record r { query = option_map (filled_query vs) r.query }) refl
line_step vs b (status_line_text s) is =
    ap (adjust path_pointer (on_words (filled_path vs))) (adjust_away (codes "queryFragment") (on_words (filled_query vs)) b s is)
    ∙ adjust_away (codes "path") (on_words (filled_path vs)) b s is
    ∙ ap (λ l. block_tree (record b { line = l })) is

-- the texts of a block's line are filled in its line alone
pub fill_lines-block : (vs : List Tree) (b : Block) → fill_lines vs (block_tree b) ≡ block_tree (record b { line = filled_line vs b.line })
fill_lines-block vs b = line_step vs b b.line refl
