-- The block of a whole message with holes is a document.
use Rattle.std.proofs.Common.{◌≡◌, ℕ, List, [], ◌∷◌, ◌++◌, map, Bool, true, false, ◌&&◌, Option, Some, None, if◌then◌else◌, IsUtf8, refl, codes, arith}
use Rattle.std.proofs.lemmas.Bool.{and_parts}
use Rattle.std.specs.List.{list_all}
use Rattle.json.proofs.Printed.Utf8.{are_ascii, IsUtf8-are_ascii}
use Rattle.spec_documents.specs.Tree.{Tree, null, truth, whole, words, items, members, Members, no_members, member}
use Rattle.spec_documents.specs.Fields.{field_list, AllAfter, AreAscending}
use Rattle.spec_documents.specs.Document.{IsDocument, ItemsAreDocuments, MembersAreDocuments}
use Rattle.spec_documents.specs.Place.{Pointer, pointer_text}
use Rattle.spec_documents.specs.Text.{is_segment, is_query_name, is_query_value, is_method, is_scheme, is_authority, is_version, index_text, joined, lower, is_id}
use Rattle.spec_messages.specs.Message.{Part, clear, hole_part, Pair, Line, Head, request, response, Message}
use Rattle.spec_messages.specs.Block.{Meta, RequestText, LineText, request_text, status_text, Block, meta_tree, with_query, request_tree, line_members, header_tree, item_tree, list_tree, with_list, block_members, block_tree, Items, is_leaf, leaves, members_leaves, body_leaves, is_meta, part_text, path_text, value_text, query_text, head_text, part_tree, unless_empty, block_of}
use Rattle.paired_sepps.specs.Untouched.{IsBodyDocument}
use Rattle.paired_sepps.proofs.Ascii.{ascii_more, ascii_append, segment_ascii, query_name_ascii, query_value_ascii, method_ascii, scheme_ascii, authority_ascii, version_ascii, identity_ascii, id_ascii, lower_ascii, index_ascii, hole_ascii}
use Rattle.paired_sepps.proofs.Bytes.{AreTokens, tokens_more, pointer_utf8}

utf8 : (s : List ℕ) → are_ascii s ≡ true → IsUtf8 s
utf8 = IsUtf8-are_ascii

-- ---- parts: each a text of the grammar, or a hole

abbrev pub is_held : (List ℕ → Bool) → Part → Bool
is_held test (clear s) = test s
is_held test (hole_part n) = true

abbrev pub is_held_value : Option Part → Bool
is_held_value None = true
is_held_value (Some p) = is_held is_query_value p

abbrev pub is_held_pair : Pair → Bool
is_held_pair p = is_query_name p.name && is_held_value p.value

held_ascii : (test : List ℕ → Bool) → ((s : List ℕ) → test s ≡ true → are_ascii s ≡ true) → (p : Part) → is_held test p ≡ true → are_ascii (part_text p) ≡ true
held_ascii test low (clear s) e = low s e
held_ascii test low (hole_part n) e = hole_ascii n

path_ascii : (ps : List Part) → list_all (is_held is_segment) ps ≡ true → are_ascii (path_text ps) ≡ true
path_ascii [] e = refl
path_ascii (p ∷ ps) e =
    let h = and_parts (is_held is_segment p) _ e in
    ascii_more 47 (part_text p ++ path_text ps) (omega arith) (ascii_append (part_text p) (path_text ps) (held_ascii is_segment segment_ascii p h.0) (path_ascii ps h.1))

value_ascii : (name : List ℕ) (v : Option Part) → is_query_name name ≡ true → is_held_value v ≡ true → are_ascii (value_text name v) ≡ true
value_ascii name None e h = query_name_ascii name e
value_ascii name (Some p) e h = ascii_append name (61 ∷ part_text p) (query_name_ascii name e) (ascii_more 61 (part_text p) (omega arith) (held_ascii is_query_value query_value_ascii p h))

joined_ascii : (ps : List Pair) → list_all is_held_pair ps ≡ true → are_ascii (joined 38 (map (λ p. value_text p.name p.value) ps)) ≡ true
joined_ascii [] e = refl
joined_ascii (p ∷ []) e = let h = and_parts (is_query_name p.name) _ (and_parts (is_held_pair p) _ e).0 in value_ascii p.name p.value h.0 h.1
joined_ascii (p ∷ q ∷ ps) e =
    let a = and_parts (is_held_pair p) _ e in
    let h = and_parts (is_query_name p.name) _ a.0 in
    let rest : List ℕ = joined 38 (map (λ r. value_text r.name r.value) (q ∷ ps)) in
    ascii_append (value_text p.name p.value) (38 ∷ rest) (value_ascii p.name p.value h.0 h.1) (ascii_more 38 rest (omega arith) (joined_ascii (q ∷ ps) a.1))

abbrev IsQuery : Option (List ℕ) → Type 0
IsQuery None = Unit {0}
IsQuery (Some q) = IsUtf8 q

query_utf8 : (ps : List Pair) → list_all is_held_pair ps ≡ true → IsQuery (query_text ps)
query_utf8 [] e = tt
query_utf8 (p ∷ ps) e = utf8 _ (joined_ascii (p ∷ ps) e)

-- ---- the line

-- the parts of a line, which may be holes
abbrev pub is_held_line : Line → Bool
is_held_line l =
    (is_method l.method && (is_scheme l.scheme && (is_authority l.authority && is_version l.version)))
    && (list_all (is_held is_segment) l.segments && list_all is_held_pair l.query)

abbrev pub is_held_head : Head → Bool
is_held_head (request l) = is_held_line l
is_held_head (response s) = true

rest_document : (q : Option (List ℕ)) (s : List ℕ) → IsQuery q → IsUtf8 s → MembersAreDocuments (with_query q (member (codes "scheme") (words s) no_members))
rest_document None s h u = (utf8 (codes "scheme") refl, u, tt)
rest_document (Some q) s h u = (utf8 (codes "queryFragment") refl, h, (utf8 (codes "scheme") refl, u, tt))

rest_after : (k : List ℕ) (q : Option (List ℕ)) (s : List ℕ) → AllAfter k ((codes "queryFragment", null) ∷ (codes "scheme", null) ∷ []) → AllAfter k (field_list (with_query q (member (codes "scheme") (words s) no_members)))
rest_after k None s h = (h.1.0, tt)
rest_after k (Some q) s h = (h.0, (h.1.0, tt))

rest_ascends : (q : Option (List ℕ)) (s : List ℕ) → AreAscending (field_list (with_query q (member (codes "scheme") (words s) no_members)))
rest_ascends None s = (tt, tt)
rest_ascends (Some q) s = ((refl, tt), (tt, tt))

request_document : (l : RequestText) → IsUtf8 l.authority → IsUtf8 l.method → IsUtf8 l.path → IsUtf8 l.version → IsUtf8 l.scheme → IsQuery l.query → IsDocument (request_tree l)
request_document l a m p v s q = (
  (
    (refl, (refl, (refl, rest_after (codes "authority") l.query l.scheme (refl, (refl, tt))))),
    (
      (refl, (refl, rest_after (codes "method") l.query l.scheme (refl, (refl, tt)))),
      (
        (refl, rest_after (codes "path") l.query l.scheme (refl, (refl, tt))),
        (rest_after (codes "protocolVersion") l.query l.scheme (refl, (refl, tt)), rest_ascends l.query l.scheme),
      ),
    ),
  ),
  (utf8 (codes "authority") refl, a, (utf8 (codes "method") refl, m, (utf8 (codes "path") refl, p, (utf8 (codes "protocolVersion") refl, v, rest_document l.query l.scheme q s)))),
)

-- the members that a line gives
record LineForms (l : LineText) : Type 0 where
  pub documents : MembersAreDocuments (line_members l)
  pub ascends : AreAscending (field_list (line_members l))

line_document : (h : Head) → is_held_head h ≡ true → LineForms (head_text h)
line_document (request l) e =
    let both = and_parts (is_method l.method && (is_scheme l.scheme && (is_authority l.authority && is_version l.version))) _ e in
    let m = and_parts (is_method l.method) _ both.0 in
    let s = and_parts (is_scheme l.scheme) _ m.1 in
    let a = and_parts (is_authority l.authority) _ s.1 in
    let p = and_parts (list_all (is_held is_segment) l.segments) _ both.1 in
    let text : RequestText = record { method = l.method; scheme = l.scheme; authority = l.authority; path = path_text l.segments; version = l.version; query = query_text l.query } in
    record {
      documents = (utf8 (codes "requestLine") refl, request_document text (utf8 l.authority (authority_ascii l.authority a.0)) (utf8 l.method (method_ascii l.method m.0)) (utf8 (path_text l.segments) (path_ascii l.segments p.0)) (utf8 l.version (version_ascii l.version a.1)) (utf8 l.scheme (scheme_ascii l.scheme s.0)) (query_utf8 l.query p.1), tt);
      ascends = (tt, tt);
    }
line_document (response s) e = record {
  documents = (utf8 (codes "statusLine") refl, utf8 (index_text s) (index_ascii s), tt);
  ascends = (tt, tt);
}

-- ---- metadata

meta_document : (context message ipx : List ℕ) → IsUtf8 context → IsUtf8 message → IsUtf8 ipx → IsDocument (meta_tree (record { context = context; message = message; ipx = ipx }))
meta_document context message ipx c m i =
    (((refl, (refl, tt)), ((refl, tt), (tt, tt))), (utf8 (codes "authorizedIpxId") refl, i, (utf8 (codes "messageId") refl, m, (utf8 (codes "n32fContextId") refl, c, tt))))

-- ---- headers and items

abbrev pub AreEntries : List (List ℕ × Tree) → Type 0
AreEntries [] = Unit {0}
AreEntries (x ∷ xs) = (IsUtf8 x.0 × IsDocument x.1) × AreEntries xs

header_document : (x : List ℕ × Tree) → IsUtf8 x.0 → IsDocument x.1 → IsDocument (header_tree x)
header_document x name value = (((refl, tt), (tt, tt)), (utf8 (codes "header") refl, name, (utf8 (codes "value") refl, value, tt)))

item_document : (x : List ℕ × Tree) → IsUtf8 x.0 → IsDocument x.1 → IsDocument (item_tree x)
item_document x path value =
    (((refl, (refl, tt)), ((refl, tt), (tt, tt))), (utf8 (codes "iePath") refl, path, (utf8 (codes "ieValueLocation") refl, utf8 (codes "BODY") refl, (utf8 (codes "value") refl, value, tt))))

list_documents : (f : List ℕ × Tree → Tree) → ((x : List ℕ × Tree) → IsUtf8 x.0 → IsDocument x.1 → IsDocument (f x)) → (xs : List (List ℕ × Tree)) → AreEntries xs → ItemsAreDocuments (list_tree f xs)
list_documents f each [] h = tt
list_documents f each (x ∷ xs) h = (each x h.0.0 h.0.1, list_documents f each xs h.1)

-- members with a list in front of them, where it isn't empty
with_documents : (k : List ℕ) (f : List ℕ × Tree → Tree) (xs : List (List ℕ × Tree)) (ms : Members) → IsUtf8 k → ((x : List ℕ × Tree) → IsUtf8 x.0 → IsDocument x.1 → IsDocument (f x)) → AreEntries xs → MembersAreDocuments ms → MembersAreDocuments (with_list k f (unless_empty xs) ms)
with_documents k f [] ms u each h d = d
with_documents k f (x ∷ xs) ms u each h d = (u, list_documents f each (x ∷ xs) h, d)

-- ---- the order of a block's names

-- the names of a line's members come behind
abbrev LineAfter : List ℕ → Type 0
LineAfter k = AllAfter k ((codes "requestLine", null) ∷ (codes "statusLine", null) ∷ [])

line_after : (k : List ℕ) (l : LineText) → LineAfter k → AllAfter k (field_list (line_members l))
line_after k (request_text l) h = (h.0, tt)
line_after k (status_text s) h = (h.1.0, tt)

items_after : (k : List ℕ) (o : Option (List (List ℕ × Tree))) (l : LineText) → LineAfter k → AllAfter k ((codes "payload", null) ∷ []) → AllAfter k (field_list (with_list (codes "payload") item_tree o (line_members l)))
items_after k None l h p = line_after k l h
items_after k (Some xs) l h p = (p.0, line_after k l h)

items_ascend : (o : Option (List (List ℕ × Tree))) (l : LineText) → AreAscending (field_list (line_members l)) → AreAscending (field_list (with_list (codes "payload") item_tree o (line_members l)))
items_ascend None l h = h
items_ascend (Some xs) l h = (line_after (codes "payload") l (refl, (refl, tt)), h)

names_ascend : (b : Block) → AreAscending (field_list (line_members b.line)) → AreAscending (field_list (block_members b))
names_ascend b line = by b.headers
  where
    behind : AreAscending (field_list (member (codes "metaData") (meta_tree b.metadata) (with_list (codes "payload") item_tree b.payload (line_members b.line))))
    behind = (items_after (codes "metaData") b.payload b.line (refl, (refl, tt)) (refl, tt), items_ascend b.payload b.line line)

    by : (o : Option (List (List ℕ × Tree))) → AreAscending (field_list (with_list (codes "headers") header_tree o (member (codes "metaData") (meta_tree b.metadata) (with_list (codes "payload") item_tree b.payload (line_members b.line)))))
    by None = behind
    by (Some xs) = ((refl, items_after (codes "headers") b.payload b.line (refl, (refl, tt)) (refl, tt)), behind)

-- ---- the block

-- what the block of a message with holes is made of
pub record IsHeld (c : Message) : Type 0 where
  pub head : is_held_head c.head ≡ true
  pub headers : AreEntries (map (λ h. (h.name, part_tree h.value)) c.headers)
  pub body : IsBodyDocument c.body

abbrev AreLeaves : Items → Type 0
AreLeaves [] = Unit {0}
AreLeaves (i ∷ is) = (AreTokens i.0 × IsDocument i.1) × AreLeaves is

leaves_append : (is js : Items) → AreLeaves is → AreLeaves js → AreLeaves (is ++ js)
leaves_append [] js h k = k
leaves_append (i ∷ is) js h k = (h.0, leaves_append is js h.1 k)

either_leaf : (b : Bool) (q : Pointer) (t : Tree) (is : Items) → AreTokens q → IsDocument t → AreLeaves is → AreLeaves (if b then (q, t) ∷ [] else is)
either_leaf true q t is u d h = ((u, d), tt)
either_leaf false q t is u d h = h

mutual
  leaves_documents : (q : Pointer) (t : Tree) → AreTokens q → IsDocument t → AreLeaves (leaves q t)
  leaves_documents q null u d = ((u, d), tt)
  leaves_documents q (truth b) u d = ((u, d), tt)
  leaves_documents q (whole z) u d = ((u, d), tt)
  leaves_documents q (words s) u d = ((u, d), tt)
  leaves_documents q (items ts) u d = ((u, d), tt)
  leaves_documents q (members ms) u d = either_leaf (is_leaf ms) q (members ms) (members_leaves q ms) u d (members_documents q ms u d.1)

  members_documents : (q : Pointer) (ms : Members) → AreTokens q → MembersAreDocuments ms → AreLeaves (members_leaves q ms)
  members_documents q no_members u d = tt
  members_documents q (member k t ms) u d = leaves_append (leaves (q ++ k ∷ []) t) (members_leaves q ms) (leaves_documents (q ++ k ∷ []) t (tokens_more q k u d.0) d.1) (members_documents q ms u d.2)

body_documents : (o : Option Tree) → IsBodyDocument o → AreLeaves (body_leaves o)
body_documents None d = tt
body_documents (Some t) d = leaves_documents [] t tt d

items_entries : (is : Items) → AreLeaves is → AreEntries (map (λ i. (pointer_text i.0, i.1)) is)
items_entries [] h = tt
items_entries (i ∷ is) h = ((pointer_utf8 i.0 h.0.0, h.0.1), items_entries is h.1)

pub block_document : (c : Message) (meta : Meta) → IsHeld c → is_meta meta ≡ true → IsDocument (block_tree (block_of c meta))
block_document c meta held is =
    let b : Block = block_of c meta in
    let ids = and_parts (is_id meta.context && is_id meta.message) _ is in
    let both = and_parts (is_id meta.context) _ ids.0 in
    let line = line_document c.head held.head in (
      names_ascend b line.ascends,
      with_documents (codes "headers") header_tree (map (λ h. (h.name, part_tree h.value)) c.headers) (member (codes "metaData") (meta_tree b.metadata) (with_list (codes "payload") item_tree b.payload (line_members b.line)))
          (utf8 (codes "headers") refl) header_document held.headers (
            utf8 (codes "metaData") refl,
            meta_document (lower meta.context) (lower meta.message) meta.ipx (utf8 (lower meta.context) (lower_ascii meta.context (id_ascii meta.context both.0))) (utf8 (lower meta.message) (lower_ascii meta.message (id_ascii meta.message both.1))) (utf8 meta.ipx (identity_ascii meta.ipx ids.1)),
            with_documents (codes "payload") item_tree (map (λ i. (pointer_text i.0, i.1)) (body_leaves c.body)) (line_members b.line) (utf8 (codes "payload") refl) item_document (items_entries (body_leaves c.body) (body_documents c.body held.body)) line.documents,
          ),
    )
