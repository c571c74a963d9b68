-- What is sealed of a whole message whose body is a document has the forms that its way asks.
use Rattle.std.proofs.Common.{◌≡◌, ℕ, suc, ◌+◌, ◌≤◌, List, [], ◌∷◌, ◌++◌, map, length, Bool, true, false, ◌&&◌, Option, Some, None, if◌then◌else◌, IsUtf8, refl, codes, length-append, arith}
use Rattle.std.proofs.lemmas.Bool.{and_parts, and_from, leb-true}
use Rattle.std.proofs.lemmas.List.{length-map}
use Rattle.std.specs.Prelude.{nat_lt}
use Rattle.std.specs.List.{list_all}
use Rattle.base64.specs.GeneralPurpose.{IsBytes}
use Rattle.json.proofs.Printed.Utf8.{IsUtf8-are_ascii}
use Rattle.spec_documents.specs.Tree.{Tree, items, trees, depth}
use Rattle.spec_documents.specs.Document.{IsDocument}
use Rattle.spec_documents.specs.Compact.{compact_text}
use Rattle.spec_documents.specs.Place.{Pointer}
use Rattle.spec_documents.specs.Text.{is_segment, is_query_name, is_query_value, is_header_value, is_header_name, is_method, is_scheme, is_authority, is_version}
use Rattle.spec_messages.specs.Message.{Part, clear, hole_part, Pair, Header, Line, Head, request, response, Message, Kind, kind_of, is_text, is_value, is_whole_line, is_whole_head, is_whole_header, is_lower_name, is_whole, body_depth}
use Rattle.spec_messages.specs.Policy.{Policy, Spot, segment_spot, pair_spot, header_spot, body_spot, numbered, part_value, value_or_null, is_secret_segment, is_secret_pair, is_secret_header, is_secret_node, body_secrets, line_secrets, secrets, values}
use Rattle.spec_messages.specs.Split.{hide_each, hide_part, hide_pair, hide_header, hide_head, hide_body, cleared}
use Rattle.spec_messages.specs.Block.{Meta, block_tree, part_tree, at_most}
use Rattle.spec_messages.proofs.SentDepth.{sent-low}
use Rattle.spec_sealing.specs.Plaintext.{values_tree, plaintext}
use Rattle.spec_records.specs.RecordDocument.{IsOneKey}
use Rattle.spec_exchange.specs.Calls.{metadata_for}
use Rattle.spec_exchange.specs.Untouched.{HasNames, Shipment, id_of, IsSendable}
use Rattle.spec_exchange.specs.Untouched as shipped
use Rattle.spec_exchange.proofs.SentLemmas.{is_meta-for, split-limits}
use Rattle.paired_sepps.specs.Untouched.{IsBodyDocument}
use Rattle.paired_sepps.proofs.Ascii.{segment_ascii, query_value_ascii, header_name_ascii, header_value_ascii}
use Rattle.paired_sepps.proofs.Bytes.{text_bytes}
use Rattle.paired_sepps.proofs.Ciphers.{sealed_parts}
use Rattle.paired_sepps.proofs.Holes.{hole_document, hidden_document, IsValue, AreValues, values_documents, values_shallow, AreFound, outermost_values}
use Rattle.paired_sepps.proofs.Blocks.{is_held, is_held_value, is_held_pair, is_held_head, AreEntries, IsHeld, block_document}

-- ---- the head with holes

text_held : (test : List ℕ → Bool) (p : Part) → is_text test p ≡ true → is_held test p ≡ true
text_held test (clear s) e = e
text_held test (hole_part n) e = refl

value_held : (v : Option Part) → is_value v ≡ true → is_held_value v ≡ true
value_held None e = refl
value_held (Some p) e = text_held is_query_value p e

segments_held : (pick : ℕ → Part → Bool) (i n : ℕ) (ps : List Part) → list_all (is_text is_segment) ps ≡ true → list_all (is_held is_segment) (hide_each pick hide_part i n ps) ≡ true
segments_held pick i n [] e = refl
segments_held pick i n (p ∷ ps) e = let h = and_parts (is_text is_segment p) _ e in by (pick i p) (text_held is_segment p h.0) (segments_held pick (suc i) (suc n) ps h.1) (segments_held pick (suc i) n ps h.1)
  where
    by : (b : Bool) → is_held is_segment p ≡ true → list_all (is_held is_segment) (hide_each pick hide_part (suc i) (suc n) ps) ≡ true → list_all (is_held is_segment) (hide_each pick hide_part (suc i) n ps) ≡ true
        → list_all (is_held is_segment) (if b then hide_part n p ∷ hide_each pick hide_part (suc i) (suc n) ps else p ∷ hide_each pick hide_part (suc i) n ps) ≡ true
    by true one more rest = more
    by false one more rest = and_from _ _ one rest

abbrev is_whole_pair : Pair → Bool
is_whole_pair p = is_query_name p.name && is_value p.value

pairs_held : (pick : ℕ → Pair → Bool) (i n : ℕ) (ps : List Pair) → list_all is_whole_pair ps ≡ true → list_all is_held_pair (hide_each pick hide_pair i n ps) ≡ true
pairs_held pick i n [] e = refl
pairs_held pick i n (p ∷ ps) e =
    let h = and_parts (is_whole_pair p) _ e in
    let q = and_parts (is_query_name p.name) _ h.0 in
    by (pick i p) q.0 (value_held p.value q.1) (pairs_held pick (suc i) (suc n) ps h.1) (pairs_held pick (suc i) n ps h.1)
  where
    by : (b : Bool) → is_query_name p.name ≡ true → is_held_value p.value ≡ true → list_all is_held_pair (hide_each pick hide_pair (suc i) (suc n) ps) ≡ true → list_all is_held_pair (hide_each pick hide_pair (suc i) n ps) ≡ true
        → list_all is_held_pair (if b then hide_pair n p ∷ hide_each pick hide_pair (suc i) (suc n) ps else p ∷ hide_each pick hide_pair (suc i) n ps) ≡ true
    by true name one more rest = and_from _ _ (and_from _ _ name refl) more
    by false name one more rest = and_from _ _ (and_from _ _ name one) rest

-- what a whole line has
record LineParts (l : Line) : Type 0 where
  pub said : (is_method l.method && (is_scheme l.scheme && (is_authority l.authority && is_version l.version))) ≡ true
  pub segments : list_all (is_text is_segment) l.segments ≡ true
  pub query : list_all is_whole_pair l.query ≡ true

line_parts : (l : Line) → is_whole_line l ≡ true → LineParts l
line_parts l e =
    let a = and_parts (is_method l.method && (is_scheme l.scheme && (is_authority l.authority && is_version l.version))) _ e in
    let b = and_parts (nat_lt 0 (length l.segments) && list_all (is_text is_segment) l.segments) _ a.1 in
    record { said = a.0; segments = (and_parts (nat_lt 0 (length l.segments)) _ b.0).1; query = b.1 }

head_held : (pol : Policy) (k : Option ℕ) (kind : Kind) (h : Head) → is_whole_head h ≡ true → is_held_head (hide_head pol k kind h) ≡ true
head_held pol k kind (request l) e =
    let p = line_parts l e in
    and_from _ _ p.said (and_from _ _
    (segments_held (is_secret_segment pol k kind) 0 0 l.segments p.segments)
    (pairs_held (λ i. is_secret_pair pol k kind) 0 (length (numbered (is_secret_segment pol k kind) segment_spot part_value 0 l.segments)) l.query p.query))
head_held pol k kind (response s) e = refl

-- ---- headers with holes

clear_document : (test : List ℕ → Bool) (p : Part) → ((s : List ℕ) → test s ≡ true → IsUtf8 s) → is_text test p ≡ true → IsDocument (part_tree p)
clear_document test (clear s) utf8 e = utf8 s e
clear_document test (hole_part n) utf8 e = cc

header_text : (s : List ℕ) → is_header_value s ≡ true → IsUtf8 s
header_text s e = IsUtf8-are_ascii s (header_value_ascii s e)

header_name : (h : Header) → is_whole_header h ≡ true → IsUtf8 h.name
header_name h e = IsUtf8-are_ascii h.name (header_name_ascii h.name (and_parts (is_header_name h.name) _ (and_parts (is_lower_name h.name) _ e).0).0)

headers_held : (pick : ℕ → Header → Bool) (i n : ℕ) (hs : List Header) → list_all is_whole_header hs ≡ true → n + length (numbered pick header_spot (λ h. part_value h.value) i hs) ≤ 1024
    → AreEntries (map (λ h. (h.name, part_tree h.value)) (hide_each pick hide_header i n hs))
headers_held pick i n [] e few = tt
headers_held pick i n (h ∷ hs) e few =
    let p = and_parts (is_whole_header h) _ e in
    by (pick i h) (header_name h p.0) (clear_document is_header_value h.value header_text (and_parts (is_lower_name h.name) _ p.0).1) (headers_held pick (suc i) (suc n) hs p.1) (headers_held pick (suc i) n hs p.1) few
  where
    by : (b : Bool) → IsUtf8 h.name → IsDocument (part_tree h.value)
        → (suc n + length (numbered pick header_spot (λ h. part_value h.value) (suc i) hs) ≤ 1024 → AreEntries (map (λ h. (h.name, part_tree h.value)) (hide_each pick hide_header (suc i) (suc n) hs)))
        → (n + length (numbered pick header_spot (λ h. part_value h.value) (suc i) hs) ≤ 1024 → AreEntries (map (λ h. (h.name, part_tree h.value)) (hide_each pick hide_header (suc i) n hs)))
        → n + length (if b then (header_spot i, part_value h.value) ∷ numbered pick header_spot (λ h. part_value h.value) (suc i) hs else numbered pick header_spot (λ h. part_value h.value) (suc i) hs) ≤ 1024
        → AreEntries (map (λ h. (h.name, part_tree h.value)) (if b then hide_header n h ∷ hide_each pick hide_header (suc i) (suc n) hs else h ∷ hide_each pick hide_header (suc i) n hs))
    by true name value more rest few = ((name, hole_document n (omega arith)), more (omega arith))
    by false name value more rest few = ((name, value), rest few)

-- ---- the message with holes

body_held : (pol : Policy) (k : Option ℕ) (kind : Kind) (n : ℕ) (o : Option Tree) → IsBodyDocument o → n + length (body_secrets pol k kind o) ≤ 1024 → IsBodyDocument (hide_body pol k kind n o)
body_held pol k kind n None d few = tt
body_held pol k kind n (Some t) d few = hidden_document (is_secret_node pol k kind t) [] n t d few

-- how many values there are
module _ (pol : Policy) (k : Option ℕ) (m : Message) where
  abbrev in_head : List (Spot × Tree)
  in_head = line_secrets pol k (kind_of m) m.head

  abbrev in_headers : List (Spot × Tree)
  in_headers = numbered (λ i. is_secret_header pol k (kind_of m)) header_spot (λ h. part_value h.value) 0 m.headers

  abbrev in_body : List (Pointer × Tree)
  in_body = body_secrets pol k (kind_of m) m.body

  abbrev spots : List (Spot × Tree)
  spots = map (λ s. (body_spot s.0, s.1)) in_body

  counted : length (values pol k m) ≡ length in_head + length in_headers + length in_body
  counted =
      let a : length (values pol k m) ≡ length (in_head ++ in_headers ++ spots) = length-map (in_head ++ in_headers ++ spots) (λ s. s.1) in
      let b : length (in_head ++ in_headers ++ spots) ≡ length (in_head ++ in_headers) + length spots = length-append (in_head ++ in_headers) spots in
      let c : length (in_head ++ in_headers) ≡ length in_head + length in_headers = length-append in_head in_headers in
      let d : length spots ≡ length in_body = length-map in_body (λ s. (body_spot s.0, s.1)) in
      omega arith

  pub cleared_held : is_whole m ≡ true → IsBodyDocument m.body → length (values pol k m) ≤ 1024 → IsHeld (cleared pol k m)
  cleared_held whole body few =
      let all = counted in
      let parts = and_parts (is_whole_head m.head) _ whole in
      record {
        head = head_held pol k (kind_of m) m.head parts.0;
        headers = headers_held (λ i. is_secret_header pol k (kind_of m)) 0 (length in_head) m.headers parts.1 (omega arith);
        body = body_held pol k (kind_of m) (length in_head + length in_headers) m.body body (omega arith);
      }

-- ---- the values

abbrev AreStood : List (Spot × Tree) → Type 0
AreStood [] = Unit {0}
AreStood (s ∷ ss) = IsValue 64 s.1 × AreStood ss

stood_append : (ss rs : List (Spot × Tree)) → AreStood ss → AreStood rs → AreStood (ss ++ rs)
stood_append [] rs h k = k
stood_append (s ∷ ss) rs h k = (h.0, stood_append ss rs h.1 k)

numbered_stood : {X : Type 0} (pick : ℕ → X → Bool) (spot : ℕ → Spot) (value : X → Tree) (test : X → Bool) → ((x : X) → test x ≡ true → IsValue 64 (value x)) → (i : ℕ) (xs : List X) → list_all test xs ≡ true → AreStood (numbered pick spot value i xs)
numbered_stood pick spot value test each i [] e = tt
numbered_stood pick spot value test each i (x ∷ xs) e = let h = and_parts (test x) _ e in by (pick i x) (each x h.0) (numbered_stood pick spot value test each (suc i) xs h.1)
  where
    by : (b : Bool) → IsValue 64 (value x) → AreStood (numbered pick spot value (suc i) xs) → AreStood (if b then (spot i, value x) ∷ numbered pick spot value (suc i) xs else numbered pick spot value (suc i) xs)
    by true one rest = (one, rest)
    by false one rest = rest

text_value : (test : List ℕ → Bool) → ((s : List ℕ) → test s ≡ true → IsUtf8 s) → (p : Part) → is_text test p ≡ true → IsValue 64 (part_value p)
text_value test utf8 (clear s) e = record { document = utf8 s e; shallow = omega arith }
text_value test utf8 (hole_part n) e = cc

pair_value : (p : Pair) → is_whole_pair p ≡ true → IsValue 64 (value_or_null p.value)
pair_value p e = by p.value (and_parts (is_query_name p.name) _ e).1
  where
    by : (v : Option Part) → is_value v ≡ true → IsValue 64 (value_or_null v)
    by None e = record { document = tt; shallow = omega arith }
    by (Some q) e = text_value is_query_value (λ s h. IsUtf8-are_ascii s (query_value_ascii s h)) q e

header_value : (h : Header) → is_whole_header h ≡ true → IsValue 64 (part_value h.value)
header_value h e = text_value is_header_value header_text h.value (and_parts (is_lower_name h.name) _ e).1

head_stood : (pol : Policy) (k : Option ℕ) (kind : Kind) (h : Head) → is_whole_head h ≡ true → AreStood (line_secrets pol k kind h)
head_stood pol k kind (request l) e =
    let p = line_parts l e in
    stood_append (numbered (is_secret_segment pol k kind) segment_spot part_value 0 l.segments) (numbered (λ i. is_secret_pair pol k kind) pair_spot (λ p. value_or_null p.value) 0 l.query)
    (numbered_stood (is_secret_segment pol k kind) segment_spot part_value (is_text is_segment) (text_value is_segment (λ s h. IsUtf8-are_ascii s (segment_ascii s h))) 0 l.segments p.segments)
    (numbered_stood (λ i. is_secret_pair pol k kind) pair_spot (λ p. value_or_null p.value) is_whole_pair pair_value 0 l.query p.query)
head_stood pol k kind (response s) e = tt

body_found : (pol : Policy) (k : Option ℕ) (kind : Kind) (o : Option Tree) → IsBodyDocument o → body_depth o ≤ 64 → AreFound 64 (body_secrets pol k kind o)
body_found pol k kind None d low = tt
body_found pol k kind (Some t) d low = outermost_values 64 (is_secret_node pol k kind t) [] t d low

found_stood : (ss : List (Pointer × Tree)) → AreFound 64 ss → AreStood (map (λ s. (body_spot s.0, s.1)) ss)
found_stood [] h = tt
found_stood (s ∷ ss) h = (h.0, found_stood ss h.1)

stood_values : (ss : List (Spot × Tree)) → AreStood ss → AreValues 64 (map (λ s. s.1) ss)
stood_values [] h = tt
stood_values (s ∷ ss) h = (h.0, stood_values ss h.1)

are_values : (pol : Policy) (k : Option ℕ) (m : Message) → is_whole m ≡ true → IsBodyDocument m.body → body_depth m.body ≤ 64 → AreValues 64 (values pol k m)
are_values pol k m whole body low =
    let parts = and_parts (is_whole_head m.head) _ whole in
    let heads : List (Spot × Tree) = numbered (λ i. is_secret_header pol k (kind_of m)) header_spot (λ h. part_value h.value) 0 m.headers in
    stood_values (secrets pol k m)
    (stood_append (line_secrets pol k (kind_of m) m.head ++ heads) (map (λ s. (body_spot s.0, s.1)) (body_secrets pol k (kind_of m) m.body))
    (stood_append (line_secrets pol k (kind_of m) m.head) heads (head_stood pol k (kind_of m) m.head parts.0)
    (numbered_stood (λ i. is_secret_header pol k (kind_of m)) header_spot (λ h. part_value h.value) is_whole_header header_value 0 m.headers parts.1))
    (found_stood (body_secrets pol k (kind_of m) m.body) (body_found pol k (kind_of m) m.body body low)))

plain_document : (vs : List Tree) → AreValues 64 vs → IsDocument (values_tree vs)
plain_document vs h = ((tt, tt), (IsUtf8-are_ascii (codes "dataToEncrypt") refl, values_documents 64 vs h, tt))

plain_bytes : (vs : List Tree) → AreValues 64 vs → IsBytes (plaintext vs)
plain_bytes vs h = let low = values_shallow 64 vs h in text_bytes (values_tree vs) (plain_document vs h) (omega arith)

-- ---- all that is sealed

few_values : (s : Shipment) → IsSendable s → length (shipped.values_of s) ≤ 1024
few_values s h =
    leb-true (length (shipped.values_of s)) 1024 (and_parts (at_most 256 (shipped.block_of s).headers && at_most 4096 (shipped.block_of s).payload) _ (split-limits (shipped.block_of s) (length (shipped.values_of s)) h.limits)).1

pub sealed_values : (s : Shipment) → IsSendable s → IsBodyDocument s.content.body → HasNames s.context → IsOneKey s.key → shipped.AreValues s
sealed_values s sendable body names key =
    let pol : Policy = s.context.policy in
    let meta : Meta = metadata_for s.context (id_of s) in
    let vs : List Tree = shipped.values_of s in
    let j : Tree = block_tree (shipped.block_of s) in
    let document : IsDocument j = block_document (cleared pol s.mapping s.content) meta (cleared_held pol s.mapping s.content sendable.whole body (few_values s sendable)) (is_meta-for s.context (id_of s) names sendable.fits) in
    let are : AreValues 64 vs = are_values pol s.mapping s.content sendable.whole body sendable.shallow in
    let low : depth (items (trees vs)) ≤ 126 = let shallow = values_shallow 64 vs are in omega arith in
    record {
      block = document;
      block_bytes = text_bytes j document (sent-low pol s.mapping s.content meta sendable.shallow);
      plain = values_documents 64 vs are;
      plain_depth = low;
      parts = sealed_parts s.context.suite s.key s.seq (compact_text j) (plaintext vs) key (plain_bytes vs are);
    }
