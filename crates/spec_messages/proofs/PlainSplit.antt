-- Under the empty policy a whole message without a body is its own clear message, and has no values.
use Rattle.std.proofs.Common.{◌≡◌, ℕ, suc, List, [], ◌∷◌, ◌++◌, map, true, ◌&&◌, Option, Some, None, refl, ap, ap₂, ◌+◌, length}
use Rattle.std.specs.Prelude.{nat_lt}
use Rattle.std.proofs.lemmas.Bool.{and_parts}
use Rattle.std.specs.List.{list_all}
use Rattle.spec_documents.specs.Tree.{Tree}
use Rattle.spec_documents.specs.Text.{is_segment, is_query_name, is_header_value}
use Rattle.spec_messages.specs.Message.{Part, clear, hole_part, Pair, Header, Head, request, response, Message, Kind, kind_of, is_text, is_value, is_whole, is_whole_head, is_whole_header, is_lower_name}
use Rattle.spec_messages.specs.Policy.{segment_spot, pair_spot, header_spot, numbered, part_value, value_or_null, is_secret_segment, is_secret_pair, is_secret_header, line_secrets, body_secrets, body_spot, values}
use Rattle.spec_messages.specs.Split.{hide_each, hide_part, hide_pair, hide_header, hide_head, hide_body, cleared}
use Rattle.spec_messages.specs.Plain.{empty_policy}
use Rattle.spec_messages.proofs.SplitLemmas.{is_whole_pair}

segments_shown : (kind : Kind) (i n : ℕ) (ps : List Part) → list_all (is_text is_segment) ps ≡ true → hide_each (is_secret_segment empty_policy None kind) hide_part i n ps ≡ ps
segments_shown kind i n [] e = refl
segments_shown kind i n (clear s ∷ ps) e = ap (λ r. clear s ∷ r) (segments_shown kind (suc i) n ps (and_parts (is_segment s) _ e).1)
segments_shown kind i n (hole_part m ∷ ps) e = cc

segments_told : (kind : Kind) (i : ℕ) (ps : List Part) → list_all (is_text is_segment) ps ≡ true → numbered (is_secret_segment empty_policy None kind) segment_spot part_value i ps ≡ []
segments_told kind i [] e = refl
segments_told kind i (clear s ∷ ps) e = segments_told kind (suc i) ps (and_parts (is_segment s) _ e).1
segments_told kind i (hole_part m ∷ ps) e = cc

pairs_shown : (kind : Kind) (i n : ℕ) (ps : List Pair) → list_all is_whole_pair ps ≡ true → hide_each (λ j. is_secret_pair empty_policy None kind) hide_pair i n ps ≡ ps
pairs_shown kind i n [] e = refl
pairs_shown kind i n (p ∷ ps) e = by p.value (and_parts (is_query_name p.name) _ (and_parts (is_whole_pair p) _ e).0).1 (pairs_shown kind (suc i) n ps (and_parts (is_whole_pair p) _ e).1)
  where
    by : (v : Option Part) → is_value v ≡ true → hide_each (λ j. is_secret_pair empty_policy None kind) hide_pair (suc i) n ps ≡ ps → hide_each (λ j. is_secret_pair empty_policy None kind) hide_pair i n (record { name = p.name; value = v } ∷ ps) ≡ record { name = p.name; value = v } ∷ ps
    by None w more = ap (λ r. record { name = p.name; value = None } ∷ r) more
    by (Some (clear s)) w more = ap (λ r. record { name = p.name; value = Some (clear s) } ∷ r) more
    by (Some (hole_part m)) w more = cc

pairs_told : (kind : Kind) (i : ℕ) (ps : List Pair) → list_all is_whole_pair ps ≡ true → numbered (λ j. is_secret_pair empty_policy None kind) pair_spot (λ p. value_or_null p.value) i ps ≡ []
pairs_told kind i [] e = refl
pairs_told kind i (p ∷ ps) e = by p.value (and_parts (is_query_name p.name) _ (and_parts (is_whole_pair p) _ e).0).1 (pairs_told kind (suc i) ps (and_parts (is_whole_pair p) _ e).1)
  where
    by : (v : Option Part) → is_value v ≡ true → numbered (λ j. is_secret_pair empty_policy None kind) pair_spot (λ p. value_or_null p.value) (suc i) ps ≡ [] → numbered (λ j. is_secret_pair empty_policy None kind) pair_spot (λ p. value_or_null p.value) i (record { name = p.name; value = v } ∷ ps) ≡ []
    by None w more = more
    by (Some (clear s)) w more = more
    by (Some (hole_part m)) w more = cc

headers_shown : (kind : Kind) (i n : ℕ) (hs : List Header) → list_all is_whole_header hs ≡ true → hide_each (λ j. is_secret_header empty_policy None kind) hide_header i n hs ≡ hs
headers_shown kind i n [] e = refl
headers_shown kind i n (h ∷ hs) e = by h.value (and_parts (is_lower_name h.name) _ (and_parts (is_whole_header h) _ e).0).1 (headers_shown kind (suc i) n hs (and_parts (is_whole_header h) _ e).1)
  where
    by : (v : Part) → is_text is_header_value v ≡ true → hide_each (λ j. is_secret_header empty_policy None kind) hide_header (suc i) n hs ≡ hs → hide_each (λ j. is_secret_header empty_policy None kind) hide_header i n (record { name = h.name; value = v } ∷ hs) ≡ record { name = h.name; value = v } ∷ hs
    by (clear s) w more = ap (λ r. record { name = h.name; value = clear s } ∷ r) more
    by (hole_part m) w more = cc

headers_told : (kind : Kind) (i : ℕ) (hs : List Header) → list_all is_whole_header hs ≡ true → numbered (λ j. is_secret_header empty_policy None kind) header_spot (λ h. part_value h.value) i hs ≡ []
headers_told kind i [] e = refl
headers_told kind i (h ∷ hs) e = by h.value (and_parts (is_lower_name h.name) _ (and_parts (is_whole_header h) _ e).0).1 (headers_told kind (suc i) hs (and_parts (is_whole_header h) _ e).1)
  where
    by : (v : Part) → is_text is_header_value v ≡ true → numbered (λ j. is_secret_header empty_policy None kind) header_spot (λ h. part_value h.value) (suc i) hs ≡ [] → numbered (λ j. is_secret_header empty_policy None kind) header_spot (λ h. part_value h.value) i (record { name = h.name; value = v } ∷ hs) ≡ []
    by (clear s) w more = more
    by (hole_part m) w more = cc

head_shown : (kind : Kind) (h : Head) → is_whole_head h ≡ true → hide_head empty_policy None kind h ≡ h
head_shown kind (request l) e =
    let r = and_parts (nat_lt 0 (length l.segments) && list_all (is_text is_segment) l.segments) _ (and_parts _ _ e).1 in
    let told = segments_told kind 0 l.segments (and_parts (nat_lt 0 (length l.segments)) _ r.0).1 in
    λ i. request (record l {
      segments = segments_shown kind 0 0 l.segments (and_parts (nat_lt 0 (length l.segments)) _ r.0).1 i;
      query = pairs_shown kind 0 (length (numbered (is_secret_segment empty_policy None kind) segment_spot part_value 0 l.segments)) l.query r.1 i;
    })
head_shown kind (response s) e = refl

head_told : (kind : Kind) (h : Head) → is_whole_head h ≡ true → line_secrets empty_policy None kind h ≡ []
head_told kind (request l) e =
    let r = and_parts (nat_lt 0 (length l.segments) && list_all (is_text is_segment) l.segments) _ (and_parts _ _ e).1 in
    ap₂ ◌++◌ (segments_told kind 0 l.segments (and_parts (nat_lt 0 (length l.segments)) _ r.0).1) (pairs_told kind 0 l.query r.1)
head_told kind (response s) e = refl

pub plain_clear : (m : Message) → is_whole m ≡ true → m.body ≡ None → cleared empty_policy None m ≡ m
plain_clear m e b =
    let p = and_parts (is_whole_head m.head) _ e in
    λ i. record {
      head = head_shown (kind_of m) m.head p.0 i;
      headers = headers_shown (kind_of m) 0 (length (line_secrets empty_policy None (kind_of m) m.head)) m.headers p.1 i;
      body = hidden m.body b i;
    }
  where
    hidden : (o : Option Tree) → o ≡ None → hide_body empty_policy None (kind_of m) (length (line_secrets empty_policy None (kind_of m) m.head) + length (numbered (λ j. is_secret_header empty_policy None (kind_of m)) header_spot (λ h. part_value h.value) 0 m.headers)) o ≡ o
    hidden None x = refl
    hidden (Some t) x = cc

pub plain_values : (m : Message) → is_whole m ≡ true → m.body ≡ None → values empty_policy None m ≡ []
plain_values m e b =
    let p = and_parts (is_whole_head m.head) _ e in
    let none : body_secrets empty_policy None (kind_of m) m.body ≡ [] = ap (body_secrets empty_policy None (kind_of m)) b in
    ap (map (λ s. s.1)) (ap₂ ◌++◌ (ap₂ ◌++◌ (head_told (kind_of m) m.head p.0) (headers_told (kind_of m) 0 m.headers p.1)) (ap (map (λ s. (body_spot s.0, s.1))) none))
