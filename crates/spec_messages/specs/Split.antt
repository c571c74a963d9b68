-- A message with its secret places replaced by holes, and holes filled again (TS 33.501 clause 13.2.4.3).
use Rattle.std.specs.Prelude.{ℕ, suc, ◌+◌, List, [], ◌∷◌, ◌++◌, map, length, Bool, true, ◌&&◌, Option, Some, None, option_map, if◌then◌else◌, nat_le}
use Rattle.std.specs.List.{list_all}
use Rattle.spec_documents.specs.Tree.{Tree, null, truth, whole, words, items, members, Trees, no_items, item, Members, no_members, member}
use Rattle.spec_documents.specs.Place.{Pointer}
use Rattle.spec_documents.specs.Hole.{hole, fill, value_at, text_value, is_words}
use Rattle.spec_documents.specs.Text.{index_text, is_segment, is_query_value, is_header_value}
use Rattle.spec_messages.specs.Message.{Part, clear, hole_part, Pair, Header, Head, request, response, Message, Kind, kind_of, body_depth}
use Rattle.spec_messages.specs.Policy.{Policy, outermost, numbered, segment_spot, header_spot, part_value, is_secret_segment, is_secret_pair, is_secret_header, is_secret_node, line_secrets}

-- ---- the i-th of the places that pass the test is hole n + i

abbrev pub hide_each : {X : Type 0} → (ℕ → X → Bool) → (ℕ → X → X) → ℕ → ℕ → List X → List X
hide_each test put i n [] = []
hide_each test put i n (x ∷ xs) = if test i x then put n x ∷ hide_each test put (suc i) (suc n) xs else x ∷ hide_each test put (suc i) n xs

abbrev pub hide_part : ℕ → Part → Part
hide_part n p = hole_part n

abbrev pub hide_pair : ℕ → Pair → Pair
hide_pair n p = record p { value = Some (hole_part n) }

abbrev pub hide_header : ℕ → Header → Header
hide_header n h = record h { value = hole_part n }

abbrev mutual
  pub hide : (Pointer → Tree → Bool) → Pointer → ℕ → Tree → Tree
  hide test q n null = if test q null then hole n else null
  hide test q n (truth b) = if test q (truth b) then hole n else truth b
  hide test q n (whole z) = if test q (whole z) then hole n else whole z
  hide test q n (words s) = if test q (words s) then hole n else words s
  hide test q n (items ts) = if test q (items ts) then hole n else items (hide_items test q 0 n ts)
  hide test q n (members ms) = if test q (members ms) then hole n else members (hide_members test q n ms)

  pub hide_items : (Pointer → Tree → Bool) → Pointer → ℕ → ℕ → Trees → Trees
  hide_items test q i n no_items = no_items
  hide_items test q i n (item t ts) =
      item (hide test (q ++ index_text i ∷ []) n t) (hide_items test q (suc i) (n + length (outermost test (q ++ index_text i ∷ []) t)) ts)

  pub hide_members : (Pointer → Tree → Bool) → Pointer → ℕ → Members → Members
  hide_members test q n no_members = no_members
  hide_members test q n (member k t ms) =
      member k (hide test (q ++ k ∷ []) n t) (hide_members test q (n + length (outermost test (q ++ k ∷ []) t)) ms)

abbrev pub hide_head : Policy → Option ℕ → Kind → Head → Head
hide_head pol k kind (request l) = request (record l {
  segments = hide_each (is_secret_segment pol k kind) hide_part 0 0 l.segments;
  query = hide_each (λ i. is_secret_pair pol k kind) hide_pair 0 (length (numbered (is_secret_segment pol k kind) segment_spot part_value 0 l.segments)) l.query;
})
hide_head pol k kind (response s) = response s

abbrev pub hide_body : Policy → Option ℕ → Kind → ℕ → Option Tree → Option Tree
hide_body pol k kind n None = None
hide_body pol k kind n (Some t) = Some (hide (is_secret_node pol k kind t) [] n t)

-- the i-th secret place is hole i
abbrev pub cleared : Policy → Option ℕ → Message → Message
cleared pol k m =
    let kind = kind_of m in
    let first_header = length (line_secrets pol k kind m.head) in
    let first_body = first_header + length (numbered (λ i. is_secret_header pol k kind) header_spot (λ h. part_value h.value) 0 m.headers) in
    record {
      head = hide_head pol k kind m.head;
      headers = hide_each (λ i. is_secret_header pol k kind) hide_header 0 first_header m.headers;
      body = hide_body pol k kind first_body m.body;
    }

-- ---- filling

abbrev pub fill_part : List Tree → Part → Part
fill_part vs (clear s) = clear s
fill_part vs (hole_part n) = clear (text_value (value_at vs n))

abbrev pub fill_pair : List Tree → Pair → Pair
fill_pair vs p = record p { value = option_map (fill_part vs) p.value }

abbrev pub fill_header : List Tree → Header → Header
fill_header vs h = record h { value = fill_part vs h.value }

abbrev pub fill_head : List Tree → Head → Head
fill_head vs (request l) = request (record l { segments = map (fill_part vs) l.segments; query = map (fill_pair vs) l.query })
fill_head vs (response s) = response s

abbrev pub fill_whole : List Tree → Message → Message
fill_whole vs m = record { head = fill_head vs m.head; headers = map (fill_header vs) m.headers; body = option_map (fill vs) m.body }

-- ---- where there is a fill: each value of a text hole is a text of its grammar, and the body is no deeper than 64

abbrev pub has_text : (List ℕ → Bool) → List Tree → Part → Bool
has_text test vs (clear s) = true
has_text test vs (hole_part n) = is_words test (value_at vs n)

abbrev pub has_value : List Tree → Option Part → Bool
has_value vs None = true
has_value vs (Some p) = has_text is_query_value vs p

abbrev pub head_has_texts : List Tree → Head → Bool
head_has_texts vs (request l) = list_all (has_text is_segment vs) l.segments && list_all (λ p. has_value vs p.value) l.query
head_has_texts vs (response s) = true

abbrev pub has_texts : List Tree → Message → Bool
has_texts vs m = head_has_texts vs m.head && list_all (λ h. has_text is_header_value vs h.value) m.headers

-- the message with each hole replaced by its value, or nothing
abbrev pub filled : List Tree → Message → Option Message
filled vs m = if has_texts vs m && nat_le (body_depth (fill_whole vs m).body) 64 then Some (fill_whole vs m) else None
