-- Why a message with holes has no fill: the first cause in the order of the checks (this project's own).
use Rattle.std.specs.Prelude.{ℕ, min, List, [], ◌∷◌, map, Bool, nat_lt, Option, Some, None, if◌then◌else◌}
use Rattle.spec_documents.specs.Tree.{Tree}
use Rattle.spec_documents.specs.Text.{is_segment, is_query_value, is_header_value}
use Rattle.spec_documents.specs.Hole.{value_at, is_words}
use Rattle.spec_messages.specs.Message.{Part, clear, hole_part, Pair, Header, Head, request, response, Message, body_depth}
use Rattle.spec_messages.specs.Split.{fill_whole}
use Rattle.spec_messages.specs.Fault.{first_of, when}

-- the value with this index fills a part and is no text of its grammar, or the filled body is deeper than 64
pub data FillFault : Type 0 where
  not_text : ℕ → FillFault
  too_deep : FillFault

abbrev pub lesser : Option ℕ → Option ℕ → Option ℕ
lesser None o = o
lesser (Some m) None = Some m
lesser (Some m) (Some n) = Some (min m n)

abbrev pub least : List (Option ℕ) → Option ℕ
least [] = None
least (o ∷ os) = lesser o (least os)

-- the index of a hole whose value doesn't fit
abbrev pub misfit : (List ℕ → Bool) → List Tree → Part → Option ℕ
misfit test vs (clear s) = None
misfit test vs (hole_part n) = if is_words test (value_at vs n) then None else Some n

abbrev pub value_misfit : List Tree → Option Part → Option ℕ
value_misfit vs None = None
value_misfit vs (Some p) = misfit is_query_value vs p

abbrev pub segments_misfit : List Tree → List Part → Option ℕ
segments_misfit vs ps = least (map (misfit is_segment vs) ps)

abbrev pub query_misfit : List Tree → List Pair → Option ℕ
query_misfit vs ps = least (map (λ p. value_misfit vs p.value) ps)

abbrev pub head_misfit : List Tree → Head → Option ℕ
head_misfit vs (request l) = lesser (segments_misfit vs l.segments) (query_misfit vs l.query)
head_misfit vs (response s) = None

abbrev pub headers_misfit : List Tree → List Header → Option ℕ
headers_misfit vs hs = least (map (λ h. misfit is_header_value vs h.value) hs)

-- the least index whose value fills a part and doesn't fit
abbrev pub text_misfit : List Tree → Message → Option ℕ
text_misfit vs m = lesser (head_misfit vs m.head) (headers_misfit vs m.headers)

abbrev pub as_not_text : Option ℕ → Option FillFault
as_not_text None = None
as_not_text (Some n) = Some (not_text n)

-- why the message has no fill
abbrev pub fill_fault : List Tree → Message → Option FillFault
fill_fault vs m = first_of (as_not_text (text_misfit vs m)) (when (nat_lt 64 (body_depth (fill_whole vs m).body)) too_deep)
