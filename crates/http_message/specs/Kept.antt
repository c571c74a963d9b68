-- What the program keeps of a block's line and headers: a hole's number past 2^32 - 1 is read as that number.
use Rattle.std.specs.Prelude.{List, map, Bool, true, ◌&&◌, nat_lt, ◌^◌, Option, None, Some, option_map, Result, Ok, Err}
use Rattle.std.specs.List.{list_all}
use Rattle.spec_messages.specs.Message.{Part, clear, hole_part, Pair, Header, Line, Head, request, response}
use Rattle.doc_forms.specs.Capped.{capped}

abbrev pub kept_part : Part → Part
kept_part (clear s) = clear s
kept_part (hole_part n) = hole_part (capped n)

abbrev pub kept_pair : Pair → Pair
kept_pair p = record { name = p.name; value = option_map kept_part p.value }

abbrev pub kept_header : Header → Header
kept_header h = record { name = h.name; value = kept_part h.value }

abbrev pub kept_line : Line → Line
kept_line l = record { method = l.method; scheme = l.scheme; authority = l.authority; version = l.version; segments = map kept_part l.segments; query = map kept_pair l.query }

abbrev pub kept_head : Head → Head
kept_head (request l) = request (kept_line l)
kept_head (response s) = response s

abbrev pub ok_map : {A B E : Type 0} → (A → B) → Result A E → Result B E
ok_map f (Ok x) = Ok (f x)
ok_map f (Err e) = Err e

-- ---- each hole's number is below 2^32

abbrev pub is_held : Part → Bool
is_held (clear s) = true
is_held (hole_part n) = nat_lt n (2 ^ 32)

abbrev pub is_held_value : Option Part → Bool
is_held_value None = true
is_held_value (Some p) = is_held p

abbrev pub is_held_head : Head → Bool
is_held_head (request l) = list_all is_held l.segments && list_all (λ p. is_held_value p.value) l.query
is_held_head (response s) = true

abbrev pub are_held_headers : List Header → Bool
are_held_headers hs = list_all (λ h. is_held h.value) hs
