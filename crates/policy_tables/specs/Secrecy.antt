-- Where a secret place of a message touches an address, part by part of the message.
use Rattle.std.specs.Prelude.{ℕ, suc, List, [], ◌∷◌, Bool, true, false, ◌&&◌, ◌||◌, Option, Some, None, is_ok}
use Rattle.std.specs.List.{list_any}
use Rattle.spec_documents.specs.Tree.{Tree}
use Rattle.spec_documents.specs.Place.{Pointer, is_prefix, child, at, if_ok}
use Rattle.spec_documents.specs.Hole.{is_marked, has_marked}
use Rattle.spec_messages.specs.Message.{Part, Pair, Header, Head, request, response, Message, Kind, kind_of}
use Rattle.spec_messages.specs.Policy.{LinePart, line_kind, line_method, line_scheme, line_authority, line_version, line_path, line_query_order, line_header_order, line_status, Policy, Element, Pattern, Location, uri_param, header, body, multipart_binary, Address, line, path_var, query, header_at, body_at, touches, patterns_of, mapping_at, is_covered, segment_address, is_secret_part, is_secret_value, counted, pointer_of, sensitive}

abbrev pub is_path : LinePart → Bool
is_path line_kind = false
is_path line_method = false
is_path line_scheme = false
is_path line_authority = false
is_path line_version = false
is_path line_path = true
is_path line_query_order = false
is_path line_header_order = false
is_path line_status = false

-- a segment of the address is secret, the segments counted from i on
abbrev pub secret_segment : List Pattern → Address → Bool → ℕ → List Part → Bool
secret_segment ps a covered i [] = false
secret_segment ps a covered i (p ∷ parts) = (touches (segment_address ps i) a && is_secret_part covered p) || secret_segment ps a covered (suc i) parts

abbrev pub secret_pair : Address → Bool → List Pair → Bool
secret_pair a covered ps = list_any (λ p. touches (query p.name) a && is_secret_value covered p.value) ps

abbrev pub secret_header : Address → Bool → List Header → Bool
secret_header a covered hs = list_any (λ h. touches (header_at h.name) a && is_secret_part covered h.value) hs

-- an object with a member `encBlockIndex` stands at, above or beneath q
abbrev pub meets_mark : Pointer → Tree → Bool
meets_mark [] t = has_marked t
meets_mark (x ∷ q) t = is_marked t || if_ok (meets_mark q) (child x t)

abbrev pub nears : Pointer → Pointer → Bool
nears p q = is_prefix p q || is_prefix q p

-- the node at a pointer is there, and stands at, above or beneath q
abbrev pub reaches : Tree → Pointer → Option Pointer → Bool
reaches t q None = false
reaches t q (Some p) = nears p q && is_ok (at t p)

abbrev pub reached_by : Tree → Pointer → Location → Option (List ℕ) → Bool
reached_by t q uri_param n = false
reached_by t q header n = false
reached_by t q body n = reaches t q (pointer_of n)
reached_by t q multipart_binary n = false

-- a node that the element covers stands at, above or beneath q
abbrev pub reached : Kind → Tree → Pointer → Element → Bool
reached kind t q e = reached_by t q e.place (counted kind e)

abbrev pub secret_node : Policy → Option ℕ → Kind → Pointer → Tree → Bool
secret_node pol k kind q t = list_any (reached kind t q) (sensitive pol k) || meets_mark q t

abbrev pub body_secret : Policy → Option ℕ → Kind → Address → Option Tree → Bool
body_secret pol k kind a None = false
body_secret pol k kind (body_at q) (Some t) = secret_node pol k kind q t
body_secret pol k kind (line l) (Some t) = false
body_secret pol k kind (path_var x) (Some t) = false
body_secret pol k kind (query x) (Some t) = false
body_secret pol k kind (header_at x) (Some t) = false

abbrev pub line_secret : Policy → Option ℕ → Bool → Address → Head → Bool
line_secret pol k covered a (request l) = secret_segment (patterns_of (mapping_at pol k)) a covered 0 l.segments || secret_pair a covered l.query
line_secret pol k covered a (response s) = false

-- whether a secret place of the message touches the address, found part by part
abbrev pub found_secret : Policy → Option ℕ → Message → Address → Bool
found_secret pol k m a =
    let covered = is_covered pol k (kind_of m) a in
    line_secret pol k covered a m.head || (secret_header a covered m.headers || body_secret pol k (kind_of m) a m.body)
