-- Screens: rules on the messages that a SEPP hands on, by the network of the peer (after the anti-spoofing of TS 33.501 clause 13.2.4.8; the header `x-n32-plmn` and both rules are this project's own).
use Rattle.std.specs.Prelude.{ℕ, List, Bool, true, not, ◌||◌, bytes_eq, codes}
use Rattle.std.specs.List.{list_any, list_all}
use Rattle.spec_messages.specs.Message.{Header, Head, request, response, Message, is_text}

-- whether a message of a peer in the network of this PLMN id may be handed on
abbrev pub Passes : Type 0
Passes = Message → List ℕ → Bool

-- ---- the network that a message names

abbrev pub names_network : List ℕ → Header → Bool
names_network plmn h = not (bytes_eq h.name (codes "x-n32-plmn")) || is_text (bytes_eq plmn) h.value

-- each network that the message says it comes from is the peer's
abbrev pub origin_passes : Passes
origin_passes m plmn = list_all (names_network plmn) m.headers

-- ---- the methods of requests

abbrev pub method_is_listed : List (List ℕ) → Head → Bool
method_is_listed methods (request l) = list_any (bytes_eq l.method) methods
method_is_listed methods (response s) = true

-- a request's method is one of the list. Responses pass
abbrev pub method_passes : List (List ℕ) → Passes
method_passes methods m plmn = method_is_listed methods m.head
