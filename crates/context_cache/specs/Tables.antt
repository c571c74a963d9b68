-- The table of contexts: what is kept of each, by its node's name and its id (this project's own).
use Rattle.std.specs.Prelude.{ℕ, ◌&&◌, ◌==◌, Bool, min, List, [], ◌∷◌, if◌then◌else◌, bytes_eq}
use Rattle.std.specs.String.{string_bytes}
use Rattle.context_cache.specs.Known.{Known, nothing_known}
use Rattle.context_cache.specs.declared.name.Name.{Name}
use Rattle.context_cache.specs.declared.cache.Cache.{Cache}

-- a context's facts, and how many more ids fit into each of its lists without memory
pub record Kept : Type 0 where
  pub node : List ℕ
  pub id : ℕ
  pub known : Known
  pub room : ℕ

abbrev pub is_named : List ℕ → ℕ → List ℕ → ℕ → Bool
is_named node id n i = bytes_eq node n && (id == i)

abbrev pub known_at : List ℕ → ℕ → List Kept → Known
known_at node id [] = nothing_known
known_at node id (k ∷ ks) = if is_named node id k.node k.id then k.known else known_at node id ks

abbrev pub room_at : List ℕ → ℕ → List Kept → ℕ
room_at node id [] = 0
room_at node id (k ∷ ks) = if is_named node id k.node k.id then k.room else room_at node id ks

-- ---- what the program's values stand for

abbrev pub known_of : Cache → Known
known_of c = record {
  used = c.used;
  opened = c.opened;
  closed = c.closed;
  keyed = c.keyed;
  sent_request = c.sent_request;
  sent_response = c.sent_response;
  sent_requests = c.sent_requests.entries;
  sent_responses = c.sent_responses.entries;
  delivered_requests = c.delivered_requests.entries;
  delivered_responses = c.delivered_responses.entries;
}

abbrev pub room_of : Cache → ℕ
room_of c = min (min c.sent_requests.spare c.sent_responses.spare) (min c.delivered_requests.spare c.delivered_responses.spare)

abbrev pub kept_of : Name × Cache → Kept
kept_of e = record { node = string_bytes e.0.node; id = e.0.id; known = known_of e.1; room = room_of e.1 }

-- the name is this context's
abbrev pub names : List ℕ → ℕ → Name → Bool
names node id k = is_named node id (string_bytes k.node) k.id
