-- Pointers kept as a tree of their tokens: an object has a member for each token that goes on, and `true` stands at the end of each pointer, beneath which all is covered.
use Rattle.std.specs.Prelude.{◌≡◌, option_map, ℕ, List, [], ◌∷◌, Bool, true, false, Option, Some, None, if◌then◌else◌}
use Rattle.spec_documents.specs.Tree.{Tree, null, truth, whole, words, items, members, no_members, get_member, put_member}
use Rattle.spec_documents.specs.Place.{Pointer}
use Rattle.spec_messages.specs.Block.{members_of, or_empty_object}
use Rattle.spec_messages.specs.Message.{Kind}
use Rattle.spec_messages.specs.Policy.{Policy, Element, Location, uri_param, header, body, multipart_binary, counted, pointer_of, sensitive}
use Rattle.n32_values.specs.View.{tree_of}
use Rattle.policy_tables.specs.declared.rules.Covering.{Covering}

-- a pointer ends here
abbrev pub is_end : Tree → Bool
is_end null = false
is_end (truth b) = b
is_end (whole z) = false
is_end (words s) = false
is_end (items ts) = false
is_end (members ms) = false

abbrev pub is_end_there : Option Tree → Bool
is_end_there None = false
is_end_there (Some t) = is_end t

-- what stands one token further: an end stays one
abbrev pub entered : List ℕ → Option Tree → Option Tree
entered x None = None
entered x (Some t) = if is_end t then Some t else get_member x (members_of t)

abbrev pub descended : Pointer → Option Tree → Option Tree
descended [] o = o
descended (x ∷ q) o = descended q (entered x o)

-- a pointer of the tree stands at or above q
abbrev pub covered : Pointer → Option Tree → Bool
covered q o = is_end_there (descended q o)

-- the tree with one more pointer
abbrev pub with_pointer : Pointer → Tree → Tree
with_pointer [] t = truth true
with_pointer (x ∷ p) t = if is_end t then t else members (put_member x (with_pointer p (or_empty_object (get_member x (members_of t)))) (members_of t))

-- ---- the tree of the elements of a list

-- the pointer of a body element that counts
abbrev pub body_pointer_by : Location → Option (List ℕ) → Option Pointer
body_pointer_by uri_param n = None
body_pointer_by header n = None
body_pointer_by body n = pointer_of n
body_pointer_by multipart_binary n = None

abbrev pub body_pointer : Kind → Element → Option Pointer
body_pointer kind e = body_pointer_by e.place (counted kind e)

abbrev pub with_pointer_if : Option Pointer → Tree → Tree
with_pointer_if None t = t
with_pointer_if (Some p) t = with_pointer p t

abbrev pub with_elements : Kind → List Element → Tree → Tree
with_elements kind [] t = t
with_elements kind (e ∷ es) t = with_elements kind es (with_pointer_if (body_pointer kind e) t)

-- ---- what is asked of the parts of a message of a kind, under a mapping

pub record Asked : Type 0 where
  pub policy : Policy
  pub mapping : Option ℕ
  pub kind : Kind

abbrev pub asked : Policy → Option ℕ → Kind → Asked
asked policy mapping kind = record { policy = policy; mapping = mapping; kind = kind }

-- the tree of the sensitive elements
abbrev pub sensitive_tree : Asked → Tree
sensitive_tree a = with_elements a.kind (sensitive a.policy a.mapping) (members no_members)

abbrev pub covering_view : Covering → Option Tree
covering_view c = option_map (λ n. tree_of n.now) c.below

-- c is what the sensitive elements cover at and beneath q
abbrev pub Leads : Asked → Pointer → Covering → Type 0
Leads a q c = covering_view c ≡ descended q (Some (sensitive_tree a))
