-- What is made of an opened document: its message, and what of this should have been sealed.
use Rattle.std.specs.Prelude.{ℕ, List, [], ◌∷◌, Bool, true, false, not, ◌||◌, Option, Some, None, option_map, option_and_then, Result, Ok, Err, slice_get, if◌then◌else◌}
use Rattle.spec_documents.specs.Tree.{Tree}
use Rattle.spec_documents.specs.Place.{Pointer, at, if_ok}
use Rattle.spec_documents.specs.Hole.{goes_into, is_marked}
use Rattle.spec_messages.specs.Message.{Part, clear, hole_part, Message}
use Rattle.spec_messages.specs.Policy.{Policy, Spot, segment_spot, pair_spot, header_spot, body_spot, Address, secret_places, spot_address, query_pairs}
use Rattle.spec_messages.specs.Changed.{segments_in}
use Rattle.spec_messages.specs.Split.{fill_whole}
use Rattle.spec_messages.specs.Block.{clear_message}
use Rattle.spec_messages.specs.Fault.{BlockFault, deep, block_fault}
use Rattle.spec_messages.specs.Rebuilt.{FillFault, fill_fault}

-- ---- the message

-- the message of a tree without a fault. A tree whose names are in order has one
abbrev pub of_block : Option BlockFault → Option Message → Result Message BlockFault
of_block (Some why) c = Err why
of_block None None = Err deep
of_block None (Some c) = Ok c

-- the message with holes that a block with n values stands for, or why it is none
abbrev pub read_block : Tree → ℕ → Result Message BlockFault
read_block j n = of_block (block_fault j n) (clear_message j)

abbrev pub unless_fault : Option FillFault → Message → Result Message FillFault
unless_fault None m = Ok m
unless_fault (Some why) m = Err why

-- the message with its holes filled, or why it has no fill
abbrev pub filled_with : List Tree → Message → Result Message FillFault
filled_with vs c = unless_fault (fill_fault vs c) (fill_whole vs c)

-- why a message isn't rebuilt
pub data RebuildWhy : Type 0 where
  no_values : RebuildWhy
  no_block : BlockFault → RebuildWhy
  no_fill : FillFault → RebuildWhy

-- ---- what stands in clear

abbrev pub is_hole : Part → Bool
is_hole (clear s) = false
is_hole (hole_part n) = true

abbrev pub is_hole_there : Option Part → Bool
is_hole_there None = false
is_hole_there (Some p) = is_hole p

abbrev pub is_body_hole : Option Tree → Pointer → Bool
is_body_hole None q = false
is_body_hole (Some t) q = goes_into t q || if_ok is_marked (at t q)

-- a place of the filled message at or beneath a hole of the message with holes c
abbrev pub is_hidden : Message → Spot → Bool
is_hidden c (segment_spot i) = is_hole_there (slice_get (segments_in c.head) i)
is_hidden c (pair_spot i) = is_hole_there (option_and_then (λ p. p.value) (slice_get (query_pairs c.head) i))
is_hidden c (header_spot i) = is_hole_there (option_map (λ h. h.value) (slice_get c.headers i))
is_hidden c (body_spot q) = is_body_hole c.body q

abbrev pub first_that : {X : Type 0} → (X → Bool) → List X → Option X
first_that test [] = None
first_that test (x ∷ xs) = if test x then Some x else first_that test xs

-- the address of the first secret place of the filled message m that its sender left in clear
abbrev pub in_clear : Policy → Option ℕ → Message → Message → Option Address
in_clear pol k c m = option_map (spot_address pol k m) (first_that (λ s. not (is_hidden c s)) (secret_places pol k m))
