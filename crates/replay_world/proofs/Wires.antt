-- Documents on the wire, and their bytes.
use Rattle.std.proofs.Common.{◌≡◌, ◌+◌, ℕ, zero, suc, ℤ, pos, negsuc, List, [], ◌∷◌, ◌++◌, length, Some, subst, arith}
use Rattle.std.specs.Prelude.{slice_get}
use Rattle.std.specs.List.{AllByRecursion}
use Rattle.spec_documents.specs.Tree.{Tree}
use Rattle.spec_documents.specs.Compact.{compact_text}
use Rattle.spec_script.specs.Steps.{wire_bytes, wire_at}
use Rattle.replay_world.specs.Worlds.{IsShallow, IsSound}
use Rattle.replay_world.specs.Wires.{HasMore}
use Rattle.replay_world.specs.declared.world.World.{World}

pub bytes_more : (ts : List Tree) (t : Tree) → wire_bytes (ts ++ t ∷ []) ≡ wire_bytes ts + length (compact_text t)
bytes_more [] t = omega arith
bytes_more (u ∷ us) t = omega (arith, bytes_more us t)

pub all_more : (P : Tree → Type 0) (ts : List Tree) (t : Tree) → AllByRecursion P ts → P t → AllByRecursion P (ts ++ t ∷ [])
all_more P [] t all one = (one, tt)
all_more P (u ∷ us) t all one = (all.0, all_more P us t all.1 one)

-- what holds of all on the wire holds of one
at_place : (P : Tree → Type 0) (ts : List Tree) (n : ℕ) (t : Tree) → AllByRecursion P ts → slice_get ts n ≡ Some t → P t
at_place P [] n t all e = cc
at_place P (u ∷ us) zero t all e = let same : u ≡ t = cc in subst P same all.0
at_place P (u ∷ us) (suc n) t all e = at_place P us n t all.1 e

pub low_at : (P : Tree → Type 0) (ts : List Tree) (wire : ℤ) (t : Tree) → AllByRecursion P ts → wire_at ts wire ≡ Some t → P t
low_at P ts (pos zero) t all e = cc
low_at P ts (pos (suc n)) t all e = at_place P ts n t all e
low_at P ts (negsuc n) t all e = cc

-- a world with a shallow document more is sound
pub sound_more : (old new : World) (t : Tree) → HasMore old new t → IsShallow t → IsSound old → IsSound new
sound_more old new t h low sound = record {
  nodes = rw (h.sites) (sound.nodes);
  wire = rw (h.wire) (all_more IsShallow old.wire t sound.wire low);
  bytes = h.bytes;
}
