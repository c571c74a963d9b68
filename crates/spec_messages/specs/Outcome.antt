-- What an intermediary's operation or entry makes of a block, or the first reason why it is not allowed: computed, for what `Allowed`, `EntryApplied` and `OpCause` say.
use Rattle.std.specs.Prelude.{◌≡◌, ℕ, suc, List, [], ◌∷◌, ◌++◌, length, Bool, true, false, not, ◌&&◌, ◌==◌, Option, Some, None, Result, Ok, Err, is_some, if◌then◌else◌, bytes_eq}
use Rattle.spec_documents.specs.Tree.{Tree, is_ordered}
use Rattle.spec_documents.specs.Place.{Pointer, ◌>>=◌}
use Rattle.spec_documents.specs.Patch.{Op}
use Rattle.spec_documents.specs.Hole.{HolePlace, HoleFault, places}
use Rattle.spec_messages.specs.Message.{Message}
use Rattle.spec_messages.specs.Policy.{Policy, Address}
use Rattle.spec_messages.specs.Block.{IsBlock, clear_message}
use Rattle.spec_messages.specs.Fault.{block_fault}
use Rattle.spec_messages.specs.Entry.{OpWhy, not_block, hole_moved, not_modifiable, op_result, first_fixed, Allowed, OpCause, EntryApplied}

-- ---- the same places of holes

abbrev pub same_pointer : Pointer → Pointer → Bool
same_pointer [] [] = true
same_pointer [] (y ∷ q) = false
same_pointer (x ∷ p) [] = false
same_pointer (x ∷ p) (y ∷ q) = bytes_eq x y && same_pointer p q

abbrev pub same_part : Option ℕ → Option ℕ → Bool
same_part None None = true
same_part None (Some n) = false
same_part (Some m) None = false
same_part (Some m) (Some n) = m == n

abbrev pub same_place : HolePlace → HolePlace → Bool
same_place a b = same_pointer a.pointer b.pointer && same_part a.part b.part

abbrev pub same_place_list : List HolePlace → List HolePlace → Bool
same_place_list [] [] = true
same_place_list [] (q ∷ qs) = false
same_place_list (p ∷ ps) [] = false
same_place_list (p ∷ ps) (q ∷ qs) = same_place p q && same_place_list ps qs

abbrev pub same_places : Result (List HolePlace) HoleFault → Result (List HolePlace) HoleFault → Bool
same_places (Ok ps) (Ok qs) = same_place_list ps qs
same_places (Ok ps) (Err why) = false
same_places (Err why) r = false

-- ---- an operation

abbrev pub message_or : Option Message → Result Message OpWhy
message_or None = Err not_block
message_or (Some d) = Ok d

-- the message that w stands for, where w is a block with n holes
abbrev pub read_again : ℕ → Tree → Result Message OpWhy
read_again n w = if is_ordered w && not (is_some (block_fault w n)) then message_or (clear_message w) else Err not_block

abbrev pub unless_fixed : Option Address → Tree × Message → Result (Tree × Message) OpWhy
unless_fixed None r = Ok r
unless_fixed (Some a) r = Err (not_modifiable a)

-- what must stay: the places of the holes, and what the policy lets no one change
abbrev pub compared : Policy → Option ℕ → List ℕ → ℕ → Tree → Message → Tree → Message → Result (Tree × Message) OpWhy
compared pol k ipx n j c w d = if same_places (places w n) (places j n) then unless_fixed (first_fixed pol k ipx c d) (w, d) else Err hole_moved

abbrev pub operation_outcome : Policy → Option ℕ → List ℕ → ℕ → Tree → Message → Op → Result (Tree × Message) OpWhy
operation_outcome pol k ipx n j c op = op_result j op >>= λ w. read_again n w >>= λ d. compared pol k ipx n j c w d

-- ---- an entry

abbrev pub numbered_cause : ℕ → Result (Tree × Message) OpWhy → Result (Tree × Message) (ℕ × OpWhy)
numbered_cause i (Ok r) = Ok r
numbered_cause i (Err why) = Err (i, why)

-- the operations in order, the first of them being number i
abbrev pub outcome_from : Policy → Option ℕ → List ℕ → ℕ → ℕ → List Op → Tree → Message → Result (Tree × Message) (ℕ × OpWhy)
outcome_from pol k ipx n i [] j c = Ok (j, c)
outcome_from pol k ipx n i (op ∷ ops) j c = numbered_cause i (operation_outcome pol k ipx n j c op) >>= λ r. outcome_from pol k ipx n (suc i) ops r.0 r.1

-- the block and its message after the entry, or the number of the first operation that isn't allowed, from 1, with its first reason
abbrev pub entry_outcome : Policy → Option ℕ → List ℕ → ℕ → Tree → Message → List Op → Result (Tree × Message) (ℕ × OpWhy)
entry_outcome pol k ipx n j c ops = outcome_from pol k ipx n 1 ops j c

-- ---- what the laws speak of

-- the block `tree` with n holes stands for `clear`, and `ipx` is to change it
pub record Ground : Type 0 where
  pub policy : Policy
  pub mapping : Option ℕ
  pub ipx : List ℕ
  pub holes : ℕ
  pub tree : Tree
  pub clear : Message
  pub block : IsBlock tree holes clear

abbrev pub AllowedOn : Ground → Op → Tree × Message → Type 0
AllowedOn g op r = Allowed g.policy g.mapping g.ipx g.holes g.tree g.clear op r.0 r.1

abbrev pub CauseOn : Ground → Op → OpWhy → Type 0
CauseOn g op why = OpCause g.policy g.mapping g.ipx g.holes g.tree g.clear op why

abbrev pub AppliedOn : Ground → List Op → Tree × Message → Type 0
AppliedOn g ops r = EntryApplied g.policy g.mapping g.ipx g.holes g.tree g.clear ops r.0 r.1

-- the operations before number i are allowed, and number i is not, for the first reason why
pub record FirstRefused (g : Ground) (ops : List Op) (i : ℕ) (why : OpWhy) : Type 0 where
  pub earlier : List Op
  pub operation : Op
  pub later : List Op
  pub are : ops ≡ earlier ++ operation ∷ later
  pub number : i ≡ suc (length earlier)
  pub reached : Tree
  pub message : Message
  pub applied : AppliedOn g earlier (reached, message)
  pub cause : OpCause g.policy g.mapping g.ipx g.holes reached message operation why

abbrev pub outcome_on : Ground → Op → Result (Tree × Message) OpWhy
outcome_on g op = operation_outcome g.policy g.mapping g.ipx g.holes g.tree g.clear op

abbrev pub entry_on : Ground → List Op → Result (Tree × Message) (ℕ × OpWhy)
entry_on g ops = entry_outcome g.policy g.mapping g.ipx g.holes g.tree g.clear ops
