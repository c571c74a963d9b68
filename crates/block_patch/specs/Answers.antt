-- What an operation of an entry, and an entry, answers.
use Rattle.std.specs.Prelude.{◌≡◌, ⊤, ℕ, List, Bool, Option, Result, Ok, Err, if◌then◌else◌}
use Rattle.spec_documents.specs.Tree.{Tree}
use Rattle.spec_documents.specs.Place.{◌>>=◌}
use Rattle.spec_documents.specs.Patch.{Op}
use Rattle.spec_documents.specs.Hole.{HolePlace, places}
use Rattle.spec_messages.specs.Message.{Message}
use Rattle.spec_messages.specs.Policy.{Policy}
use Rattle.spec_messages.specs.Block.{IsBlock}
use Rattle.spec_messages.specs.Entry as spec
use Rattle.spec_messages.specs.Entry.{hole_value, into_hole, patch, hole_taken, too_large, metadata, not_block, hole_moved, not_modifiable}
use Rattle.spec_messages.specs.Outcome.{Ground, AppliedOn, FirstRefused, entry_on, same_places, read_again, unless_fixed}
use Rattle.http_message.specs.Reading.{message_view}
use Rattle.http_message.specs.declared.message.Message as read
use Rattle.policy_tables.specs.View.{address_view}
use Rattle.json_patch6902.specs.Faults.{cause_view}
use Rattle.block_patch.specs.declared.fault.OpWhy.{OpWhy}
use Rattle.block_patch.specs.declared.fault.OpWhy.TheVariants.{HoleValue, IntoHole, Patch, HoleTaken, TooLarge, Meta, NotBlock, HoleMoved, NotModifiable}
use Rattle.block_patch.specs.declared.fault.StepFault.{StepFault}
use Rattle.block_patch.specs.declared.fault.StepFault.TheVariants.{Why, NoMemory}
use Rattle.block_patch.specs.declared.fault.EntryFault.{EntryFault}
use Rattle.block_patch.specs.declared.fault.EntryFault.TheVariants as entry
use Rattle.block_patch.specs.declared.step.Patched.{Patched}

-- the reason that an answer names
abbrev pub why_view : OpWhy → spec.OpWhy
why_view HoleValue = hole_value
why_view IntoHole = into_hole
why_view (Patch why) = patch (cause_view why)
why_view HoleTaken = hole_taken
why_view TooLarge = too_large
why_view Meta = metadata
why_view NotBlock = not_block
why_view HoleMoved = hole_moved
why_view (NotModifiable a) = not_modifiable (address_view a)

-- ---- one operation

-- the reasons that come before an operation is made stand before the rest
abbrev pub told_first : Bool → Bool → Result Tree spec.OpWhy → Result Tree spec.OpWhy
told_first spelled beneath rest = if spelled then Err hole_value else (if beneath then Err into_hole else rest)

abbrev pub Forbids : {A : Type 0} → Bool → Bool → Result A StepFault → Type 0
Forbids spelled beneath (Ok _) = (rest : Result Tree spec.OpWhy) → told_first spelled beneath rest ≡ rest
Forbids spelled beneath (Err (Why why)) = (rest : Result Tree spec.OpWhy) → told_first spelled beneath rest ≡ Err (why_view why)
Forbids spelled beneath (Err NoMemory) = ⊤

-- the tree that is wanted, or the reason
abbrev pub Makes : Result Tree spec.OpWhy → Result Tree StepFault → Type 0
Makes wanted (Ok w) = wanted ≡ Ok w
Makes wanted (Err (Why why)) = wanted ≡ Err (why_view why)
Makes wanted (Err NoMemory) = ⊤

-- the tree w is what is wanted, or the reason is
abbrev pub Judges : {A : Type 0} → Result Tree spec.OpWhy → Tree → Result A StepFault → Type 0
Judges wanted w (Ok _) = wanted ≡ Ok w
Judges wanted w (Err (Why why)) = wanted ≡ Err (why_view why)
Judges wanted w (Err NoMemory) = ⊤

-- the message of a block with these holes
abbrev pub keeps_holes : ℕ → List HolePlace → Tree → Result Message spec.OpWhy
keeps_holes n holes w = read_again n w >>= λ d. if same_places (places w n) (Ok holes) then Ok d else Err hole_moved

-- the same again, compared with the message c before
abbrev pub judged_again : Policy → Option ℕ → List ℕ → ℕ → List HolePlace → Message → Tree → Result (Tree × Message) spec.OpWhy
judged_again pol k ipx n holes c w = keeps_holes n holes w >>= λ d. unless_fixed (spec.first_fixed pol k ipx c d) (w, d)

abbrev pub Reads : Result Message spec.OpWhy → Result read.Message StepFault → Type 0
Reads wanted (Ok m) = wanted ≡ Ok (message_view m)
Reads wanted (Err (Why why)) = wanted ≡ Err (why_view why)
Reads wanted (Err NoMemory) = ⊤

abbrev pub patched_view : Patched → Tree × Message
patched_view p = (p.doc, message_view p.message)

abbrev pub Gives : Result (Tree × Message) spec.OpWhy → Result Patched StepFault → Type 0
Gives wanted (Ok p) = wanted ≡ Ok (patched_view p)
Gives wanted (Err (Why why)) = wanted ≡ Err (why_view why)
Gives wanted (Err NoMemory) = ⊤

-- ---- an entry

abbrev pub Runs : Result (Tree × Message) (ℕ × spec.OpWhy) → Result Patched EntryFault → Type 0
Runs wanted (Ok p) = wanted ≡ Ok (patched_view p)
Runs wanted (Err (entry.Operation i why)) = wanted ≡ Err (i, why_view why)
Runs wanted (Err entry.NoMemory) = ⊤

-- the answer that a step's fault makes of operation i
abbrev pub Numbers : ℕ → StepFault → EntryFault → Type 0
Numbers i (Why why) result = result ≡ entry.Operation i why
Numbers i NoMemory result = result ≡ entry.NoMemory

-- the operations, each allowed, make of the block the block w, and of the message that it stands for this one
pub record Made (g : Ground) (ops : List Op) (w : Tree) : Type 0 where
  pub message : Message
  pub outcome : entry_on g ops ≡ Ok (w, message)
  pub applied : AppliedOn g ops (w, message)
  pub block : IsBlock w g.holes message

-- operation i, from 1, is the first that isn't allowed, and why is the first reason
pub record RefusedAt (g : Ground) (ops : List Op) (i : ℕ) (why : spec.OpWhy) : Type 0 where
  pub outcome : entry_on g ops ≡ Err (i, why)
  pub first : FirstRefused g ops i why

abbrev pub Refuses : Ground → List Op → EntryFault → Type 0
Refuses g ops (entry.Operation i why) = RefusedAt g ops i (why_view why)
Refuses g ops entry.NoMemory = ⊤

-- the block w that the entry makes, or the first operation that isn't allowed with its first reason
abbrev pub Answers : {A : Type 0} → Ground → List Op → Tree → Result A EntryFault → Type 0
Answers g ops w (Ok _) = Made g ops w
Answers g ops w (Err fault) = Refuses g ops fault
