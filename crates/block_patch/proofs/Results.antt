-- What is read again of a result, and what an operation comes to.
use Rattle.std.proofs.Common.{◌≡◌, ℕ, List, Bool, true, false, not, ◌&&◌, Option, Some, None, Result, Ok, Err, refl, ap, ap₂, ◌∙◌, is_some, if◌then◌else◌}
use Rattle.std.proofs.lemmas.Bool.{and_parts, and_from}
use Rattle.spec_documents.specs.Tree.{Tree, is_tree, is_ordered}
use Rattle.spec_documents.specs.Place.{◌>>=◌}
use Rattle.spec_documents.specs.Hole.{HolePlace, places}
use Rattle.spec_messages.specs.Message.{Message}
use Rattle.spec_messages.specs.Policy.{Policy}
use Rattle.spec_messages.specs.Block.{clear_message}
use Rattle.spec_messages.specs.Fault.{BlockFault, block_fault}
use Rattle.spec_messages.specs.Entry.{OpWhy, not_block, hole_moved, first_fixed}
use Rattle.spec_messages.specs.Outcome.{same_place_list, same_places, message_or, read_again, unless_fixed, compared}
use Rattle.block_forms.specs.Faults.{Tells, Refuses}
use Rattle.block_forms.specs.declared.fault.BlockRead.{BlockRead}
use Rattle.block_forms.specs.declared.fault.BlockRead.TheVariants as reads
use Rattle.block_forms.specs.declared.fault.BlockWhy.{BlockWhy}
use Rattle.block_forms.specs.declared.fault.BlockWhy.TheVariants as why
use Rattle.block_patch.specs.declared.fault.StepFault.{StepFault}
use Rattle.block_patch.specs.declared.fault.StepFault.TheVariants.{Why, NoMemory}
use Rattle.block_patch.specs.Answers.{Makes, Reads, Gives, keeps_holes}

pub ordered_of : (t : Tree) → is_tree t ≡ true → is_ordered t ≡ true
ordered_of t e = (and_parts (is_ordered t) _ e).0

told_some : (w : BlockWhy) (f : Option BlockFault) → Tells w f → is_some f ≡ true
told_some (why.Member name) f e = ap is_some e
told_some (why.Limit which) f e = ap is_some e
told_some (why.IePath k) f e = ap is_some e
told_some (why.Overlap k) f e = ap is_some e
told_some (why.BadHole place) f e = ap is_some e
told_some (why.Twice n) f e = ap is_some e
told_some (why.Missing n) f e = ap is_some e
told_some why.Depth f e = ap is_some e

read_none : (n : ℕ) (w : Tree) → is_some (block_fault w n) ≡ true → read_again n w ≡ Err not_block
read_none n w e = by (is_ordered w) (is_some (block_fault w n)) e
  where
    by : (a b : Bool) → b ≡ true → (if a && not b then message_or (clear_message w) else Err not_block) ≡ Err not_block
    by true true e = refl
    by true false e = cc
    by false b e = refl

read_some : (n : ℕ) (w : Tree) (d : Message) → is_ordered w ≡ true → block_fault w n ≡ None → clear_message w ≡ Some d → read_again n w ≡ Ok d
read_some n w d o f m = ap₂ (λ (b : Bool) r. if b then r else Err not_block) (and_from (is_ordered w) _ o (ap (λ x. not (is_some x)) f)) (ap message_or m)

-- a document with a fault is no block
pub faulty : (n : ℕ) (holes : List HolePlace) (w : Tree) (y : BlockWhy) → Tells y (block_fault w n) → keeps_holes n holes w ≡ Err not_block
faulty n holes w y e = ap (λ r. r >>= λ d. if same_places (places w n) (Ok holes) then Ok d else Err hole_moved) (read_none n w (told_some y (block_fault w n) e))

pub refused_read : {y : BlockWhy} (n : ℕ) (holes : List HolePlace) (w : Tree) (r : BlockRead) → r ≡ reads.Refused y → Refuses r (block_fault w n) → keeps_holes n holes w ≡ Err not_block
refused_read n holes w (reads.Refused y) is e = faulty n holes w y e
refused_read n holes w reads.NoMemory is e = cc

-- a block's message, where its holes are those
pub kept : (n : ℕ) (holes news : List HolePlace) (w : Tree) (d : Message) → is_ordered w ≡ true → block_fault w n ≡ None → clear_message w ≡ Some d → places w n ≡ Ok news → same_place_list news holes ≡ true → keeps_holes n holes w ≡ Ok d
kept n holes news w d o f m p s =
    ap (λ r. r >>= λ d. if same_places (places w n) (Ok holes) then Ok d else Err hole_moved) (read_some n w d o f m)
    ∙ (ap (λ r. if same_places r (Ok holes) then Ok d else Err hole_moved) p ∙ ap (λ (b : Bool). if b then Ok d else Err hole_moved) s)

pub moved : (n : ℕ) (holes news : List HolePlace) (w : Tree) (d : Message) → is_ordered w ≡ true → block_fault w n ≡ None → clear_message w ≡ Some d → places w n ≡ Ok news → same_place_list news holes ≡ false → keeps_holes n holes w ≡ Err hole_moved
moved n holes news w d o f m p s =
    ap (λ r. r >>= λ d. if same_places (places w n) (Ok holes) then Ok d else Err hole_moved) (read_some n w d o f m)
    ∙ (ap (λ r. if same_places r (Ok holes) then Ok d else Err hole_moved) p ∙ ap (λ (b : Bool). if b then Ok d else Err hole_moved) s)

-- what is compared with the block's own places is compared with those that were kept
pub same_judged : (pol : Policy) (k : Option ℕ) (ipx : List ℕ) (n : ℕ) (j : Tree) (c : Message) (w : Tree) (holes : List HolePlace) → places j n ≡ Ok holes
    → (read_again n w >>= λ d. compared pol k ipx n j c w d) ≡ (keeps_holes n holes w >>= λ d. unless_fixed (first_fixed pol k ipx c d) (w, d))
same_judged pol k ipx n j c w holes e = by (read_again n w)
  where
    chosen : (b : Bool) (d : Message) → (if b then unless_fixed (first_fixed pol k ipx c d) (w, d) else Err hole_moved) ≡ ((if b then Ok d else Err hole_moved) >>= λ d. unless_fixed (first_fixed pol k ipx c d) (w, d))
    chosen true d = refl
    chosen false d = refl

    by : (r : Result Message OpWhy) → (r >>= λ d. compared pol k ipx n j c w d) ≡ ((r >>= λ d. if same_places (places w n) (Ok holes) then Ok d else Err hole_moved) >>= λ d. unless_fixed (first_fixed pol k ipx c d) (w, d))
    by (Err y) = refl
    by (Ok d) = ap (λ q. if same_places (places w n) q then unless_fixed (first_fixed pol k ipx c d) (w, d) else Err hole_moved) e ∙ chosen (same_places (places w n) (Ok holes)) d

-- ---- refusals go on

pub makes_not : (wanted : Result Tree OpWhy) (f : StepFault) (g : Tree → Result (Tree × Message) OpWhy) → Makes wanted (Err f) → Gives (wanted >>= g) (Err f)
makes_not wanted (Why y) g e = ap (λ r. r >>= g) e
makes_not wanted NoMemory g e = tt

pub reads_not : (wanted : Result Message OpWhy) (f : StepFault) (g : Message → Result (Tree × Message) OpWhy) → Reads wanted (Err f) → Gives (wanted >>= g) (Err f)
reads_not wanted (Why y) g e = ap (λ r. r >>= g) e
reads_not wanted NoMemory g e = tt
