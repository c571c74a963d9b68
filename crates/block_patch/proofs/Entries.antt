-- The operations of an entry, one by one, and what they lead to.
use Rattle.std.proofs.Common.{◌≡◌, ℕ, zero, suc, ◌+◌, ◌<◌, List, [], ◌∷◌, map, length, Option, Some, None, Result, Ok, Err, refl, sym, ap, ◌∙◌, subst, inl, inr, drop, slice_get, arith}
use Rattle.std.specs.Prelude.{◌⊎◌}
use Rattle.spec_documents.specs.Tree.{Tree}
use Rattle.spec_documents.specs.Place.{Cause, ◌>>=◌}
use Rattle.spec_documents.specs.Patch as patch
use Rattle.spec_messages.specs.Message.{Message}
use Rattle.spec_messages.specs.Policy.{Policy}
use Rattle.spec_messages.specs.Block.{IsBlock}
use Rattle.spec_messages.specs.Fault.{block_fault}
use Rattle.spec_messages.specs.Entry.{OpWhy}
use Rattle.spec_messages.specs.Changed.{patched_all}
use Rattle.spec_messages.specs.Steps.{EntryStep, ChainStep}
use Rattle.spec_messages.specs.Outcome.{operation_outcome, numbered_cause, outcome_from, entry_outcome, Ground, FirstRefused, entry_on}
use Rattle.spec_messages.proofs.BlockLaws.{block-clear, faultless-block}
use Rattle.spec_messages.proofs.BlockOrder.{block-ordered}
use Rattle.spec_messages.proofs.OnePlaces.{one-place, index-below}
use Rattle.n32_values.proofs.Trees.{drop_at}
use Rattle.json_patch6902.specs.declared.op.Op.{Op}
use Rattle.json_patch6902.specs.View.{op_view}
use Rattle.block_patch.specs.declared.fault.StepFault.{StepFault}
use Rattle.block_patch.specs.declared.fault.StepFault.TheVariants.{Why, NoMemory}
use Rattle.block_patch.specs.declared.fault.EntryFault.{EntryFault}
use Rattle.block_patch.specs.declared.fault.EntryFault.TheVariants as entry
use Rattle.block_patch.specs.Answers.{Gives, Numbers, Runs, Refuses, why_view}
use Rattle.block_patch.specs.Commutes.{BlockOf, ground}

-- what the operations from place i on make
abbrev pub from_on : Policy → Option ℕ → List ℕ → ℕ → ℕ → List Op → Tree → Message → Result (Tree × Message) (ℕ × OpWhy)
from_on pol k ipx n i ops j c = outcome_from pol k ipx n (suc i) (map op_view (drop i ops)) j c

first_of_rest : (pol : Policy) (k : Option ℕ) (ipx : List ℕ) (n i : ℕ) (ops : List Op) (op : Op) (j : Tree) (c : Message) (r : Result (Tree × Message) OpWhy) → slice_get ops i ≡ Some op → operation_outcome pol k ipx n j c (op_view op) ≡ r
    → from_on pol k ipx n i ops j c ≡ (numbered_cause (suc i) r >>= λ r. outcome_from pol k ipx n (suc (suc i)) (map op_view (drop (i + 1) ops)) r.0 r.1)
first_of_rest pol k ipx n i ops op j c r is e =
    ap (λ l. outcome_from pol k ipx n (suc i) (map op_view l) j c) (drop_at ops i op is)
    ∙ ap (λ r. numbered_cause (suc i) r >>= λ r. outcome_from pol k ipx n (suc (suc i)) (map op_view (drop (i + 1) ops)) r.0 r.1) e

pub told_later : (pol : Policy) (k : Option ℕ) (ipx : List ℕ) (n i : ℕ) (ops : List Op) (op : Op) (j : Tree) (c : Message) (r : Tree × Message) (all : Result (Tree × Message) (ℕ × OpWhy)) → slice_get ops i ≡ Some op
    → operation_outcome pol k ipx n j c (op_view op) ≡ Ok r → from_on pol k ipx n i ops j c ≡ all → from_on pol k ipx n (i + 1) ops r.0 r.1 ≡ all
told_later pol k ipx n i ops op j c r all is e told =
    let more : suc (i + 1) ≡ suc (suc i) = omega arith in
    ap (λ m. outcome_from pol k ipx n m (map op_view (drop (i + 1) ops)) r.0 r.1) more ∙ (sym (first_of_rest pol k ipx n i ops op j c (Ok r) is e) ∙ told)

pub told_refused : (pol : Policy) (k : Option ℕ) (ipx : List ℕ) (n i : ℕ) (ops : List Op) (op : Op) (j : Tree) (c : Message) (why : OpWhy) (all : Result (Tree × Message) (ℕ × OpWhy)) → slice_get ops i ≡ Some op
    → operation_outcome pol k ipx n j c (op_view op) ≡ Err why → from_on pol k ipx n i ops j c ≡ all → all ≡ Err (i + 1, why)
told_refused pol k ipx n i ops op j c why all is e told =
    let more : suc i ≡ i + 1 = omega arith in
    sym told ∙ (first_of_rest pol k ipx n i ops op j c (Err why) is e ∙ ap (λ m. Err (m, why)) more)

-- what is answered of the whole where operation i + 1 is refused
pub told_number : (i : ℕ) (f : StepFault) (g : EntryFault) (r : Result (Tree × Message) OpWhy) (all : Result (Tree × Message) (ℕ × OpWhy)) → Gives r (Err f) → Numbers (i + 1) f g → ((why : OpWhy) → r ≡ Err why → all ≡ Err (i + 1, why)) → Runs all (Err g)
told_number i (Why y) g r all e is first = subst (λ h. Runs all (Err h)) (sym is) (first (why_view y) e)
told_number i NoMemory g r all e is first = subst (λ h. Runs all (Err h)) (sym is) tt

past : (i : ℕ) (ops : List Op) → i ≡ length ops → drop i ops ≡ []
past zero [] e = refl
past (suc i) [] e = refl
past zero (op ∷ ops) e = cc
past (suc i) (op ∷ ops) e = let less : i ≡ length ops = cc in past i ops less

pub told_end : (pol : Policy) (k : Option ℕ) (ipx : List ℕ) (n i : ℕ) (ops : List Op) (j : Tree) (c : Message) (all : Result (Tree × Message) (ℕ × OpWhy)) → i ≡ length ops → from_on pol k ipx n i ops j c ≡ all → all ≡ Ok (j, c)
told_end pol k ipx n i ops j c all e told = sym told ∙ ap (λ l. outcome_from pol k ipx n (suc i) (map op_view l) j c) (past i ops e)

-- ---- a block has one number of holes

either : (n m : ℕ) → (n ≡ m) ⊎ ((n < m) ⊎ (m < n))
either zero zero = inl refl
either zero (suc m) = inr (inl (omega arith))
either (suc n) zero = inr (inr (omega arith))
either (suc n) (suc m) = up (either n m)
  where
    up : (n ≡ m) ⊎ ((n < m) ⊎ (m < n)) → (suc n ≡ suc m) ⊎ ((suc n < suc m) ⊎ (suc m < suc n))
    up (inl e) = inl (ap suc e)
    up (inr (inl l)) = inr (inl (omega arith))
    up (inr (inr l)) = inr (inr (omega arith))

not_more : (j : Tree) (n m : ℕ) (c : Message) → IsBlock j n c → IsBlock j m c → n < m → ⊥
not_more j n m c b e l =
    let p = one-place j m c n e l in
    let same : n < n = index-below j n c p.place n b p.stands in
    absurd (omega (arith, same))

pub one_count : (j : Tree) (n m : ℕ) (c d : Message) → IsBlock j n c → IsBlock j m d → n ≡ m
one_count j n m c d b e = by (either n m)
  where
    again : IsBlock j m c
    again = let both : Some d ≡ Some c = sym (block-clear j m d e) ∙ block-clear j n c b in let same : d ≡ c = cc in subst (IsBlock j m) same e

    by : (n ≡ m) ⊎ ((n < m) ⊎ (m < n)) → n ≡ m
    by (inl same) = same
    by (inr (inl l)) = absurd (not_more j n m c b again l)
    by (inr (inr l)) = absurd (not_more j m n c again b l)

-- ---- an entry is a chain of one

abbrev pub one_chain : EntryStep → ChainStep
one_chain s = record {
  policy = s.policy;
  mapping = s.mapping;
  holes = s.holes;
  entries = (s.ipx, s.operations) ∷ [];
  before = s.before;
  clear = s.clear;
  after = s.after;
  patched = s.patched;
  block = s.block;
  applied = (s.after, s.patched, s.applied, (refl, refl));
}

pub one_entry : (ops : List patch.Op) (t w : Tree) → (patched_all ops t >>= λ x. Ok x) ≡ Ok w → patched_all ops t ≡ Ok w
one_entry ops t w e = by (patched_all ops t) e
  where
    by : (r : Result Tree Cause) → (r >>= λ x. Ok x) ≡ Ok w → r ≡ Ok w
    by (Ok x) e = e
    by (Err why) e = cc

-- ---- what is known of a block stands for all that can be known of it

pub count_of : (j : Tree) (n : ℕ) (b : BlockOf j) → block_fault j n ≡ None → n ≡ b.holes
count_of j n b e =
    let k = faultless-block j n (block-ordered j b.holes b.clear b.block) e in
    one_count j n b.holes k.0 b.clear k.1 b.block

-- the outcome over as many holes as the block is known to have, under any reading of it
pub told_of : (pol : Policy) (k : Option ℕ) (ipx : List ℕ) (ops : List patch.Op) (j : Tree) (n : ℕ) (b : BlockOf j) (r : Result (Tree × Message) (ℕ × OpWhy)) → block_fault j n ≡ None
    → ((c : Message) → IsBlock j n c → entry_outcome pol k ipx n j c ops ≡ r) → entry_on (ground pol k ipx j b) ops ≡ r
told_of pol k ipx ops j n b r e told =
    let same = count_of j n b e in
    subst (λ m. entry_outcome pol k ipx m j b.clear ops ≡ r) same (told b.clear (subst (λ m. IsBlock j m b.clear) (sym same) b.block))

pub block_of : (j : Tree) (n : ℕ) (b : BlockOf j) (w : Tree) (d : Message) → block_fault j n ≡ None → IsBlock w n d → IsBlock w b.holes d
block_of j n b w d e is = subst (λ m. IsBlock w m d) (count_of j n b e) is

-- a refusal, in the terms of any reading of the block
pub refused : (pol : Policy) (k : Option ℕ) (ipx : List ℕ) (ops : List patch.Op) (j : Tree) (n : ℕ) (b : BlockOf j) (f : EntryFault) → block_fault j n ≡ None
    → ((c : Message) → IsBlock j n c → Runs (entry_outcome pol k ipx n j c ops) (Err f)) → ((g : Ground) (i : ℕ) (why : OpWhy) → entry_on g ops ≡ Err (i, why) → FirstRefused g ops i why)
    → Refuses (ground pol k ipx j b) ops f
refused pol k ipx ops j n b (entry.Operation i why) e told first =
    let outcome = told_of pol k ipx ops j n b (Err (i, why_view why)) e told in
    record { outcome = outcome; first = first (ground pol k ipx j b) i (why_view why) outcome }
refused pol k ipx ops j n b entry.NoMemory e told first = tt
