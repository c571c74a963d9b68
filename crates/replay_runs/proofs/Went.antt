-- What a machine's outputs are, in the words of records and answers.
use Rattle.std.proofs.Common.{◌≡◌, ℕ, ◌+◌, ◌≤◌, Bool, true, false, cond, List, [], ◌∷◌, ◌++◌, length, refl, ap, sym, subst, ◌∙◌, arith, Some, None, IfSome}
use Rattle.std.specs.Prelude.{Option, count_by}
use Rattle.std.proofs.lemmas.List.Sums.{sum_by-cons}
use Rattle.n32_outside.specs.Causes.{RoseBy}
use Rattle.spec_documents.specs.Lines.{is_blank, Gives, Outputs}
use Rattle.spec_records.specs.Records.{Record, record_limit}
use Rattle.n32_outside.specs.declared.algorithm.JwsAlg.{JwsAlg}
use Rattle.jws_flat.specs.View.{alg_view}
use Rattle.spec_exchange.specs.Outside.{with_put}
use Rattle.spec_exchange.specs.EntryChecks.{Claim, Verifying, by_meaning}
use Rattle.spec_exchange.specs.Screens.{Passes}
use Rattle.entry_checks.specs.Verifiers.{Meaning, says}
use Rattle.spec_script.specs.Choices.{Signing, Signs, SignerFails, Choices, Meanings, SignsBy, VerifiesBy, IsBy}
use Rattle.replay_world.specs.Outsiders.{Outsiders, Told, OthersStay, IsMeant, IsVerified, IsActing}
use Rattle.replay_runs.specs.Outsiders.{Counts, counts_of, Later, meanings_told, meanings_of}
use Rattle.spec_exchange.specs.Outside as outside
use Rattle.spec_script.specs.Refusals as spec
use Rattle.spec_script.specs.Steps.{State, Answer, Fine, OnWire, Sends, Forwards, Delivers, Opens, OpensAs, EndsTls, Reports, Refuses, after, line_step}
use Rattle.spec_script.specs.Answers.{answer_text}
use Rattle.spec_script.specs.Output.{Answered, Numbered, answers_text, has_refusal, is_keeper_refusal, is_signer_refusal, is_verifier_refusal}
use Rattle.context_store.specs.Stores.{AreRecords, HasNoBad}
use Rattle.context_store.proofs.Kept.{has_no_bad}
use Rattle.replay_world.specs.declared.world.World.{World}
use Rattle.replay_world.specs.Worlds.{TellsRecords, StepsOver, Steps, state_of}
use Rattle.replay_runs.specs.Lines.{AnswersLine}
use Rattle.replay_runs.specs.Replays.{OutsideAnswers, tells_keeper, tells_signer, tells_verifier, tells_journal, is_journal_refusal}
use Rattle.replay_runs.proofs.Plain.{by_line, into_blank, into_spoken}
use Rattle.replay_runs.proofs.Rooms.{line_fits}

-- what a machine gives, of which this is seen
abbrev pub gives_of : {M : Type 0} → (M → Told) → (M → World) → Gives M
gives_of outside world = λ old number line text new. AnswersLine (outside old) (outside new) (world old) (world new) number line text

-- from these records the lines were answered by out, and the machine went on to new
pub record Went (means : Meanings) {M : Type 0} (outside : M → Told) (world : M → World) (old : M) (records : List Record) (number : ℕ) (lines : List (List ℕ)) (out : List ℕ) (new : M) : Type 0 where
  pub answers : List Numbered
  pub last : State
  pub answered : Answered means (state_of (world old) records) number lines answers last
  pub text : out ≡ answers_text answers
  pub state_is : state_of (world new) last.records ≡ last
  pub held_is : TellsRecords (outside new).held last.records
  pub few : length last.records ≤ record_limit
  pub still : meanings_of (outside new).others ≡ Some means
  pub causes : OutsideAnswers answers (counts_of (outside old)) (counts_of (outside new))

-- ---- no bad record is named

pub answer_sound : (a : Answer) → ((k : ℕ) → a ≡ Refuses (spec.OfOutside (outside.Journal k)) → ⊥) → has_refusal is_journal_refusal a ≡ false
answer_sound (Refuses (spec.OfOutside (outside.Journal number))) none = absurd (none number refl)
answer_sound (Refuses (spec.OfOutside outside.Keeper)) none = refl
answer_sound (Refuses (spec.OfSending refusal)) none = refl
answer_sound (Refuses (spec.OfHandshake refusal)) none = refl
answer_sound (Refuses (spec.OfReceiving refusal report)) none = refl
answer_sound (Refuses (spec.Beyond limit)) none = refl
answer_sound (Refuses spec.ContextNotFound) none = refl
answer_sound (Refuses (spec.BadForm member)) none = refl
answer_sound (Refuses spec.BadReport) none = refl
answer_sound (Refuses spec.SignerFailed) none = refl
answer_sound (Refuses spec.Syntax) none = refl
answer_sound (Refuses spec.OtherNumber) none = refl
answer_sound (Refuses (spec.BadEvent member)) none = refl
answer_sound (Refuses spec.NodeUnknown) none = refl
answer_sound (Refuses spec.NodeExists) none = refl
answer_sound (Refuses spec.WireUnknown) none = refl
answer_sound (Refuses (spec.BadMessage member)) none = refl
answer_sound (Refuses spec.DeepBody) none = refl
answer_sound (Refuses (spec.BadPolicy mapping)) none = refl
answer_sound (Refuses spec.ContextUsed) none = refl
answer_sound (Refuses spec.KeysTwice) none = refl
answer_sound (Fine name) none = refl
answer_sound (OnWire number) none = refl
answer_sound (Sends x number) none = refl
answer_sound (Forwards t number) none = refl
answer_sound (Reports r) none = refl
answer_sound (Delivers d) none = refl
answer_sound (Opens document number id) none = refl
answer_sound (OpensAs id) none = refl
answer_sound EndsTls none = refl

-- ---- the keeper's faults

counted : (b : Bool) (n before mid now : ℕ) → before ≤ mid → (b ≡ true → RoseBy 1 before mid) → RoseBy n mid now → RoseBy (cond b 1 0 + n) before now
counted true n before mid now le one more = let rose : RoseBy 1 before mid = one refl in omega (arith, rose, more)
counted false n before mid now le one more = omega (arith, le, more)

pub causes_more : (n : ℕ) (a : Answer) (answers : List Numbered) (before mid now : Counts) → Later before mid → (has_refusal is_keeper_refusal a ≡ true → RoseBy 1 before.keeper mid.keeper) → (has_refusal is_signer_refusal a ≡ true → RoseBy 1 before.signer mid.signer) → (has_refusal is_verifier_refusal a ≡ true → RoseBy 1 before.verifier mid.verifier) → has_refusal is_journal_refusal a ≡ false
    → OutsideAnswers answers mid now → OutsideAnswers ((n, a) ∷ answers) before now
causes_more n a answers before mid now le cause signed verified sound k = record {
  keeper = rw (sum_by-cons (λ (x : Numbered). cond (tells_keeper x) 1 0) (n, a) answers) (counted (has_refusal is_keeper_refusal a) (count_by tells_keeper answers) before.keeper mid.keeper now.keeper le.keeper cause k.keeper);
  signer = rw (sum_by-cons (λ (x : Numbered). cond (tells_signer x) 1 0) (n, a) answers) (counted (has_refusal is_signer_refusal a) (count_by tells_signer answers) before.signer mid.signer now.signer le.signer signed k.signer);
  verifier = rw (sum_by-cons (λ (x : Numbered). cond (tells_verifier x) 1 0) (n, a) answers) (counted (has_refusal is_verifier_refusal a) (count_by tells_verifier answers) before.verifier mid.verifier now.verifier le.verifier verified k.verifier);
  sound = sum_by-cons (λ (x : Numbered). cond (tells_journal x) 1 0) (n, a) answers ∙ (ap (λ (b : Bool). cond b 1 0 + count_by tells_journal answers) sound ∙ (let z : 0 + count_by tells_journal answers ≡ 0 = omega (arith, k.sound) in z));
}

pub causes_none : (counts : Counts) → OutsideAnswers [] counts counts
causes_none counts = record { keeper = omega arith; signer = omega arith; verifier = omega arith; sound = refl }

-- ---- signer, verifier and screen stay

-- what is signed and verified is by what is told
signs_told : (alg : JwsAlg) (signing : Option (JwsAlg → List ℕ → List ℕ → List ℕ)) (truth : Option Meaning) (passes : Passes) (before after_ : ℕ) (x : Signing) (means : Meanings) → meanings_told alg signing truth passes ≡ Some means → IsMeant alg signing before after_ x → SignsBy means.signer x
signs_told alg None truth passes before after_ x means is meant = cc
signs_told alg (Some f) None passes before after_ x means is meant = cc
signs_told alg (Some f) (Some g) passes before after_ SignerFails means is meant = tt
signs_told alg (Some f) (Some g) passes before after_ (Signs x) means is meant =
    let same : record { algorithm = alg_view alg; sign = f alg } ≡ means.signer = ap (λ (m : Meanings). m.signer) (inside is) in meant ∙ same
  where
    inside : {a b : Meanings} → Some a ≡ Some b → a ≡ b
    inside e = cc

verifies_told : (alg : JwsAlg) (signing : Option (JwsAlg → List ℕ → List ℕ → List ℕ)) (truth : Option Meaning) (passes : Passes) (before after_ : ℕ) (v : Verifying) (means : Meanings) → meanings_told alg signing truth passes ≡ Some means → IsVerified truth before after_ v → VerifiesBy means.verifier v
verifies_told alg None truth passes before after_ v means is meant = cc
verifies_told alg (Some f) None passes before after_ v means is meant = cc
verifies_told alg (Some f) (Some g) passes before after_ v means is meant = record {
  failing = meant.saying.failing;
  is = let same : (λ (claim : Claim). says (Some g) true claim) ≡ means.verifier = ap (λ (m : Meanings). m.verifier) (inside is) in
      meant.is ∙ ap (λ (truth : Claim → Bool). by_meaning truth meant.saying.failing) same;
}
  where
    inside : {a b : Meanings} → Some a ≡ Some b → a ≡ b
    inside e = cc

pub by_told : (before after_ : Outsiders) (f : Choices) (means : Meanings) → meanings_of before ≡ Some means → IsActing before after_ (record { signer = f.signer; verifier = f.verifier }) → IsBy means f
by_told before after_ f means is meant = record {
  signs = signs_told before.signer.algorithm before.signer.meaning before.verifier.meaning before.screen before.signer.faults after_.signer.faults f.signer means is meant.signer;
  verifies = verifies_told before.signer.algorithm before.signer.meaning before.verifier.meaning before.screen before.verifier.faults after_.verifier.faults f.verifier means is meant.verifier;
}

-- the screen is the one that is told
pub screen_told : (o : Outsiders) (means : Meanings) → meanings_of o ≡ Some means → o.screen ≡ means.passes
screen_told o means is = by_parts o.signer.meaning o.verifier.meaning is
  where
    by_parts : (signing : Option (JwsAlg → List ℕ → List ℕ → List ℕ)) (truth : Option Meaning) → meanings_told o.signer.algorithm signing truth o.screen ≡ Some means → o.screen ≡ means.passes
    by_parts None truth e = cc
    by_parts (Some f) None e = cc
    by_parts (Some f) (Some g) e = ap (λ (m : Meanings). m.passes) (inside e)
      where
        inside : {a b : Meanings} → Some a ≡ Some b → a ≡ b
        inside e = cc

pub still_means : (before after_ : Outsiders) (means : Meanings) → OthersStay before after_ → meanings_of before ≡ Some means → meanings_of after_ ≡ Some means
still_means before after_ means stays is = rw (stays.signer.same_algorithm, stays.signer.same_meaning, stays.verifier.same_meaning, stays.same_screen) is

-- ---- lines

went_blank : (means : Meanings) {M : Type 0} (outside : M → Told) (world : M → World) (old mid new : M) (records : List Record) (number : ℕ) (line : List ℕ) (lines : List (List ℕ)) (first rest out : List ℕ)
    → is_blank line ≡ true → out ≡ first ++ rest → first ≡ [] → mid ≡ old → Went means outside world mid records (number + 1) lines rest new → Went means outside world old records number (line ∷ lines) out new
went_blank means outside world old mid new records number line lines first rest out blank parts none same w =
    let P : _ → Type 0 = λ m. Went means outside world m records (number + 1) lines rest new in
    let v = subst P same w in
    record {
      answers = v.answers;
      last = v.last;
      answered = into_blank _ _ (is_blank line) blank v.answered;
      text = parts ∙ (ap (λ (z : List ℕ). z ++ rest) none ∙ v.text);
      state_is = v.state_is;
      held_is = v.held_is;
      few = v.few;
      still = v.still;
      causes = v.causes;
    }

went_spoken : (means : Meanings) {M : Type 0} (outside : M → Told) (world : M → World) (old mid new : M) (texts : List (List ℕ)) (records : List Record) (number : ℕ) (line : List ℕ) (lines : List (List ℕ)) (first rest out text : List ℕ)
    → is_blank line ≡ false → out ≡ first ++ rest → first ≡ text ++ 10 ∷ [] → AreRecords texts records → length records ≤ record_limit → Later (counts_of (outside old)) (counts_of (outside mid)) → meanings_of (outside old).others ≡ Some means
    → (g : StepsOver means.passes (outside old) (outside mid) (world old) (world mid) texts records number line text)
    → Went means outside world mid (with_put records (line_step means.passes (state_of (world old) records) g.choice line).put) (number + 1) lines rest new
    → Went means outside world old records number (line ∷ lines) out new
went_spoken means outside world old mid new texts records number line lines first rest out text spoken parts one are few le is g w =
    let s : State = state_of (world old) records in
    let a : Answer = (line_step means.passes s g.choice line).answer in
    let P : State → Type 0 = λ m. Answered means m (number + 1) lines w.answers w.last in
    let none : HasNoBad (Some texts) = has_no_bad (Some texts) records are few in
    let sound : has_refusal is_journal_refusal a ≡ false = answer_sound a (λ k same. none k (g.journal k same)) in
    record {
      answers = (number, a) ∷ w.answers;
      last = w.last;
      answered = into_spoken _ _ (is_blank line) spoken (a, w.answers, after s (line_step means.passes s g.choice line), refl, (g.choice, by_told (outside old).others (outside mid).others g.choice means is g.meant, refl, refl), subst P g.state_is w.answered);
      text = parts ∙ (ap (λ (z : List ℕ). z ++ rest) (one ∙ ap (λ (z : List ℕ). z ++ 10 ∷ []) g.text_is) ∙ ap (λ (z : List ℕ). (answer_text number a ++ 10 ∷ []) ++ z) w.text);
      state_is = w.state_is;
      held_is = w.held_is;
      few = w.few;
      still = w.still;
      causes = causes_more number a w.answers (counts_of (outside old)) (counts_of (outside mid)) (counts_of (outside new)) le g.failed g.unsigned g.unverified sound w.causes;
    }

-- the step over the records that are told, behind the screen that is told
pub over_told : (means : Meanings) (before after_ : Told) (old new : World) (number : ℕ) (line text : List ℕ) (records : List Record) (t : TellsRecords before.held records) → meanings_of before.others ≡ Some means
    → Steps before after_ old new number line text → StepsOver means.passes before after_ old new t.texts records number line text
over_told means before after_ old new number line text records t is g =
    let P : Option (List (List ℕ)) → Type 0 = λ o. IfSome o (λ texts. (rs : List Record) → AreRecords texts rs → StepsOver before.others.screen before after_ old new texts rs number line text) in
    let Q : Passes → Type 0 = λ p. StepsOver p before after_ old new t.texts records number line text in
    subst Q (screen_told before.others means is) (subst P t.told g records t.are)

pub later_line : (before after_ : Told) (old new : World) (number : ℕ) (line text : List ℕ) → AnswersLine before after_ old new number line text → Later (counts_of before) (counts_of after_)
later_line before after_ old new number line text a = record { keeper = a.later; signer = a.others.signer.later; verifier = a.others.verifier.later }

pub went : (means : Meanings) {M : Type 0} (outside : M → Told) (world : M → World) (old : M) (records : List Record) (number : ℕ) (lines : List (List ℕ)) (out : List ℕ) (new : M)
    → TellsRecords (outside old).held records → length records ≤ record_limit → meanings_of (outside old).others ≡ Some means → Outputs (gives_of outside world) old number lines out new → Went means outside world old records number lines out new
went means outside world old records number [] out new t few is h =
    let P : _ → Type 0 = λ m. TellsRecords (outside m).held records in
    let Q : _ → Type 0 = λ m. OutsideAnswers [] (counts_of (outside old)) (counts_of (outside m)) in
    let R : _ → Type 0 = λ m. meanings_of (outside m).others ≡ Some means in
    record {
      answers = [];
      last = state_of (world old) records;
      answered = (refl, refl);
      text = h.0;
      state_is = let at : _ → State = λ m. state_of (world m) records in ap at (h.1);
      held_is = subst P (sym (h.1)) t;
      few = few;
      still = subst R (sym (h.1)) is;
      causes = subst Q (sym (h.1)) (causes_none (counts_of (outside old)));
    }
went means outside world old records number (line ∷ lines) out new t few is h =
    by_line (is_blank line) h.4
    (λ blank one.
    let P : _ → Type 0 = λ m. TellsRecords (outside m).held records in
    let R : _ → Type 0 = λ m. meanings_of (outside m).others ≡ Some means in
    went_blank means outside world old h.2 new records number line lines h.0 h.1 out blank h.3 (one.0) (one.1)
    (went means outside world h.2 records (number + 1) lines h.1 new (subst P (sym (one.1)) t) few (subst R (sym (one.1)) is) h.5))
    λ spoken one.
    let g = over_told means (outside old) (outside h.2) (world old) (world h.2) number line one.0 records t is one.2.steps in
    went_spoken means outside world old h.2 new t.texts records number line lines h.0 h.1 out one.0 spoken h.3 (one.1) t.are few (later_line (outside old) (outside h.2) (world old) (world h.2) number line one.0 one.2) is g
    (went means outside world h.2 (with_put records (line_step means.passes (state_of (world old) records) g.choice line).put) (number + 1) lines h.1 new g.held_is (line_fits means.passes (state_of (world old) records) g.choice line few) (still_means (outside old).others (outside h.2).others means one.2.others is) h.5)
