-- From what a run over any machine leaves to what a run of `replay` leaves.
use Rattle.std.proofs.Common.{◌≡◌, ◌≤◌, ◌-◌, ℕ, List, [], ◌∷◌, ◌++◌, length, take, refl, ap, sym, subst, arith, None, Some, IfSome, inl, inr}
use Rattle.std.specs.Prelude.{Option, count_by}
use Rattle.std.specs.Io.KnownBytes.{Appends}
use Rattle.n32_outside.specs.Causes.{Rose}
use Rattle.script_loop.specs.Limits.{script_limit}
use Rattle.spec_documents.specs.Lines.{lines_of, ended_lines}
use Rattle.script_loop.specs.Lines.{IsWithin}
use Rattle.script_loop.specs.InPart.{GivesUp}
use Rattle.script_loop.specs.Ends.{Ends, Answers, AnswersInPart, MeetsNoLimit}
use Rattle.script_loop.specs.declared.ending.Ending.{Ending}
use Rattle.script_loop.specs.declared.ending.Ending.TheVariants as ending
use Rattle.spec_records.specs.Records.{Record, record_limit}
use Rattle.spec_handshake.specs.Agreement.{Agrees}
use Rattle.spec_agreement.specs.ByHandshakes.{OpensByHandshakes}
use Rattle.spec_agreement.proofs.Runs.{opened_agree}
use Rattle.spec_script.specs.Steps.{State}
use Rattle.spec_script.specs.Output.{Answered, Numbered, Output, answers_text, begin}
use Rattle.context_store.specs.Stores.{AreRecords, Holds}
use Rattle.spec_script.specs.Choices.{Meanings}
use Rattle.replay_world.specs.Outsiders.{Told}
use Rattle.replay_runs.specs.Outsiders.{Counts, Later, counts, counts_of, meanings_of}
use Rattle.replay_world.specs.declared.world.World.{World}
use Rattle.replay_world.specs.Worlds.{TellsRecords, state_of}
use Rattle.replay_runs.specs.Statuses.{status_of}
use Rattle.replay_runs.specs.Unfailing.{plain_state, plain_output}
use Rattle.replay_runs.specs.Replays.{OutsideAnswers, tells_keeper, tells_signer, tells_verifier, RepliesToAll, RepliesToFirst, RepliesInPart, Leaves, OverRecords, AreHeld, IsComplete}
use Rattle.replay_runs.specs.Lines.{GivesUpLine}
use Rattle.replay_runs.specs.Loads.{IsBegun}
use Rattle.replay_runs.specs.declared.status.Status.{Status}
use Rattle.replay_runs.proofs.Plain.{is_plain, none_rose}
use Rattle.replay_runs.proofs.Loaded.{told_any, told_weaker, over_any, renamed, loaded_leaves}
use Rattle.replay_runs.proofs.Went.{gives_of, went}
use Rattle.replay_runs.proofs.InPart.{cut_reply, given_reply, unbegun_reply}

-- ---- lines

-- what a machine leaves that gives a line up
abbrev Kept : {M : Type 0} → (M → Told) → (M → World) → GivesUp M → Type 0
Kept {M} outside world gives_up = (a b : M) (n : ℕ) (line : List ℕ) → gives_up a n line b → GivesUpLine (outside a) (outside b) (world a) (world b) line

-- a run begins in a world without nodes, documents and starts
abbrev Begins : World → List Record → Type 0
Begins w records = state_of w records ≡ begin records

pub begins_of : (held : Option (List (List ℕ))) (w : World) (records : List Record) → IsBegun held w → Begins w records
begins_of held w records b = rw (b.sites, b.wire, b.hands) refl

first_of : (means : Meanings) {M : Type 0} (outside : M → Told) (world : M → World) (count : ℕ) (script : List ℕ) (records : List Record) (old new : M) (before after : Option (List ℕ))
    → TellsRecords (outside old).held records → length records ≤ record_limit → meanings_of (outside old).others ≡ Some means → Begins (world old) records
    → Answers (gives_of outside world) old (take count (lines_of script)) new before after → RepliesToFirst means count script records (outside new).held (counts_of (outside old)) (counts_of (outside new)) before after
first_of means outside world count script records old new before after t few is begins a =
    let w = went means outside world old records 1 (take count (lines_of script)) a.out new t few is a.answered in
    let P : State → Type 0 = λ s. Answered means s 1 (take count (lines_of script)) w.answers w.last in
    record {
      answers = w.answers;
      last = w.last;
      answered = subst P begins w.answered;
      written = subst (Appends before after) w.text a.written;
      held_is = w.held_is;
      causes = w.causes;
    }

-- all lines
abbrev output_of : (means : Meanings) (script : List ℕ) (records : List Record) (answers : List Numbered) (last : State) → Answered means (begin records) 1 (lines_of script) answers last → Output means records script (answers_text answers) last
output_of means script records answers last answered = record { answers = answers; answered = answered; text = refl }

pub one_output : (means : Meanings) (script : List ℕ) (records : List Record) (answers : List Numbered) (last : State) (faults faults' : Counts) → Answered means (begin records) 1 (lines_of script) answers last → OutsideAnswers answers faults faults'
    → (Rose faults.keeper faults'.keeper → ⊥) → (Rose faults.signer faults'.signer → ⊥) → (Rose faults.verifier faults'.verifier → ⊥) → (answers_text answers ≡ plain_output means records script) × (last ≡ plain_state means (begin records) (lines_of script))
one_output means script records answers last faults faults' answered k none unsigned unverified =
    let p = is_plain means (begin records) 1 (lines_of script) answers last answered (none_rose (count_by tells_keeper answers) faults.keeper faults'.keeper k.keeper none) (none_rose (count_by tells_signer answers) faults.signer faults'.signer k.signer unsigned) (none_rose (count_by tells_verifier answers) faults.verifier faults'.verifier k.verifier unverified) k.sound in
    (ap answers_text p.answers_are, p.last_is)

agreed : (means : Meanings) (script : List ℕ) (records : List Record) (answers : List Numbered) (last : State) → Answered means (begin records) 1 (lines_of script) answers last
    → records ≡ [] → OpensByHandshakes (lines_of script) answers → Agrees last.records
agreed means script records answers last answered none by =
    let P : List Record → Type 0 = λ rs. Answered means (begin rs) 1 (lines_of script) answers last in
    opened_agree means 1 (lines_of script) answers last (subst P none answered) by

all_of : (means : Meanings) {M : Type 0} (outside : M → Told) (world : M → World) (script : List ℕ) (records : List Record) (old new : M) (before after : Option (List ℕ))
    → TellsRecords (outside old).held records → length records ≤ record_limit → meanings_of (outside old).others ≡ Some means → Begins (world old) records
    → Answers (gives_of outside world) old (lines_of script) new before after → RepliesToAll means script records (outside new).held (counts_of (outside old)) (counts_of (outside new)) before after
all_of means outside world script records old new before after t few is begins a =
    let w = went means outside world old records 1 (lines_of script) a.out new t few is a.answered in
    let P : State → Type 0 = λ s. Answered means s 1 (lines_of script) w.answers w.last in
    let answered : Answered means (begin records) 1 (lines_of script) w.answers w.last = subst P begins w.answered in
    record {
      out = answers_text w.answers;
      last = w.last;
      output = output_of means script records w.answers w.last answered;
      written = subst (Appends before after) w.text a.written;
      held_is = w.held_is;
      causes = w.causes;
      agree = agreed means script records w.answers w.last answered;
      one = one_output means script records w.answers w.last (counts_of (outside old)) (counts_of (outside new)) answered w.causes;
    }

in_part_of : (means : Meanings) {M : Type 0} (outside : M → Told) (world : M → World) (gives_up : GivesUp M) (script : List ℕ) (left : Option (List ℕ)) (records : List Record) (old new : M) (before after : Option (List ℕ)) (e : Ending)
    → TellsRecords (outside old).held records → length records ≤ record_limit → meanings_of (outside old).others ≡ Some means → Begins (world old) records → Kept outside world gives_up
    → AnswersInPart (gives_of outside world) gives_up old script left new before after e → RepliesInPart means script left records (outside new).held (counts_of (outside old)) (counts_of (outside new)) before after (status_of e)
in_part_of means outside world gives_up script left records old new before after e t few is begins kept a =
    let w = went means outside world old records 1 (take a.number (lines_of script)) a.out a.mid t few is a.answered in
    let P : State → Type 0 = λ s. Answered means s 1 (take a.number (lines_of script)) w.answers w.last in
    record {
      taken = a.taken;
      number = a.number;
      takes = a.takes;
      answers = w.answers;
      mid = w.last;
      answered = subst P begins w.answered;
      front = a.front;
      stops = elim a.stops [
        | inl n ↦ elim n.stops [
          | inl c ↦ inl (cut_reply means outside world script a.taken a.number n.line a.front (counts_of (outside old)) w.answers w.last a.mid new w.state_is w.held_is w.few w.still w.causes n.next c)
          | inr g ↦ inr (given_reply means outside world gives_up script a.taken a.number n.line a.front (counts_of (outside old)) w.answers w.last a.mid new e w.state_is w.held_is w.still w.causes kept n.next g)
        ]
        | inr u ↦ inr (unbegun_reply means outside script a.taken a.number a.front (counts_of (outside old)) w.answers w.last a.mid new e w.held_is w.causes u)
      ];
      written = subst (λ (z : List ℕ). Appends before after (z ++ a.front)) w.text a.written;
    }

-- ---- by the ending

leaves_of : (means : Meanings) {M : Type 0} (outside : M → Told) (world : M → World) (gives_up : GivesUp M) (script : List ℕ) (left : Option (List ℕ)) (records : List Record) (old new : M) (before after : Option (List ℕ)) (e : Ending)
    → TellsRecords (outside old).held records → length records ≤ record_limit → meanings_of (outside old).others ≡ Some means → Begins (world old) records → Kept outside world gives_up
    → Ends (gives_of outside world) gives_up script left old new before after e → Leaves means script left records (outside new).held (counts_of (outside old)) (counts_of (outside new)) before after (status_of e)
leaves_of means outside world gives_up script left records old new before after ending.Done t few is begins kept e =
    (e.0, e.1, all_of means outside world script records old new before after t few is begins e.2)
leaves_of means outside world gives_up script left records old new before after ending.ReadFault t few is begins kept e = record {
  taken = e.taken;
  rest = e.rest;
  parts = e.parts;
  left_is = e.left_is;
  within = e.within;
  replies = first_of means outside world (ended_lines e.taken) script records old new before after t few is begins e.answers;
}
leaves_of means outside world gives_up script left records old new before after (ending.LineTooLong n) t few is begins kept e =
    (e.0, first_of means outside world (n - 1) script records old new before after t few is begins e.1)
leaves_of means outside world gives_up script left records old new before after ending.ScriptTooLarge t few is begins kept e =
    (e.0, first_of means outside world (ended_lines (take script_limit script)) script records old new before after t few is begins e.1)
leaves_of means outside world gives_up script left records old new before after ending.WriteFault t few is begins kept e =
    in_part_of means outside world gives_up script left records old new before after ending.WriteFault t few is begins kept e
leaves_of means outside world gives_up script left records old new before after ending.NoMemory t few is begins kept e =
    in_part_of means outside world gives_up script left records old new before after ending.NoMemory t few is begins kept e

-- as many texts as records
pub same_length : (texts : List (List ℕ)) (records : List Record) → AreRecords texts records → length texts ≡ length records
same_length [] [] all = refl
same_length [] (r ∷ rs) all = absurd all
same_length (b ∷ bs) [] all = absurd all
same_length (b ∷ bs) (r ∷ rs) all = let more : length bs ≡ length rs = same_length bs rs all.1 in omega (arith, more)

pub few_told : (held : Option (List (List ℕ))) (stored records : List Record) → Holds held stored → length stored ≤ record_limit → TellsRecords held records → length records ≤ record_limit
few_told held stored records holds few t =
    let P : Option (List (List ℕ)) → Type 0 = λ o. Holds o stored in
    let same : length t.texts ≡ length stored = same_length t.texts stored (subst P t.told holds) in
    let own : length t.texts ≡ length records = same_length t.texts records t.are in
    omega (arith, same, own, few)

-- ---- where source and keeper tell

leaves_told : (means : Meanings) {M : Type 0} (outside : M → Told) (world : M → World) (gives_up : GivesUp M) (first left : Option (List ℕ)) (old new : M) (before after : Option (List ℕ)) (e : Ending)
    → meanings_of (outside old).others ≡ Some means → IsBegun (outside old).held (world old) → Kept outside world gives_up
    → IfSome first (λ script. Ends (gives_of outside world) gives_up script left old new before after e)
    → IfSome first (λ script. OverRecords (outside old).held (λ records. Leaves means script left records (outside new).held (counts_of (outside old)) (counts_of (outside new)) before after (status_of e)))
leaves_told means outside world gives_up None left old new before after e is begun kept h = tt
leaves_told means outside world gives_up (Some script) left old new before after e is begun kept h =
    over_any (outside old).held (λ records. Leaves means script left records (outside new).held (counts_of (outside old)) (counts_of (outside new)) before after (status_of e)) λ records t.
    leaves_of means outside world gives_up script left records old new before after e t (few_told (outside old).held (world old).store.records records begun.holds begun.few t) is (begins_of (outside old).held (world old) records begun) kept h

pub same_counts : {a b c d e f : ℕ} → a ≡ d → b ≡ e → c ≡ f → counts a b c ≡ counts d e f
same_counts p q r = rw (p, q, r) refl

-- the same, where what the machine left is named otherwise, and faults are counted from before the load
pub leaves_lent : (means : Meanings) {M : Type 0} (outside : M → Told) (world : M → World) (gives_up : GivesUp M) (first left : Option (List ℕ)) (held : Option (List (List ℕ))) (faults : Counts) (old new : M) (before after : Option (List ℕ)) (e : Ending) (status : Status) (held' : Option (List (List ℕ))) (faults' : Counts)
    → meanings_of (outside old).others ≡ Some means → IsBegun (outside old).held (world old) → Kept outside world gives_up → (outside old).held ≡ held → Later faults (counts_of (outside old))
    → held' ≡ (outside new).held → faults' ≡ counts_of (outside new) → status ≡ status_of e
    → IfSome first (λ script. Ends (gives_of outside world) gives_up script left old new before after e)
    → IfSome first (λ script. OverRecords held (λ records. Leaves means script left records held' faults faults' before after status))
leaves_lent means outside world gives_up first left held faults old new before after e status held' faults' is begun kept same le h k s ends =
    renamed (λ o n z. IfSome first (λ script. OverRecords held (λ records. Leaves means script left records o faults n before after z))) h k s
    (loaded_leaves means first left held (outside old).held (outside new).held faults (counts_of (outside old)) (counts_of (outside new)) before after (status_of e) same le
    (leaves_told means outside world gives_up first left old new before after e is begun kept ends))

-- ---- completeness

-- a run that meets no limit is done, unless memory was refused or source or sink failed
pub ended_complete : (held : Option (List (List ℕ))) (read_fault write_fault keeper_fault : Type 0) (e : Ending) (status : Status) → status ≡ status_of e → MeetsNoLimit e → (e ≡ ending.ReadFault → read_fault) → (e ≡ ending.WriteFault → write_fault)
    → IfSome held (λ texts. AreHeld texts → IsComplete read_fault write_fault keeper_fault status)
ended_complete held read_fault write_fault keeper_fault e status is none r w =
    let P : Status → Type 0 = λ z. IsComplete read_fault write_fault keeper_fault z in
    told_any held (λ texts. AreHeld texts → P status) (λ texts told all. subst P (sym is) (by_ending e none r w))
  where
    by_ending : (e : Ending) → MeetsNoLimit e → (e ≡ ending.ReadFault → read_fault) → (e ≡ ending.WriteFault → write_fault) → IsComplete read_fault write_fault keeper_fault (status_of e)
    by_ending ending.Done none r w = tt
    by_ending ending.ReadFault none r w = r refl
    by_ending ending.WriteFault none r w = w refl
    by_ending ending.NoMemory none r w = tt
    by_ending (ending.LineTooLong n) none r w = absurd none
    by_ending ending.ScriptTooLarge none r w = absurd none

pub complete_told : (first : Option (List ℕ)) (held : Option (List (List ℕ))) (read_fault write_fault keeper_fault : Type 0) (e : Ending) (status : Status) → status ≡ status_of e → (e ≡ ending.ReadFault → read_fault) → (e ≡ ending.WriteFault → write_fault)
    → IfSome first (λ script. IsWithin script → MeetsNoLimit e)
    → IfSome first (λ script. IsWithin script → IfSome held (λ texts. AreHeld texts → IsComplete read_fault write_fault keeper_fault status))
complete_told first held read_fault write_fault keeper_fault e status is r w h =
    told_weaker first (λ script. IsWithin script → MeetsNoLimit e) (λ script. IsWithin script → IfSome held (λ texts. AreHeld texts → IsComplete read_fault write_fault keeper_fault status))
    (λ script meets within. ended_complete held read_fault write_fault keeper_fault e status is (meets within) r w) h
