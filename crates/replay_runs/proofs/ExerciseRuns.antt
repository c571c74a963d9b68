-- From the playing over loaded records to the whole run of `exercise N`: the faults are counted from before the load, and the load may end the run.
use Rattle.std.proofs.Common.{◌≡◌, ℕ, List, [], refl, sym, subst, append-nil, arith, inl, inr, Some, IfSome}
use Rattle.std.specs.Prelude.{Option}
use Rattle.std.specs.Io.KnownBytes.{Appends}
use Rattle.std.proofs.KnownBytes.{Appends-nil}
use Rattle.script_loop.specs.InPart.{GivesUp}
use Rattle.script_loop.specs.Ends.{MeetsNoLimit}
use Rattle.script_loop.specs.declared.ending.Ending.{Ending}
use Rattle.script_loop.specs.declared.ending.Ending.TheVariants as ending
use Rattle.spec_documents.specs.Lines.{lines_of, Gives}
use Rattle.spec_exercise.specs.Texts.{script_text}
use Rattle.exercise_word.specs.Endings as word
use Rattle.spec_records.specs.Records.{Record}
use Rattle.spec_script.specs.Choices.{Meanings}
use Rattle.spec_script.specs.Output.{Output, begin}
use Rattle.context_store.specs.declared.faults.OpenFault.{OpenFault}
use Rattle.context_store.specs.declared.faults.OpenFault.TheVariants as loads
use Rattle.replay_world.specs.Outsiders.{Told}
use Rattle.replay_world.specs.Worlds.{TellsRecords}
use Rattle.replay_world.specs.declared.world.World.{World}
use Rattle.replay_runs.specs.Outsiders.{Counts, Later, counts_of, meanings_of}
use Rattle.replay_runs.specs.Lines.{GivesUpLine}
use Rattle.replay_runs.specs.Statuses.{status_of, load_status}
use Rattle.replay_runs.specs.Unfailing.{plain_answers, plain_output, plain_state}
use Rattle.replay_runs.specs.Replays.{OverRecords, AreHeld, IsComplete}
use Rattle.replay_runs.specs.Loads.{IsBegun}
use Rattle.replay_runs.specs.Exercises.{Exercises, SummarisesInPart, StopsExercise, Leaves, WritesFront, summary_of}
use Rattle.replay_runs.specs.declared.status.Status.{Status}
use Rattle.replay_runs.specs.declared.status.Status.TheVariants as status
use Rattle.replay_runs.proofs.Plain.{plain_answered}
use Rattle.replay_runs.proofs.Went.{gives_of}
use Rattle.replay_runs.proofs.Left.{begins_of, few_told, ended_complete}
use Rattle.replay_runs.proofs.Loaded.{earlier_causes, over_any, over_weaker, renamed, told_weaker}
use Rattle.replay_runs.proofs.Exercised.{exercise_leaves}

-- ---- counted from before the load

earlier_whole : (means : Meanings) (messages : ℕ) (records : List Record) (held : Option (List (List ℕ))) (first faults faults' : Counts) → Later first faults → Exercises means messages records held faults faults' → Exercises means messages records held first faults'
earlier_whole means messages records held first faults faults' le x = record {
  out = x.out;
  last = x.last;
  output = x.output;
  held_is = x.held_is;
  causes = earlier_causes x.output.answers first faults faults' le x.causes;
  one = λ none unsigned unverified. x.one (λ rose. none (omega (arith, rose, le.keeper))) (λ rose. unsigned (omega (arith, rose, le.signer))) (λ rose. unverified (omega (arith, rose, le.verifier)));
}

earlier_part : (means : Meanings) (messages : ℕ) (records : List Record) (held : Option (List (List ℕ))) (first faults faults' : Counts) (before after : Option (List ℕ)) → Later first faults
    → SummarisesInPart means messages records held faults faults' before after → SummarisesInPart means messages records held first faults' before after
unfolding earlier_whole
earlier_part means messages records held first faults faults' before after le x = record { whole = earlier_whole means messages records held first faults faults' le x.whole; written = x.written }

earlier_stops : (means : Meanings) (messages : ℕ) (records : List Record) (held : Option (List (List ℕ))) (first faults faults' : Counts) → Later first faults
    → StopsExercise means messages records held faults faults' → StopsExercise means messages records held first faults'
earlier_stops means messages records held first faults faults' le x = record {
  number = x.number;
  answers = x.answers;
  mid = x.mid;
  answered = x.answered;
  held_is = x.held_is;
  causes = earlier_causes x.answers first faults faults' le x.causes;
}

earlier : (means : Meanings) (messages : ℕ) (records : List Record) (held : Option (List (List ℕ))) (first faults faults' : Counts) (before after : Option (List ℕ)) (s : Status) → Later first faults
    → Leaves means messages records held faults faults' before after s → Leaves means messages records held first faults' before after s
unfolding earlier_whole
earlier means messages records held first faults faults' before after status.Done le e = record { whole = earlier_whole means messages records held first faults faults' le e.whole; written = e.written }
earlier means messages records held first faults faults' before after status.WriteFault le e = earlier_part means messages records held first faults faults' before after le e
earlier means messages records held first faults faults' before after status.NoMemory le e = elim e [
  | inl p ↦ inl (earlier_part means messages records held first faults faults' before after le p)
  | inr p ↦ inr (p.0, earlier_stops means messages records held first faults faults' le p.1)
]
earlier means messages records held first faults faults' before after (status.Journal k) le e = e
earlier means messages records held first faults faults' before after status.KeeperFault le e = e
earlier means messages records held first faults faults' before after status.Words le e = absurd e
earlier means messages records held first faults faults' before after status.ReadFault le e = absurd e
earlier means messages records held first faults faults' before after (status.LineTooLong n) le e = absurd e
earlier means messages records held first faults faults' before after status.ScriptTooLarge le e = absurd e

exercise_loaded : (means : Meanings) (messages : ℕ) (held loaded held' : Option (List (List ℕ))) (faults faults' faults'' : Counts) (before after : Option (List ℕ)) (s : Status) → loaded ≡ held → Later faults faults'
    → OverRecords loaded (λ records. Leaves means messages records held' faults' faults'' before after s)
    → OverRecords held (λ records. Leaves means messages records held' faults faults'' before after s)
exercise_loaded means messages held loaded held' faults faults' faults'' before after s same le e =
    let P : Option (List (List ℕ)) → Type 0 = λ o. OverRecords o (λ records. Leaves means messages records held' faults' faults'' before after s) in
    over_weaker held (λ records. Leaves means messages records held' faults' faults'' before after s) (λ records. Leaves means messages records held' faults faults'' before after s)
    (λ records. earlier means messages records held' faults faults' faults'' before after s le) (subst P same e)

-- ---- where the keeper tells

exercise_begun : (means : Meanings) {M : Type 0} (outside : M → Told) (world : M → World) (gives_up : GivesUp M) (messages : ℕ) (old new : M) (before after : Option (List ℕ)) (e : Ending)
    → meanings_of (outside old).others ≡ Some means → IsBegun (outside old).held (world old)
    → ((a b : M) (n : ℕ) (line : List ℕ) → gives_up a n line b → GivesUpLine (outside a) (outside b) (world a) (world b) line)
    → word.Ends (gives_of outside world) gives_up messages old new before after e
    → OverRecords (outside old).held (λ records. Leaves means messages records (outside new).held (counts_of (outside old)) (counts_of (outside new)) before after (status_of e))
exercise_begun means outside world gives_up messages old new before after e is begun kept ends =
    over_any (outside old).held (λ records. Leaves means messages records (outside new).held (counts_of (outside old)) (counts_of (outside new)) before after (status_of e))
    (λ records t. exercise_leaves means outside world gives_up messages records old new before after e t (few_told (outside old).held (world old).store.records records begun.holds begun.few t) is (begins_of (outside old).held (world old) records begun) kept ends)

-- what the machine left is named otherwise, and faults are counted from before the load
pub exercise_told : (means : Meanings) {M : Type 0} (outside : M → Told) (world : M → World) (gives_up : GivesUp M) (messages : ℕ) (held : Option (List (List ℕ))) (faults : Counts) (old new : M) (before after : Option (List ℕ)) (e : Ending) (status : Status) (held' : Option (List (List ℕ))) (faults' : Counts)
    → meanings_of (outside old).others ≡ Some means → IsBegun (outside old).held (world old)
    → ((a b : M) (n : ℕ) (line : List ℕ) → gives_up a n line b → GivesUpLine (outside a) (outside b) (world a) (world b) line)
    → (outside old).held ≡ held → Later faults (counts_of (outside old)) → held' ≡ (outside new).held → faults' ≡ counts_of (outside new) → status ≡ status_of e
    → word.Ends (gives_of outside world) gives_up messages old new before after e
    → OverRecords held (λ records. Leaves means messages records held' faults faults' before after status)
exercise_told means outside world gives_up messages held faults old new before after e status held' faults' is begun kept same le h k s ends =
    renamed (λ o n z. OverRecords held (λ records. Leaves means messages records o faults n before after z)) h k s
    (exercise_loaded means messages held (outside old).held (outside new).held faults (counts_of (outside old)) (counts_of (outside new)) before after (status_of e) same le
    (exercise_begun means outside world gives_up messages old new before after e is begun kept ends))

-- ---- the load ended the run

unplayed : (means : Meanings) (messages : ℕ) (records : List Record) (held : Option (List (List ℕ))) (faults faults' : Counts) → TellsRecords held records → Later faults faults' → StopsExercise means messages records held faults faults'
unplayed means messages records held faults faults' t le = record {
  number = 0;
  answers = [];
  mid = begin records;
  answered = (refl, refl);
  held_is = inl t;
  causes = record { keeper = omega (arith, le.keeper); signer = omega (arith, le.signer); verifier = omega (arith, le.verifier); sound = refl };
}

load_leaves : (means : Meanings) (messages : ℕ) (records : List Record) (held : Option (List (List ℕ))) (faults faults' : Counts) (written : Option (List ℕ)) (fault : OpenFault) → TellsRecords held records → Later faults faults'
    → Leaves means messages records held faults faults' written written (load_status fault)
load_leaves means messages records held faults faults' written (loads.Journal k) t le = (refl, t)
load_leaves means messages records held faults faults' written loads.Keeper t le = (refl, t)
load_leaves means messages records held faults faults' written loads.NoMemory t le = inr (refl, unplayed means messages records held faults faults' t le)

pub exercise_failed : (means : Meanings) (messages : ℕ) (held held' : Option (List (List ℕ))) (faults faults' : Counts) (written : Option (List ℕ)) (fault : OpenFault) (s : Status) → s ≡ load_status fault → held' ≡ held → Later faults faults'
    → OverRecords held (λ records. Leaves means messages records held' faults faults' written written s)
exercise_failed means messages held held' faults faults' written fault s is same le =
    over_any held (λ records. Leaves means messages records held' faults faults' written written s)
    (λ records t. renamed (λ o n z. Leaves means messages records o faults n written written z) same refl is (load_leaves means messages records held faults faults' written fault t le))

-- ---- a front of a summary

front_of_whole : (means : Meanings) (messages : ℕ) (records : List Record) (held : Option (List (List ℕ))) (faults faults' : Counts) (before after : Option (List ℕ)) → SummarisesInPart means messages records held faults faults' before after → WritesFront means messages records before after
front_of_whole means messages records held faults faults' before after x = record {
  out = x.whole.out;
  last = x.whole.last;
  output = x.whole.output;
  front = x.written.front;
  rest = x.written.rest;
  parts = x.written.parts;
  written = x.written.written;
}

-- the answers where nothing fails
plain_out : (means : Meanings) (messages : ℕ) (records : List Record) → Output means records (script_text messages) (plain_output means records (script_text messages)) (plain_state means (begin records) (lines_of (script_text messages)))
plain_out means messages records = record {
  answers = plain_answers means (begin records) 1 (lines_of (script_text messages));
  answered = plain_answered means (begin records) 1 (lines_of (script_text messages));
  text = refl;
}

front_of_none : (means : Meanings) (messages : ℕ) (records : List Record) (before after : Option (List ℕ)) → after ≡ before → WritesFront means messages records before after
unfolding plain_out
front_of_none means messages records before after same = record {
  out = plain_output means records (script_text messages);
  last = plain_state means (begin records) (lines_of (script_text messages));
  output = plain_out means messages records;
  front = [];
  rest = summary_of messages (plain_answers means (begin records) 1 (lines_of (script_text messages)));
  parts = refl;
  written = subst (λ (o : Option (List ℕ)). Appends before o []) (sym same) (Appends-nil before);
}

front_of : (means : Meanings) (messages : ℕ) (records : List Record) (held : Option (List (List ℕ))) (faults faults' : Counts) (before after : Option (List ℕ)) (s : Status)
    → Leaves means messages records held faults faults' before after s → WritesFront means messages records before after
front_of means messages records held faults faults' before after status.Done e = record {
  out = e.whole.out;
  last = e.whole.last;
  output = e.whole.output;
  front = summary_of messages e.whole.output.answers;
  rest = [];
  parts = sym (append-nil (summary_of messages e.whole.output.answers));
  written = e.written;
}
front_of means messages records held faults faults' before after status.WriteFault e = front_of_whole means messages records held faults faults' before after e
front_of means messages records held faults faults' before after status.NoMemory e = elim e [
  | inl p ↦ front_of_whole means messages records held faults faults' before after p
  | inr p ↦ front_of_none means messages records before after p.0
]
front_of means messages records held faults faults' before after (status.Journal k) e = front_of_none means messages records before after e.0
front_of means messages records held faults faults' before after status.KeeperFault e = front_of_none means messages records before after e.0
front_of means messages records held faults faults' before after status.Words e = absurd e
front_of means messages records held faults faults' before after status.ReadFault e = absurd e
front_of means messages records held faults faults' before after (status.LineTooLong n) e = absurd e
front_of means messages records held faults faults' before after status.ScriptTooLarge e = absurd e

pub exercise_front : (means : Option Meanings) (messages : ℕ) (held held' : Option (List (List ℕ))) (faults faults' : Counts) (before after : Option (List ℕ)) (s : Status)
    → IfSome means (λ m. OverRecords held (λ records. Leaves m messages records held' faults faults' before after s)) → IfSome means (λ m. OverRecords held (λ records. WritesFront m messages records before after))
exercise_front means messages held held' faults faults' before after s e =
    told_weaker means (λ m. OverRecords held (λ records. Leaves m messages records held' faults faults' before after s)) (λ m. OverRecords held (λ records. WritesFront m messages records before after))
    (λ m. over_weaker held (λ records. Leaves m messages records held' faults faults' before after s) (λ records. WritesFront m messages records before after)
    (λ records. front_of m messages records held' faults faults' before after s)) e

-- ---- completeness

-- the script of an exercise isn't read, and is within the limits
record IsPlayed (e : Ending) : Type 0 where
  within : MeetsNoLimit e
  unread : e ≡ ending.ReadFault → ⊥

is_played : {M : Type 0} (gives : Gives M) (gives_up : GivesUp M) (messages : ℕ) (old new : M) (before after : Option (List ℕ)) (e : Ending) → word.Ends gives gives_up messages old new before after e → IsPlayed e
is_played gives gives_up messages old new before after ending.Done h = record { within = tt; unread = λ same. cc }
is_played gives gives_up messages old new before after ending.WriteFault h = record { within = tt; unread = λ same. cc }
is_played gives gives_up messages old new before after ending.NoMemory h = record { within = tt; unread = λ same. cc }
is_played gives gives_up messages old new before after ending.ReadFault h = absurd h
is_played gives gives_up messages old new before after (ending.LineTooLong n) h = absurd h
is_played gives gives_up messages old new before after ending.ScriptTooLarge h = absurd h

-- the playing is done, unless memory was refused or the sink failed
pub played_complete : {M : Type 0} (gives : Gives M) (gives_up : GivesUp M) (messages : ℕ) (old new : M) (before after : Option (List ℕ)) (held : Option (List (List ℕ))) (write_fault keeper_fault : Type 0) (e : Ending) (s : Status) → s ≡ status_of e → (e ≡ ending.WriteFault → write_fault)
    → word.Ends gives gives_up messages old new before after e → IfSome held (λ texts. AreHeld texts → IsComplete ⊥ write_fault keeper_fault s)
played_complete gives gives_up messages old new before after held write_fault keeper_fault e s is w ends =
    let p = is_played gives gives_up messages old new before after e ends in
    ended_complete held ⊥ write_fault keeper_fault e s is p.within p.unread w
