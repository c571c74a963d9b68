-- From the run over loaded records to the whole run: the keeper's faults are counted from before the load, and the load may end the run.
use Rattle.std.proofs.Common.{◌≡◌, ⊎_elim, ◌<◌, ◌+◌, ◌-◌, ℕ, zero, suc, List, [], ◌∷◌, ◌++◌, length, take, drop, slice_get, refl, ap, sym, subst, ◌∙◌, arith, append-nil, append_assoc, inl, inr, None, Some, IfSome}
use Rattle.std.specs.Prelude.{Option}
use Rattle.std.specs.Io.KnownBytes.{Appends}
use Rattle.std.proofs.KnownBytes.{Appends-nil}
use Rattle.std.proofs.lemmas.Bool.{cases_lt}
use Rattle.std.proofs.lemmas.List.{take-append-drop, length-take-le}
use Rattle.std.proofs.lemmas.List.Elements.{All-nil}
use Rattle.std.proofs.lemmas.Option.{slice_get_within}
use Rattle.n32_values.proofs.Trees.{take_at}
use Rattle.script_loop.specs.Limits.{script_limit}
use Rattle.spec_documents.specs.Lines.{lines_of, ended_lines, is_blank}
use Rattle.script_loop.specs.Lines.{IsShort}
use Rattle.spec_records.specs.Records.{Record}
use Rattle.context_records.specs.Reading.{ReadsRecord}
use Rattle.spec_script.specs.Steps.{State}
use Rattle.spec_script.specs.Answers.{answer_text}
use Rattle.spec_script.specs.Output.{Answered, Numbered, Output, answers_text, begin}
use Rattle.context_store.specs.Stores.{AreRecords, HasNoBad, IsNoRecord, IsFirstBad, NamesBad}
use Rattle.context_store.specs.declared.faults.OpenFault.{OpenFault}
use Rattle.context_store.specs.declared.faults.OpenFault.TheVariants as loads
use Rattle.context_store.proofs.Kept.{has_no_bad}
use Rattle.spec_script.specs.Choices.{Meanings}
use Rattle.replay_runs.specs.Outsiders.{Counts, Later}
use Rattle.replay_world.specs.Worlds.{TellsRecords}
use Rattle.replay_runs.specs.Statuses.{load_status}
use Rattle.replay_runs.specs.Unfailing.{plain_answers, plain_state}
use Rattle.replay_runs.specs.Replays.{OutsideAnswers, RepliesToAll, RepliesToFirst, CutsReply, LacksMemory, RepliesInPart, Leaves, WritesFront, OverRecords, AreHeld, IsComplete}
use Rattle.replay_runs.specs.Loads.{IsRefused}
use Rattle.replay_runs.specs.declared.status.Status.{Status}
use Rattle.replay_runs.specs.declared.status.Status.TheVariants as status
use Rattle.replay_runs.proofs.Plain.{answered_then, into_spoken, text-append, plain_answered}

-- ---- counted from before the load

pub earlier_causes : (answers : List Numbered) (first faults faults' : Counts) → Later first faults → OutsideAnswers answers faults faults' → OutsideAnswers answers first faults'
earlier_causes answers first faults faults' le k = record { keeper = omega (arith, k.keeper, le.keeper); signer = omega (arith, k.signer, le.signer); verifier = omega (arith, k.verifier, le.verifier); sound = k.sound }

earlier_all : (means : Meanings) (script : List ℕ) (records : List Record) (held : Option (List (List ℕ))) (first faults faults' : Counts) (before after : Option (List ℕ)) → Later first faults → RepliesToAll means script records held faults faults' before after → RepliesToAll means script records held first faults' before after
earlier_all means script records held first faults faults' before after le a = record {
  out = a.out;
  last = a.last;
  output = a.output;
  written = a.written;
  held_is = a.held_is;
  causes = earlier_causes a.output.answers first faults faults' le a.causes;
  agree = a.agree;
  one = λ none unsigned unverified. a.one (λ rose. none (omega (arith, rose, le.keeper))) (λ rose. unsigned (omega (arith, rose, le.signer))) (λ rose. unverified (omega (arith, rose, le.verifier)));
}

earlier_first : (means : Meanings) (count : ℕ) (script : List ℕ) (records : List Record) (held : Option (List (List ℕ))) (first faults faults' : Counts) (before after : Option (List ℕ)) → Later first faults → RepliesToFirst means count script records held faults faults' before after → RepliesToFirst means count script records held first faults' before after
earlier_first means count script records held first faults faults' before after le a = record {
  answers = a.answers;
  last = a.last;
  answered = a.answered;
  written = a.written;
  held_is = a.held_is;
  causes = earlier_causes a.answers first faults faults' le a.causes;
}

earlier_cut : (means : Meanings) (script taken : List ℕ) (number : ℕ) (answers : List Numbered) (mid : State) (front : List ℕ) (held : Option (List (List ℕ))) (first faults faults' : Counts) → Later first faults → CutsReply means script taken number answers mid front held faults faults' → CutsReply means script taken number answers mid front held first faults'
earlier_cut means script taken number answers mid front held first faults faults' le c = record {
  line = c.line;
  next = c.next;
  spoken = c.spoken;
  answer = c.answer;
  last = c.last;
  answered = c.answered;
  rest = c.rest;
  some = c.some;
  text = c.text;
  held_is = c.held_is;
  causes = earlier_causes (answers ++ (number + 1, c.answer) ∷ []) first faults faults' le c.causes;
}

earlier_lacks : (means : Meanings) (script taken : List ℕ) (number : ℕ) (answers : List Numbered) (mid : State) (front : List ℕ) (held : Option (List (List ℕ))) (first faults faults' : Counts) (s : Status) → Later first faults → LacksMemory means script taken number answers mid front held faults faults' s → LacksMemory means script taken number answers mid front held first faults' s
earlier_lacks means script taken number answers mid front held first faults faults' s le m = record {
  memory = m.memory;
  none = m.none;
  held_is = m.held_is;
  causes = earlier_causes answers first faults faults' le m.causes;
}

earlier_part : (means : Meanings) (script : List ℕ) (left : Option (List ℕ)) (records : List Record) (held : Option (List (List ℕ))) (first faults faults' : Counts) (before after : Option (List ℕ)) (s : Status) → Later first faults
    → RepliesInPart means script left records held faults faults' before after s → RepliesInPart means script left records held first faults' before after s
earlier_part means script left records held first faults faults' before after s le a = record {
  taken = a.taken;
  number = a.number;
  takes = a.takes;
  answers = a.answers;
  mid = a.mid;
  answered = a.answered;
  front = a.front;
  stops = elim a.stops [
    | inl c ↦ inl (earlier_cut means script a.taken a.number a.answers a.mid a.front held first faults faults' le c)
    | inr m ↦ inr (earlier_lacks means script a.taken a.number a.answers a.mid a.front held first faults faults' s le m)
  ];
  written = a.written;
}

earlier : (means : Meanings) (script : List ℕ) (left : Option (List ℕ)) (records : List Record) (held : Option (List (List ℕ))) (first faults faults' : Counts) (before after : Option (List ℕ)) (s : Status) → Later first faults
    → Leaves means script left records held faults faults' before after s → Leaves means script left records held first faults' before after s
earlier means script left records held first faults faults' before after status.Done le e = (e.0, e.1, earlier_all means script records held first faults faults' before after le e.2)
earlier means script left records held first faults faults' before after status.ReadFault le e = record {
  taken = e.taken;
  rest = e.rest;
  parts = e.parts;
  left_is = e.left_is;
  within = e.within;
  replies = earlier_first means (ended_lines e.taken) script records held first faults faults' before after le e.replies;
}
earlier means script left records held first faults faults' before after (status.LineTooLong n) le e = (e.0, earlier_first means (n - 1) script records held first faults faults' before after le e.1)
earlier means script left records held first faults faults' before after status.ScriptTooLarge le e = (e.0, earlier_first means (ended_lines (take script_limit script)) script records held first faults faults' before after le e.1)
earlier means script left records held first faults faults' before after status.WriteFault le e = earlier_part means script left records held first faults faults' before after status.WriteFault le e
earlier means script left records held first faults faults' before after status.NoMemory le e = earlier_part means script left records held first faults faults' before after status.NoMemory le e
earlier means script left records held first faults faults' before after (status.Journal k) le e = e
earlier means script left records held first faults faults' before after status.KeeperFault le e = e
earlier means script left records held first faults faults' before after status.Words le e = absurd e

-- ---- what is told

pub told_any : {A : Type 0} (o : Option A) (P : A → Type 0) → ((x : A) → o ≡ Some x → P x) → IfSome o P
told_any None P f = tt
told_any (Some x) P f = f x refl

pub told_weaker : {A : Type 0} (o : Option A) (P Q : A → Type 0) → ((x : A) → P x → Q x) → IfSome o P → IfSome o Q
told_weaker None P Q f h = tt
told_weaker (Some x) P Q f h = f x h

-- what is left, in other names
pub renamed : {A B C : Type 0} (P : A → B → C → Type 0) {a x : A} {b y : B} {c z : C} → a ≡ x → b ≡ y → c ≡ z → P x y z → P a b c
renamed P h k s e = rw (h, k, s) e

pub over_weaker : (held : Option (List (List ℕ))) (P Q : List Record → Type 0) → ((records : List Record) → P records → Q records) → OverRecords held P → OverRecords held Q
over_weaker None P Q f h = tt
over_weaker (Some texts) P Q f h = λ records are. f records (h records are)

pub over_any : (held : Option (List (List ℕ))) (P : List Record → Type 0) → ((records : List Record) → TellsRecords held records → P records) → OverRecords held P
over_any None P f = tt
over_any (Some texts) P f = λ records are. f records (record { texts = texts; told = refl; are = are })

pub loaded_leaves : (means : Meanings) (first left : Option (List ℕ)) (held loaded held' : Option (List (List ℕ))) (faults faults' faults'' : Counts) (before after : Option (List ℕ)) (s : Status) → loaded ≡ held → Later faults faults'
    → IfSome first (λ script. OverRecords loaded (λ records. Leaves means script left records held' faults' faults'' before after s))
    → IfSome first (λ script. OverRecords held (λ records. Leaves means script left records held' faults faults'' before after s))
loaded_leaves means None left held loaded held' faults faults' faults'' before after s same le e = tt
loaded_leaves means (Some script) left held loaded held' faults faults' faults'' before after s same le e =
    let P : Option (List (List ℕ)) → Type 0 = λ o. OverRecords o (λ records. Leaves means script left records held' faults' faults'' before after s) in
    over_weaker held (λ records. Leaves means script left records held' faults' faults'' before after s) (λ records. Leaves means script left records held' faults faults'' before after s)
    (λ records. earlier means script left records held' faults faults' faults'' before after s le) (subst P same e)

-- ---- the load ended the run

nothing_replied : (means : Meanings) (script : List ℕ) (records : List Record) (held : Option (List (List ℕ))) (faults faults' : Counts) (written : Option (List ℕ)) → TellsRecords held records → Later faults faults'
    → RepliesInPart means script (Some script) records held faults faults' written written status.NoMemory
nothing_replied means script records held faults faults' written t le = record {
  taken = [];
  number = 0;
  takes = record { rest = script; parts = refl; left_is = refl; size = omega arith; ended = omega arith; short = All-nil IsShort };
  answers = [];
  mid = begin records;
  answered = (refl, refl);
  front = [];
  stops = inr (record { memory = refl; none = refl; held_is = inl t; causes = record { keeper = omega (arith, le.keeper); signer = omega (arith, le.signer); verifier = omega (arith, le.verifier); sound = refl } });
  written = Appends-nil written;
}

load_leaves : (means : Meanings) (script : List ℕ) (records : List Record) (held : Option (List (List ℕ))) (faults faults' : Counts) (written : Option (List ℕ)) (fault : OpenFault) → TellsRecords held records → Later faults faults'
    → Leaves means script (Some script) records held faults faults' written written (load_status fault)
load_leaves means script records held faults faults' written (loads.Journal k) t le = (refl, t)
load_leaves means script records held faults faults' written loads.Keeper t le = (refl, t)
load_leaves means script records held faults faults' written loads.NoMemory t le = nothing_replied means script records held faults faults' written t le

pub failed_leaves : (means : Meanings) (first : Option (List ℕ)) (held held' : Option (List (List ℕ))) (faults faults' : Counts) (written : Option (List ℕ)) (fault : OpenFault) (s : Status) → s ≡ load_status fault → held' ≡ held → Later faults faults'
    → IfSome first (λ script. OverRecords held (λ records. Leaves means script first records held' faults faults' written written s))
failed_leaves means None held held' faults faults' written fault s is same le = tt
failed_leaves means (Some script) held held' faults faults' written fault s is same le =
    over_any held (λ records. Leaves means script (Some script) records held' faults faults' written written s)
    (λ records t. renamed (λ o n z. Leaves means script (Some script) records o faults n written written z) same refl is (load_leaves means script records held faults faults' written fault t le))

-- ---- a front of an output

-- the answers to some first lines begin an output
record BeginsOutput (means : Meanings) (script : List ℕ) (records : List Record) (answers : List Numbered) : Type 0 where
  whole : List Numbered
  last : State
  output : Output means records script (answers_text whole) last
  rest : List ℕ
  parts : answers_text whole ≡ answers_text answers ++ rest

begins_output : (means : Meanings) (count : ℕ) (script : List ℕ) (records : List Record) (answers : List Numbered) (mid : State) → Answered means (begin records) 1 (take count (lines_of script)) answers mid → BeginsOutput means script records answers
begins_output means count script records answers mid answered =
    let lines : List (List ℕ) = take count (lines_of script) in
    let others : List (List ℕ) = drop count (lines_of script) in
    let more : List Numbered = plain_answers means mid (1 + length lines) others in
    let P : List (List ℕ) → Type 0 = λ ls. Answered means (begin records) 1 ls (answers ++ more) (plain_state means mid others) in
    record {
      whole = answers ++ more;
      last = plain_state means mid others;
      output = record {
        answers = answers ++ more;
        answered = subst P (take-append-drop count (lines_of script)) (answered_then means (begin records) 1 lines answers mid (1 + length lines) others more (plain_state means mid others) refl answered (plain_answered means mid (1 + length lines) others));
        text = refl;
      };
      rest = answers_text more;
      parts = text-append answers more;
    }

front_of_first : (means : Meanings) (count : ℕ) (script : List ℕ) (records : List Record) (held : Option (List (List ℕ))) (faults faults' : Counts) (before after : Option (List ℕ)) → RepliesToFirst means count script records held faults faults' before after → WritesFront means script records before after
front_of_first means count script records held faults faults' before after a =
    let b = begins_output means count script records a.answers a.last a.answered in
    record { out = answers_text b.whole; last = b.last; output = b.output; front = answers_text a.answers; rest = b.rest; parts = b.parts; written = a.written }

-- with the answer to the line that was cut
cut_begins : (means : Meanings) (script taken : List ℕ) (number : ℕ) (records : List Record) (answers : List Numbered) (mid : State) (front : List ℕ) (held : Option (List (List ℕ))) (faults faults' : Counts) → Answered means (begin records) 1 (take number (lines_of script)) answers mid
    → (c : CutsReply means script taken number answers mid front held faults faults') → BeginsOutput means script records (answers ++ (number + 1, c.answer) ∷ [])
cut_begins means script taken number records answers mid front held faults faults' answered c =
    let lines : List (List ℕ) = take number (lines_of script) in
    let within = slice_get_within (lines_of script) number c.line c.next.there in
    let few : length lines ≡ number = length-take-le number (lines_of script) (omega (arith, within)) in
    let place : number + 1 ≡ 1 + length lines = omega (arith, few) in
    let one : Answered means mid (number + 1) (c.line ∷ []) ((number + 1, c.answer) ∷ []) c.last =
    into_spoken _ _ (is_blank c.line) c.spoken (c.answer, [], c.last, refl, c.answered, (refl, refl)) in
    let P : List (List ℕ) → Type 0 = λ ls. Answered means (begin records) 1 ls (answers ++ (number + 1, c.answer) ∷ []) c.last in
    begins_output means (number + 1) script records (answers ++ (number + 1, c.answer) ∷ []) c.last
    (subst P (sym (take_at (lines_of script) number c.line c.next.there)) (answered_then means (begin records) 1 lines answers mid (number + 1) (c.line ∷ []) ((number + 1, c.answer) ∷ []) c.last place answered one))

front_of_part : (means : Meanings) (script : List ℕ) (left : Option (List ℕ)) (records : List Record) (held : Option (List (List ℕ))) (faults faults' : Counts) (before after : Option (List ℕ)) (s : Status) → RepliesInPart means script left records held faults faults' before after s → WritesFront means script records before after
front_of_part means script left records held faults faults' before after s a = elim a.stops [ inl c ↦ cut c | inr m ↦ whole m.none ]
  where
    cut : CutsReply means script a.taken a.number a.answers a.mid a.front held faults faults' → WritesFront means script records before after
    cut c =
        let text : List ℕ = answers_text a.answers in
        let b = cut_begins means script a.taken a.number records a.answers a.mid a.front held faults faults' a.answered c in
        let own : List ℕ = answer_text (a.number + 1) c.answer ++ 10 ∷ [] in
        let all : answers_text (a.answers ++ (a.number + 1, c.answer) ∷ []) ≡ (text ++ a.front) ++ c.rest =
        text-append a.answers ((a.number + 1, c.answer) ∷ []) ∙ (ap (λ (z : List ℕ). text ++ z) (append-nil own ∙ c.text) ∙ sym (append_assoc text a.front c.rest)) in
        record {
          out = answers_text b.whole;
          last = b.last;
          output = b.output;
          front = text ++ a.front;
          rest = c.rest ++ b.rest;
          parts = b.parts ∙ (ap (λ (z : List ℕ). z ++ b.rest) all ∙ append_assoc (text ++ a.front) c.rest b.rest);
          written = a.written;
        }

    whole : a.front ≡ [] → WritesFront means script records before after
    whole none =
        let text : List ℕ = answers_text a.answers in
        let b = begins_output means a.number script records a.answers a.mid a.answered in
        record {
          out = answers_text b.whole;
          last = b.last;
          output = b.output;
          front = text ++ a.front;
          rest = b.rest;
          parts = b.parts ∙ ap (λ (z : List ℕ). z ++ b.rest) (sym (ap (λ (z : List ℕ). text ++ z) none ∙ append-nil text));
          written = a.written;
        }

front_of_none : (means : Meanings) (script : List ℕ) (records : List Record) (before after : Option (List ℕ)) → after ≡ before → WritesFront means script records before after
front_of_none means script records before after same =
    let b = begins_output means 0 script records [] (begin records) (refl, refl) in
    let P : Option (List ℕ) → Type 0 = λ o. Appends before o [] in
    record { out = answers_text b.whole; last = b.last; output = b.output; front = []; rest = b.rest; parts = b.parts; written = subst P (sym same) (Appends-nil before) }

front_of : (means : Meanings) (script : List ℕ) (left : Option (List ℕ)) (records : List Record) (held : Option (List (List ℕ))) (faults faults' : Counts) (before after : Option (List ℕ)) (s : Status)
    → Leaves means script left records held faults faults' before after s → WritesFront means script records before after
front_of means script left records held faults faults' before after status.Done e =
    let a = e.2 in
    record { out = a.out; last = a.last; output = a.output; front = a.out; rest = []; parts = sym (append-nil a.out); written = a.written }
front_of means script left records held faults faults' before after status.ReadFault e = front_of_first means (ended_lines e.taken) script records held faults faults' before after e.replies
front_of means script left records held faults faults' before after (status.LineTooLong n) e = front_of_first means (n - 1) script records held faults faults' before after e.1
front_of means script left records held faults faults' before after status.ScriptTooLarge e = front_of_first means (ended_lines (take script_limit script)) script records held faults faults' before after e.1
front_of means script left records held faults faults' before after status.WriteFault e = front_of_part means script left records held faults faults' before after status.WriteFault e
front_of means script left records held faults faults' before after status.NoMemory e = front_of_part means script left records held faults faults' before after status.NoMemory e
front_of means script left records held faults faults' before after (status.Journal k) e = front_of_none means script records before after e.0
front_of means script left records held faults faults' before after status.KeeperFault e = front_of_none means script records before after e.0
front_of means script left records held faults faults' before after status.Words e = absurd e

pub front_told : (means : Option Meanings) (first left : Option (List ℕ)) (held held' : Option (List (List ℕ))) (faults faults' : Counts) (before after : Option (List ℕ)) (s : Status)
    → IfSome means (λ m. IfSome first (λ script. OverRecords held (λ records. Leaves m script left records held' faults faults' before after s)))
    → IfSome means (λ m. IfSome first (λ script. OverRecords held (λ records. WritesFront m script records before after)))
front_told means first left held held' faults faults' before after s e =
    told_weaker means (λ m. IfSome first (λ script. OverRecords held (λ records. Leaves m script left records held' faults faults' before after s))) (λ m. IfSome first (λ script. OverRecords held (λ records. WritesFront m script records before after)))
    (λ m. told_weaker first (λ script. OverRecords held (λ records. Leaves m script left records held' faults faults' before after s)) (λ script. OverRecords held (λ records. WritesFront m script records before after))
    (λ script. over_weaker held (λ records. Leaves m script left records held' faults faults' before after s) (λ records. WritesFront m script records before after)
    (λ records. front_of m script left records held' faults faults' before after s))) e

-- ---- bad records

-- a text among the first k, which are records, is one
record_at : (k : ℕ) (texts : List (List ℕ)) (records : List Record) (j : ℕ) (b : List ℕ) → AreRecords (take k texts) records → j < k → slice_get texts j ≡ Some b → IsNoRecord b → ⊥
record_at zero texts records j b all lt there none = omega (arith, lt)
record_at (suc k) [] records j b all lt there none = cc
record_at (suc k) (c ∷ cs) [] j b all lt there none = all
record_at (suc k) (c ∷ cs) (r ∷ rs) zero b all lt there none = let same : c ≡ b = cc in none r (subst (λ d. ReadsRecord d r) same all.0)
record_at (suc k) (c ∷ cs) (r ∷ rs) (suc j) b all lt there none = record_at k cs rs j b all.1 (omega (arith, lt)) there none

not_before : (texts : List (List ℕ)) (j k : ℕ) → IsFirstBad texts j → IsFirstBad texts k → j < k → ⊥
not_before texts j k a b lt = ⊎_elim (λ none. record_at k texts b.before j a.text b.good lt a.there none) (λ limit. omega (arith, lt, limit, b.few)) a.bad

-- one text is the first bad one
one_bad : (texts : List (List ℕ)) (j k : ℕ) → IsFirstBad texts j → IsFirstBad texts k → j ≡ k
one_bad texts j k a b = ⊎_elim (λ lt. absurd (not_before texts j k a b lt)) (λ le. ⊎_elim (λ gt. absurd (not_before texts k j b a gt)) (λ ge. omega (arith, le, ge)) (cases_lt k j)) (cases_lt j k)

-- the records were read, and none is bad
pub bad_none : (held loaded : Option (List (List ℕ))) (P : ℕ → Type 0) → loaded ≡ held → HasNoBad loaded → IfSome held (λ texts. (k : ℕ) → IsFirstBad texts k → P k)
bad_none None loaded P same sound = tt
bad_none (Some texts) loaded P same sound = λ k bad. let Q : Option (List (List ℕ)) → Type 0 = λ o. HasNoBad o in absurd (subst Q same sound k bad)

load_refused : (texts : List (List ℕ)) (k : ℕ) (fault : OpenFault) → NamesBad (Some texts) fault → IsFirstBad texts k → IsRefused k (load_status fault)
load_refused texts k (loads.Journal j) named bad = one_bad texts j k named bad
load_refused texts k loads.Keeper named bad = tt
load_refused texts k loads.NoMemory named bad = tt

-- the load failed
pub failed_bad : (held : Option (List (List ℕ))) (fault : OpenFault) (s : Status) (P : Type 0) → s ≡ load_status fault → NamesBad held fault → P → IfSome held (λ texts. (k : ℕ) → IsFirstBad texts k → IsRefused k s × P)
failed_bad None fault s P is named p = tt
failed_bad (Some texts) fault s P is named p = λ k bad. (subst (λ (z : Status). IsRefused k z) (sym is) (load_refused texts k fault named bad), p)

-- ---- completeness

-- where a text is bad not all are held
load_complete : (texts : List (List ℕ)) (read_fault write_fault keeper_fault : Type 0) (fault : OpenFault) → NamesBad (Some texts) fault → (fault ≡ loads.Keeper → keeper_fault) → AreHeld texts → IsComplete read_fault write_fault keeper_fault (load_status fault)
load_complete texts read_fault write_fault keeper_fault (loads.Journal k) named cause h = has_no_bad (Some texts) h.records h.are h.few k named
load_complete texts read_fault write_fault keeper_fault loads.Keeper named cause h = cause refl
load_complete texts read_fault write_fault keeper_fault loads.NoMemory named cause h = tt

pub failed_complete : (held : Option (List (List ℕ))) (read_fault write_fault keeper_fault : Type 0) (fault : OpenFault) (s : Status) → s ≡ load_status fault → NamesBad held fault → (fault ≡ loads.Keeper → keeper_fault)
    → IfSome held (λ texts. AreHeld texts → IsComplete read_fault write_fault keeper_fault s)
failed_complete None read_fault write_fault keeper_fault fault s is named cause = tt
failed_complete (Some texts) read_fault write_fault keeper_fault fault s is named cause = λ h. subst (λ (z : Status). IsComplete read_fault write_fault keeper_fault z) (sym is) (load_complete texts read_fault write_fault keeper_fault fault named cause h)
