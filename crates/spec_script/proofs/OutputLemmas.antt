-- The promises of runs, over the answers to lines.
use Rattle.std.proofs.Common.{◌≡◌, ℕ, suc, ◌+◌, ◌≤◌, Bool, true, false, List, [], ◌∷◌, ◌++◌, length, Option, Some, None, Result, Ok, Err, refl, sym, ap, ◌∙◌, subst, arith}
use Rattle.std.specs.Prelude.{count_by, MatchBool}
use Rattle.std.proofs.lemmas.List.Sums.{sum_by-cons}
use Rattle.std.proofs.lemmas.Grind.{common_steps}
use Rattle.std.proofs.lemmas.List.{append-nil}
use Rattle.spec_documents.specs.Tree.{Tree}
use Rattle.spec_messages.specs.Message.{Kind}
use Rattle.spec_records.specs.Records.{Record, was_delivered, was_sent}
use Rattle.spec_exchange.specs.AcceptRefusals as accepting
use Rattle.spec_exchange.specs.SendingRefusals as sending
use Rattle.spec_exchange.specs.Outside.{Outcome, Cause, Putting, Kept, Lost, KeptUntold, with_put}
use Rattle.spec_exchange.specs.Stages.{Delivery}
use Rattle.spec_exchange.specs.Calls.{Sealed, sends, accepted}
use Rattle.spec_exchange.specs.Screens.{Passes}
use Rattle.spec_exchange.specs.Runs.{Call, Deliver, Send, Puts}
use Rattle.spec_exchange.specs.Runs as exchange
use Rattle.spec_exchange.proofs.RunLemmas.{bit, delivered-once, numbered-once}
use Rattle.spec_documents.specs.Lines.{is_blank, Outputs}
use Rattle.spec_handshake.specs.Documents.{Document}
use Rattle.spec_handshake.specs.Refusals as handshake
use Rattle.spec_handshake.specs.Starts.{Start}
use Rattle.spec_script.specs.Events.{line_event}
use Rattle.spec_script.specs.Choices.{Choices, Meanings, of_accepting}
use Rattle.spec_script.specs.Steps.{State, Answer, Step, after, puts, sealed_answer, delivery_answer, line_step, shakes, call_answer}
use Rattle.spec_script.specs.Answers.{answer_text}
use Rattle.spec_script.specs.Output.{Answers, Answered, Numbered, answers_text, GivesAnswer, reply_in}
use Rattle.spec_script.specs.Output as output
use Rattle.spec_script.proofs.HandLemmas.{IsTold}
use Rattle.spec_script.proofs.StepLemmas.{line_covered}

-- ---- a run's answers

-- the case of a blank line, and that of another
pub by_line : {B N P : Type 0} (b : Bool) → MatchBool b B N → (b ≡ true → B → P) → (b ≡ false → N → P) → P
by_line true h blank spoken = blank refl h
by_line false h blank spoken = spoken refl h

-- ---- a run of a script is one of calls

-- a test of replies that no refusal passes
record OfReplies (p : exchange.Reply → Bool) : Type 0 where
  undelivered : (e : Cause accepting.Refusal) → p (exchange.NotDelivered e) ≡ p exchange.Other
  unsent : (e : Cause sending.Refusal) → p (exchange.NotSent e) ≡ p exchange.Other

-- a call whose reply passes where the answer does, and which puts the same record
record IsCall (p : exchange.Reply → Bool) (passes : Passes) (s : State) (f : Choices) (r : Step) : Type 0 where
  call : Call
  put : r.put ≡ exchange.put_of passes s.records (of_accepting f) call
  reply : p (reply_in r.answer) ≡ p (exchange.reply_of passes s.records (of_accepting f) call)

other_call : (p : exchange.Reply → Bool) (passes : Passes) (s : State) (f : Choices) (r : Step) → p (reply_in r.answer) ≡ p exchange.Other → IsCall p passes s f r
other_call p passes s f r e = record { call = Puts r.put; put = refl; reply = e }

put_other : (p : exchange.Reply → Bool) (s : State) (k : Putting) (name : List ℕ) (r : Record) → p (reply_in (puts s k name r).answer) ≡ p exchange.Other
put_other p s Kept name r = refl
put_other p s Lost name r = refl
put_other p s KeptUntold name r = refl

came_told : (p : exchange.Reply → Bool) → OfReplies p → (t : Tree) (r : Result Delivery (Cause accepting.Refusal)) → p (reply_in (delivery_answer t r)) ≡ p (exchange.told r)
came_told p h t (Ok d) = refl
came_told p h t (Err e) = sym (h.undelivered e)

sealed_made : (p : exchange.Reply → Bool) → OfReplies p → (n : ℕ) (r : Result Sealed (Cause sending.Refusal)) → p (reply_in (sealed_answer n r)) ≡ p (exchange.made r)
sealed_made p h n (Ok x) = refl
sealed_made p h n (Err e) = sym (h.unsent e)

shaken_other : {T : Type 0} (p : exchange.Reply → Bool) (s : State) (told : T → Answer) (made : T → Option Document) (starts : List Start) (o : Outcome handshake.Refusal T)
    → ((x : T) → IsTold s (told x) (made x)) → p (reply_in (shakes s told made starts o).answer) ≡ p exchange.Other
shaken_other {T} p s told made starts o is = by_result o.result
  where
    by_result : (r : Result T (Cause handshake.Refusal)) → p (reply_in (call_answer told r)) ≡ p exchange.Other
    by_result (Ok x) = ap p (is x).other
    by_result (Err e) = refl

line_call : (p : exchange.Reply → Bool) → OfReplies p → (passes : Passes) (s : State) (f : Choices) (line : List ℕ) → IsCall p passes s f (line_step passes s f line)
line_call p h passes s f line = line_covered (λ r. IsCall p passes s f r) passes s f (record {
  refused = λ d. other_call p passes s f _ refl;
  restarted = λ node. other_call p passes s f _ refl;
  node = λ n plmn. other_call p passes s f _ refl;
  put = λ name r. other_call p passes s f _ (put_other p s f.keeper.putting name r);
  injected = λ t. other_call p passes s f _ refl;
  forwarded = λ t. other_call p passes s f _ refl;
  reported = λ r. other_call p passes s f _ refl;
  sealed = λ n i o m. record { call = Send n i o m; put = refl; reply = sealed_made p h _ (sends f.keeper s.records n i o m).result };
  came = λ n t. record { call = Deliver n t; put = refl; reply = came_told p h t (accepted passes (of_accepting f) s.records n t).result };
  shaken = λ told made starts o is call. other_call p passes s f _ (shaken_other p s told made starts o is);
}) (line_event line)

abbrev passing : (exchange.Reply → Bool) → List Numbered → ℕ
passing p answers = count_by (λ (x : Numbered). p (reply_in x.1)) answers

-- calls of which as many replies pass as answers do
record IsRun (p : exchange.Reply → Bool) (passes : Passes) (records : List Record) (answers : List Numbered) : Type 0 where
  events : List exchange.Event
  count : passing p answers ≡ count_by p (exchange.replies passes records events)

one_more : (p : exchange.Reply → Bool) (passes : Passes) (s mid : State) (f : Choices) (r : Step) (n : ℕ) (a : Answer) (rest : List Numbered)
    → IsCall p passes s f r → a ≡ r.answer → mid ≡ after s r → IsRun p passes mid.records rest → IsRun p passes s.records ((n, a) ∷ rest)
one_more p passes s mid f r n a rest c told left run =
    let held : mid.records ≡ exchange.after passes s.records (of_accepting f) c.call = ap (λ (z : State). z.records) left ∙ ap (with_put s.records) c.put in
    let same : bit (p (reply_in a)) ≡ bit (p (exchange.reply_of passes s.records (of_accepting f) c.call)) = ap bit (ap (λ (z : Answer). p (reply_in z)) told ∙ c.reply) in
    let later : count_by p (exchange.replies passes mid.records run.events) ≡ count_by p (exchange.replies passes (exchange.after passes s.records (of_accepting f) c.call) run.events) =
    ap (λ (z : List Record). count_by p (exchange.replies passes z run.events)) held in
    record {
      events = (of_accepting f, c.call) ∷ run.events;
      count = omega (
        arith,
        sum_by-cons (λ (x : Numbered). bit (p (reply_in x.1))) (n, a) rest,
        same,
        run.count,
        later,
        sum_by-cons (λ x. bit (p x)) (exchange.reply_of passes s.records (of_accepting f) c.call) (exchange.replies passes (exchange.after passes s.records (of_accepting f) c.call) run.events),
      );
    }

run_of : (m : Meanings) (p : exchange.Reply → Bool) → OfReplies p → (s : State) (n : ℕ) (lines : List (List ℕ)) (answers : List Numbered) (last : State) → Answered m s n lines answers last → IsRun p m.passes s.records answers
run_of m p h s n [] answers last e = rw (e.0) (record { events = []; count = refl })
run_of m p h s n (line ∷ lines) answers last e =
    by_line (is_blank line) e
    (λ blank k. run_of m p h s (n + 1) lines answers last k)
    λ spoken k. spoken_run k (run_of m p h k.2 (n + 1) lines k.1 last k.5)
  where
    spoken_run : (k : (a : Answer) × (rest : List Numbered) × (mid : State) × (answers ≡ (n, a) ∷ rest) × Answers m s line a mid × Answered m mid (n + 1) lines rest last)
        → IsRun p m.passes k.2.records k.1 → IsRun p m.passes s.records answers
    spoken_run k run = rw (k.3)
        (one_more p m.passes s k.2 k.4.0 (line_step m.passes s k.4.0 line) n k.0 k.1 (line_call p h m.passes s k.4.0 line) k.4.2 k.4.3 run)

-- ---- once

pub run-delivered : (m : Meanings) (s : State) (n : ℕ) (lines : List (List ℕ)) (answers : List Numbered) (last : State) → Answered m s n lines answers last → (node : List ℕ) (id : ℕ) (kind : Kind) (message : ℕ)
    → count_by (output.delivers node id kind message) answers + bit (was_delivered node id kind message s.records) ≤ 1
run-delivered m s n lines answers last h node id kind message =
    let w = run_of m (exchange.delivers node id kind message) (record { undelivered = λ e. refl; unsent = λ e. refl }) s n lines answers last h in
    omega (arith, w.count, delivered-once m.passes s.records w.events node id kind message)

pub run-numbered : (m : Meanings) (s : State) (n : ℕ) (lines : List (List ℕ)) (answers : List Numbered) (last : State) → Answered m s n lines answers last → (node : List ℕ) (id : ℕ) (kind : Kind) (seq : ℕ)
    → count_by (output.numbers node id kind seq) answers + bit (was_sent node id kind seq s.records) ≤ 1
run-numbered m s n lines answers last h node id kind seq =
    let w = run_of m (exchange.numbers node id kind seq) (record { undelivered = λ e. refl; unsent = λ e. refl }) s n lines answers last h in
    omega (arith, w.count, numbered-once m.passes s.records w.events node id kind seq)

-- ---- records grow

-- these records and more, at most so many
pub record Grown (count : ℕ) (before now : List Record) : Type 0 where
  pub more : List Record
  pub are : now ≡ before ++ more
  pub most : length more ≤ count

grown_one : (records : List Record) (o : Option Record) → Grown 1 records (with_put records o)
grown_one records None = record { more = []; are = sym (append-nil records); most = omega arith }
grown_one records (Some r) = record { more = r ∷ []; are = refl; most = omega arith }

grown_then : (n : ℕ) (a b c : List Record) → Grown 1 a b → Grown n b c → Grown (suc n) a c
grown_then n a b c g h = record { more = g.more ++ h.more; are = grind (arith, common_steps); most = grind (arith, common_steps) }

one_grown : (m : Meanings) (s : State) (line : List ℕ) (a : Answer) (mid : State) → Answers m s line a mid → Grown 1 s.records mid.records
one_grown m s line a mid h = rw (h.3) (grown_one s.records (line_step m.passes s h.0 line).put)

pub run-grown : (m : Meanings) (s : State) (n : ℕ) (lines : List (List ℕ)) (answers : List Numbered) (last : State) → Answered m s n lines answers last → Grown (length answers) s.records last.records
run-grown m s n [] answers last h = rw (h.0, h.1) (record { more = []; are = sym (append-nil s.records); most = omega arith })
run-grown m s n (line ∷ lines) answers last h =
    by_line (is_blank line) h
    (λ blank k. run-grown m s (n + 1) lines answers last k)
    λ spoken k. spoken_grown k (run-grown m k.2 (n + 1) lines k.1 last k.5)
  where
    spoken_grown : (k : (a : Answer) × (rest : List Numbered) × (mid : State) × (answers ≡ (n, a) ∷ rest) × Answers m s line a mid × Answered m mid (n + 1) lines rest last)
        → Grown (length k.1) k.2.records last.records → Grown (length answers) s.records last.records
    spoken_grown k ih = rw (k.3)
        (grown_then (length k.1) s.records k.2.records last.records (one_grown m s line k.0 k.2 k.4) ih)

-- ---- a run goes on

into_blank : (B N : Type 0) (b : Bool) → b ≡ true → B → MatchBool b B N
into_blank B N b e x = rw e x

into_spoken : (B N : Type 0) (b : Bool) → b ≡ false → N → MatchBool b B N
into_spoken B N b e x = rw e x

-- k is the number of the further line
pub run-push : (m : Meanings) (s : State) (n : ℕ) (lines : List (List ℕ)) (answers : List Numbered) (mid : State) (line : List ℕ) (a : Answer) (last : State) (k : ℕ)
    → k ≡ n + length lines → Answered m s n lines answers mid → is_blank line ≡ false → Answers m mid line a last → Answered m s n (lines ++ line ∷ []) (answers ++ (k, a) ∷ []) last
run-push m s n [] answers mid line a last k e h spoken one =
    let at : k ≡ n = omega (arith, e) in
    let alone : answers ++ (k, a) ∷ [] ≡ (n, a) ∷ [] = ap (λ (xs : List Numbered). xs ++ (k, a) ∷ []) (h.0) ∙ ap (λ (i : ℕ). (i, a) ∷ []) at in
    let P : State → Type 0 = λ z. Answers m z line a last in
    into_spoken _ _ (is_blank line) spoken (a, [], last, alone, subst P (h.1) one, (refl, refl))
run-push m s n (x ∷ xs) answers mid line a last k e h spoken one =
    by_line (is_blank x) h
    (λ blank more. into_blank _ _ (is_blank x) blank (run-push m s (n + 1) xs answers mid line a last k (omega (arith, e)) more spoken one))
    λ other b. into_spoken _ _ (is_blank x) other
    (b.0, b.1 ++ (k, a) ∷ [], b.2, ap (λ (ys : List Numbered). ys ++ (k, a) ∷ []) (b.3), b.4, run-push m b.2 (n + 1) xs b.1 mid line a last k (omega (arith, e)) b.5 spoken one)

-- ---- what a reading loop writes

-- a run and the text of its answers
pub record Written (m : Meanings) (s : State) (n : ℕ) (lines : List (List ℕ)) (out : List ℕ) (last : State) : Type 0 where
  pub answers : List Numbered
  pub answered : Answered m s n lines answers last
  pub text : out ≡ answers_text answers

blank_written : (m : Meanings) (s mid : State) (n : ℕ) (line : List ℕ) (lines : List (List ℕ)) (out first rest : List ℕ) (last : State) → is_blank line ≡ true → out ≡ first ++ rest → (first ≡ []) × (mid ≡ s)
    → Written m mid (n + 1) lines rest last → Written m s n (line ∷ lines) out last
blank_written m s mid n line lines out first rest last blank e h w =
    let P : State → Type 0 = λ z. Answered m z (n + 1) lines w.answers last in
    record {
      answers = w.answers;
      answered = into_blank _ _ (is_blank line) blank (subst P (h.1) w.answered);
      text = e ∙ (ap (λ (z : List ℕ). z ++ rest) (h.0) ∙ w.text);
    }

spoken_written : (m : Meanings) (s mid : State) (n : ℕ) (line : List ℕ) (lines : List (List ℕ)) (out first rest answer : List ℕ) (last : State) → is_blank line ≡ false → out ≡ first ++ rest → first ≡ answer ++ 10 ∷ [] → GivesAnswer m s n line answer mid
    → Written m mid (n + 1) lines rest last → Written m s n (line ∷ lines) out last
spoken_written m s mid n line lines out first rest answer last spoken e f g w =
    let one : first ≡ answer_text n g.answer ++ 10 ∷ [] = f ∙ ap (λ (z : List ℕ). z ++ 10 ∷ []) g.text_is in
    record {
      answers = (n, g.answer) ∷ w.answers;
      answered = into_spoken _ _ (is_blank line) spoken (g.answer, w.answers, mid, refl, g.answers, w.answered);
      text = e ∙ (ap (λ (z : List ℕ). z ++ rest) one ∙ ap (λ (z : List ℕ). (answer_text n g.answer ++ 10 ∷ []) ++ z) w.text);
    }

pub run-written : (m : Meanings) (s : State) (n : ℕ) (lines : List (List ℕ)) (out : List ℕ) (last : State) → Outputs (GivesAnswer m) s n lines out last → Written m s n lines out last
run-written m s n [] out last h = record { answers = []; answered = (refl, h.1); text = h.0 }
run-written m s n (line ∷ lines) out last h =
    let w = run-written m h.2 (n + 1) lines h.1 last h.5 in
    by_line (is_blank line) h.4
    (λ blank k. blank_written m s h.2 n line lines out h.0 h.1 last blank h.3 k w)
    λ spoken k. spoken_written m s h.2 n line lines out h.0 h.1 k.0 last spoken h.3 k.1 k.2 w
