-- Contexts of a run that are opened by handshakes agree.
use Rattle.std.proofs.Common.{◌≡◌, ℕ, ◌+◌, Bool, true, false, List, [], ◌∷◌, ◌++◌, Ok, refl, sym, ap, ◌∙◌, subst, cond, ⊎_elim}
use Rattle.std.specs.Prelude.{◌||◌, not, map, filter}
use Rattle.std.proofs.lemmas.Bool.{and_parts, or_cases}
use Rattle.spec_documents.specs.Lines.{is_blank}
use Rattle.spec_exchange.specs.Screens.{Passes}
use Rattle.spec_handshake.specs.Agreement.{Agrees}
use Rattle.spec_handshake.proofs.Runs.{nothing-stands, stands_agree}
use Rattle.spec_script.specs.Refusals.{Refusal}
use Rattle.spec_script.specs.Events.{StartWith, AnswerTo, FinishBy, line_event}
use Rattle.spec_script.specs.Choices.{Choices, Meanings}
use Rattle.spec_script.specs.Steps.{State, Answer, Refuses, after, line_step}
use Rattle.spec_script.specs.Output.{Answers, Answered, Numbered, begin, has_refusal, is_keeper_refusal, is_ending_refusal}
use Rattle.spec_script.proofs.StateLemmas.{line_keeps, unchanged}
use Rattle.spec_script.proofs.StartLemmas.{line_starts}
use Rattle.spec_script.proofs.OutputLemmas.{by_line}
use Rattle.spec_agreement.specs.ByHandshakes.{Said, number_made, shakes_hands, is_idle, are_handshakes, said, OpensByHandshakes}
use Rattle.spec_agreement.proofs.EventForms.{line_read}
use Rattle.spec_agreement.proofs.Following.{Follows}
use Rattle.spec_agreement.proofs.Happenings.{said_follows}

-- ---- a refused event

-- the refusal that an answer is
refusal_in : (p : Refusal → Bool) (a : Answer) → has_refusal p a ≡ true → (e : Refusal) × (a ≡ Refuses e) × (p e ≡ true)
refusal_in p (Refuses e) h = (e, refl, h)
refusal_in p _ h = cc

neither : (a b : Bool) → not (a || b) ≡ true → (a ≡ false) × (b ≡ false)
neither true b h = cc
neither false true h = cc
neither false false h = (refl, refl)

no_number : (e : Said) (d : Refusal) → number_made e (Refuses d) ≡ []
no_number (Ok (StartWith node peer offer)) d = refl
no_number (Ok (AnswerTo node number offer)) d = refl
no_number (Ok (FinishBy node number)) d = refl
no_number _ d = refl

idle_follows : (passes : Passes) (s : State) (f : Choices) (numbers : List ℕ) (line : List ℕ) → Follows s numbers → has_refusal is_idle (line_step passes s f line).answer ≡ true
    → Follows (after s (line_step passes s f line)) (number_made (line_event line) (line_step passes s f line).answer ++ numbers)
idle_follows passes s f numbers line h idle =
    let r = line_step passes s f line in
    let d = refusal_in is_idle r.answer idle in
    let plain = neither (is_keeper_refusal d.0) (is_ending_refusal d.0) d.2 in
    let keeps = line_keeps passes s f line in
    let same : after s r ≡ s = unchanged s r (keeps.sites d.0 d.1) (keeps.sent d.0 d.1) (keeps.put d.0 d.1 plain.0) ((line_starts passes s f line).same d.0 d.1 plain.0 plain.1) in
    let none : number_made (line_event line) r.answer ≡ [] = ap (number_made (line_event line)) d.1 ∙ no_number (line_event line) d.0 in
    let P : State → Type 0 = λ z. Follows z (number_made (line_event line) r.answer ++ numbers) in
    let Q : List ℕ → Type 0 = λ ns. Follows s (ns ++ numbers) in
    subst P (sym same) (subst Q (sym none) h)

-- ---- lines

line_follows : (passes : Passes) (s : State) (f : Choices) (numbers : List ℕ) (line : List ℕ) → Follows s numbers
    → (has_refusal is_idle (line_step passes s f line).answer || shakes_hands numbers (line_event line)) ≡ true
    → Follows (after s (line_step passes s f line)) (number_made (line_event line) (line_step passes s f line).answer ++ numbers)
line_follows passes s f numbers line h by = ⊎_elim
    (λ idle. idle_follows passes s f numbers line h idle)
    (λ hands. said_follows passes s f numbers h (line_event line) (line_read line) hands)
    (or_cases (has_refusal is_idle (line_step passes s f line).answer) (shakes_hands numbers (line_event line)) by)

-- an answer, and the state after it
answer_follows : (m : Meanings) (s : State) (line : List ℕ) (a : Answer) (mid : State) (numbers : List ℕ) → Answers m s line a mid → Follows s numbers
    → (has_refusal is_idle a || shakes_hands numbers (line_event line)) ≡ true → Follows mid (number_made (line_event line) a ++ numbers)
answer_follows m s line a mid numbers k h by =
    let r = line_step m.passes s k.0 line in
    let B : Answer → Type 0 = λ z. (has_refusal is_idle z || shakes_hands numbers (line_event line)) ≡ true in
    let P : Answer → Type 0 = λ z. Follows (after s r) (number_made (line_event line) z ++ numbers) in
    let Q : State → Type 0 = λ z. Follows z (number_made (line_event line) a ++ numbers) in
    subst Q (sym (k.3)) (subst P (sym (k.2)) (line_follows m.passes s k.0 numbers line h (subst B (k.2) by)))

run_follows : (m : Meanings) (s : State) (n : ℕ) (lines : List (List ℕ)) (answers : List Numbered) (last : State) (numbers : List ℕ) → Answered m s n lines answers last → Follows s numbers
    → are_handshakes numbers (said lines) answers ≡ true → Agrees last.records
run_follows m s n [] answers last numbers e h by =
    let P : State → Type 0 = λ z. Agrees z.records in
    subst P (sym (e.1)) (stands_agree (record { records = s.records; starts = s.starts; made = h.made }) h.stands)
run_follows m s n (line ∷ lines) answers last numbers e h by =
    let P : Bool → Type 0 = λ b. are_handshakes numbers (map line_event (cond (not b) (line ∷ filter (λ z. not (is_blank z)) lines) (filter (λ z. not (is_blank z)) lines))) answers ≡ true in
    by_line (is_blank line) e
    (λ blank k. run_follows m s (n + 1) lines answers last numbers k h (subst P blank by))
    λ spoken k.
    let R : List Numbered → Type 0 = λ z. are_handshakes numbers (line_event line ∷ said lines) z ≡ true in
    let both = and_parts (has_refusal is_idle k.0 || shakes_hands numbers (line_event line)) (are_handshakes (number_made (line_event line) k.0 ++ numbers) (said lines) k.1) (subst R (k.3) (subst P spoken by)) in
    run_follows m k.2 (n + 1) lines k.1 last (number_made (line_event line) k.0 ++ numbers) k.5 (answer_follows m s line k.0 k.2 numbers k.4 h both.0) both.1

pub opened_agree : (m : Meanings) (n : ℕ) (lines : List (List ℕ)) (answers : List Numbered) (last : State) → Answered m (begin []) n lines answers last → OpensByHandshakes lines answers → Agrees last.records
opened_agree m n lines answers last e by =
    run_follows m (begin []) n lines answers last [] e (record { made = []; stands = nothing-stands; names = λ k f. cc; sited = tt }) by
