-- Runs over lines: one after another, the one in which nothing fails, and that there is no other without a fault.
use Rattle.std.proofs.Common.{◌≡◌, ℕ, suc, zero, ◌+◌, Bool, true, false, cond, List, [], ◌∷◌, ◌++◌, length, refl, sym, ap, subst, ◌∙◌, append_assoc, arith}
use Rattle.std.specs.Prelude.{count_by, MatchBool, None}
use Rattle.std.proofs.lemmas.List.Sums.{sum_by-cons}
use Rattle.n32_outside.specs.Causes.{Rose, RoseBy}
use Rattle.spec_script.specs.Choices.{Meanings, IsBy, unfailing}
use Rattle.spec_exchange.specs.Outside as outside
use Rattle.spec_exchange.specs.EntryRefusals as entries
use Rattle.spec_exchange.specs.AcceptRefusals as receiving
use Rattle.spec_documents.specs.Lines.{is_blank}
use Rattle.spec_script.specs.Events.{line_event}
use Rattle.spec_script.specs.Refusals as spec
use Rattle.spec_script.specs.Steps.{State, Answer, Fine, OnWire, Sends, Forwards, Delivers, Opens, OpensAs, EndsTls, Reports, Refuses, after, line_step}
use Rattle.spec_script.specs.Answers.{answer_text}
use Rattle.spec_script.specs.Output.{Answers, Answered, Numbered, answers_text, has_refusal, is_keeper_refusal, is_signer_refusal, is_verifier_refusal, is_outside_refusal}
use Rattle.spec_script.proofs.FaultLemmas.{line_determined}
use Rattle.replay_runs.specs.Unfailing.{plain_step, plain_answers, plain_state}
use Rattle.replay_runs.specs.Replays.{is_journal_refusal, tells_keeper, tells_signer, tells_verifier, tells_journal}

-- ---- the case of a blank line, and that of another

abbrev pub Spoken : (means : Meanings) → State → ℕ → List ℕ → List (List ℕ) → List Numbered → State → Type 0
Spoken means s n line lines answers t =
    (a : Answer) × (rest : List Numbered) × (mid : State) × (answers ≡ (n, a) ∷ rest) × Answers means s line a mid × Answered means mid (n + 1) lines rest t

pub by_line : {B N P : Type 0} (b : Bool) → MatchBool b B N → (b ≡ true → B → P) → (b ≡ false → N → P) → P
by_line true h blank spoken = blank refl h
by_line false h blank spoken = spoken refl h

pub into_blank : (B N : Type 0) (b : Bool) → b ≡ true → B → MatchBool b B N
into_blank B N b e x = rw e x

pub into_spoken : (B N : Type 0) (b : Bool) → b ≡ false → N → MatchBool b B N
into_spoken B N b e x = rw e x

-- ---- one run after another

-- k is the number of the line at which the second begins
pub answered_then : (means : Meanings) (s : State) (n : ℕ) (xs : List (List ℕ)) (first : List Numbered) (mid : State) (k : ℕ) (ys : List (List ℕ)) (second : List Numbered) (t : State)
    → k ≡ n + length xs → Answered means s n xs first mid → Answered means mid k ys second t → Answered means s n (xs ++ ys) (first ++ second) t
answered_then means s n [] first mid k ys second t e h g =
    let at : k ≡ n = omega (arith, e) in
    let P : ℕ → Type 0 = λ i. Answered means mid i ys second t in
    let Q : State → Type 0 = λ m. Answered means m n ys second t in
    let R : List Numbered → Type 0 = λ front. Answered means s n ys (front ++ second) t in
    subst R (sym (h.0)) (subst Q (h.1) (subst P at g))
answered_then means s n (line ∷ lines) first mid k ys second t e h g =
    by_line (is_blank line) h
    (λ blank more. into_blank _ _ (is_blank line) blank (answered_then means s (n + 1) lines first mid k ys second t (omega (arith, e)) more g))
    λ spoken b. into_spoken _ _ (is_blank line) spoken
    (b.0, b.1 ++ second, b.2, ap (λ (front : List Numbered). front ++ second) (b.3), b.4, answered_then means b.2 (n + 1) lines b.1 mid k ys second t (omega (arith, e)) b.5 g)

pub text-append : (first second : List Numbered) → answers_text (first ++ second) ≡ answers_text first ++ answers_text second
text-append [] second = refl
text-append (x ∷ xs) second =
    let own : List ℕ = answer_text x.0 x.1 ++ 10 ∷ [] in
    ap (λ (z : List ℕ). own ++ z) (text-append xs second) ∙ sym (append_assoc own (answers_text xs) (answers_text second))

-- ---- the run in which nothing fails

-- the choices of a run in which nothing fails go by its meanings
unfailing_by : (means : Meanings) → IsBy means (unfailing means)
unfailing_by means = record { signs = refl; verifies = record { failing = None; is = refl } }

plain_line : (means : Meanings) (b : Bool) (s : State) (n : ℕ) (line : List ℕ) (lines : List (List ℕ))
    → Answered means s (n + 1) lines (plain_answers means s (n + 1) lines) (plain_state means s lines)
    → Answered means (after s (plain_step means s line)) (n + 1) lines (plain_answers means (after s (plain_step means s line)) (n + 1) lines) (plain_state means (after s (plain_step means s line)) lines)
    → MatchBool b
    (Answered means s (n + 1) lines (cond b (plain_answers means s (n + 1) lines) ((n, (plain_step means s line).answer) ∷ plain_answers means (after s (plain_step means s line)) (n + 1) lines))
    (cond b (plain_state means s lines) (plain_state means (after s (plain_step means s line)) lines)))
    (Spoken means s n line lines (cond b (plain_answers means s (n + 1) lines) ((n, (plain_step means s line).answer) ∷ plain_answers means (after s (plain_step means s line)) (n + 1) lines))
    (cond b (plain_state means s lines) (plain_state means (after s (plain_step means s line)) lines)))
plain_line means true s n line lines blank spoken = blank
plain_line means false s n line lines blank spoken =
    ((plain_step means s line).answer, plain_answers means (after s (plain_step means s line)) (n + 1) lines, after s (plain_step means s line), refl, (unfailing means, unfailing_by means, refl, refl), spoken)

pub plain_answered : (means : Meanings) (s : State) (n : ℕ) (lines : List (List ℕ)) → Answered means s n lines (plain_answers means s n lines) (plain_state means s lines)
plain_answered means s n [] = (refl, refl)
plain_answered means s n (line ∷ lines) =
    plain_line means (is_blank line) s n line lines (plain_answered means s (n + 1) lines) (plain_answered means (after s (plain_step means s line)) (n + 1) lines)

-- ---- no other run is without a fault

refusal_outside : (e : spec.Refusal) → is_keeper_refusal e ≡ false → is_signer_refusal e ≡ false → is_verifier_refusal e ≡ false → is_journal_refusal e ≡ false → is_outside_refusal e ≡ false
refusal_outside (spec.OfOutside outside.Keeper) k g v j = k
refusal_outside (spec.OfOutside (outside.Journal number)) k g v j = j
refusal_outside (spec.OfSending refusal) k g v j = refl
refusal_outside (spec.OfHandshake refusal) k g v j = refl
refusal_outside (spec.OfReceiving (receiving.Receiving refusal) report) k g v j = refl
refusal_outside (spec.OfReceiving receiving.Unasked report) k g v j = refl
refusal_outside (spec.OfReceiving receiving.Screened report) k g v j = refl
refusal_outside (spec.OfReceiving (receiving.OfEntry number (entries.BadForm member)) report) k g v j = refl
refusal_outside (spec.OfReceiving (receiving.OfEntry number entries.OffRoute) report) k g v j = refl
refusal_outside (spec.OfReceiving (receiving.OfEntry number entries.VerifierFailed) report) k g v j = v
refusal_outside (spec.OfReceiving (receiving.OfEntry number entries.BadSignature) report) k g v j = refl
refusal_outside (spec.OfReceiving (receiving.OfEntry number entries.OtherTag) report) k g v j = refl
refusal_outside (spec.OfReceiving (receiving.OfEntry number (entries.NotAllowed op why)) report) k g v j = refl
refusal_outside (spec.Beyond limit) k g v j = refl
refusal_outside spec.ContextNotFound k g v j = refl
refusal_outside (spec.BadForm member) k g v j = refl
refusal_outside spec.BadReport k g v j = refl
refusal_outside spec.SignerFailed k g v j = g
refusal_outside spec.Syntax k g v j = refl
refusal_outside spec.OtherNumber k g v j = refl
refusal_outside (spec.BadEvent member) k g v j = refl
refusal_outside spec.NodeUnknown k g v j = refl
refusal_outside spec.NodeExists k g v j = refl
refusal_outside spec.WireUnknown k g v j = refl
refusal_outside (spec.BadMessage member) k g v j = refl
refusal_outside spec.DeepBody k g v j = refl
refusal_outside (spec.BadPolicy mapping) k g v j = refl
refusal_outside spec.ContextUsed k g v j = refl
refusal_outside spec.KeysTwice k g v j = refl

answer_outside : (a : Answer) → has_refusal is_keeper_refusal a ≡ false → has_refusal is_signer_refusal a ≡ false → has_refusal is_verifier_refusal a ≡ false → has_refusal is_journal_refusal a ≡ false → has_refusal is_outside_refusal a ≡ false
answer_outside (Refuses e) k g v j = refusal_outside e k g v j
answer_outside (Fine name) k g v j = refl
answer_outside (OnWire number) k g v j = refl
answer_outside (Sends x number) k g v j = refl
answer_outside (Forwards t number) k g v j = refl
answer_outside (Reports r) k g v j = refl
answer_outside (Delivers d) k g v j = refl
answer_outside (Opens document number id) k g v j = refl
answer_outside (OpensAs id) k g v j = refl
answer_outside EndsTls k g v j = refl

-- a count of none
pub record NoneOf (p : Numbered → Bool) (x : Numbered) (xs : List Numbered) : Type 0 where
  pub first : p x ≡ false
  pub rest : count_by p xs ≡ 0

bit_none : (b : Bool) (m n : ℕ) → n ≡ cond b 1 0 + m → n ≡ 0 → (b ≡ false) × (m ≡ 0)
bit_none true m n e h = absurd (omega (arith, e, h))
bit_none false m n e h = (refl, omega (arith, e, h))

pub none_of : (p : Numbered → Bool) (x : Numbered) (xs : List Numbered) → count_by p (x ∷ xs) ≡ 0 → NoneOf p x xs
none_of p x xs h =
    let parts = bit_none (p x) (count_by p xs) (count_by p (x ∷ xs)) (sum_by-cons (λ (y : Numbered). cond (p y) 1 0) x xs) h in
    record { first = parts.0; rest = parts.1 }

-- the answers of a line that is no fault, and the state after it
one_plain : (means : Meanings) (s : State) (line : List ℕ) (a : Answer) (mid : State) → Answers means s line a mid → has_refusal is_outside_refusal a ≡ false → (a ≡ (plain_step means s line).answer) × (mid ≡ after s (plain_step means s line))
one_plain means s line a mid h none =
    let told : has_refusal is_outside_refusal (line_step means.passes s h.0 line).answer ≡ false = ap (has_refusal is_outside_refusal) (sym (h.2)) ∙ none in
    let same : line_step means.passes s h.0 line ≡ line_step means.passes s (unfailing means) line = line_determined means s h.0 h.1 (line_event line) told in
    (h.2 ∙ ap (λ r. r.answer) same, h.3 ∙ ap (after s) same)

pub record IsPlain (means : Meanings) (s : State) (n : ℕ) (lines : List (List ℕ)) (answers : List Numbered) (last : State) : Type 0 where
  pub answers_are : answers ≡ plain_answers means s n lines
  pub last_is : last ≡ plain_state means s lines

plain_blank : (means : Meanings) (s : State) (n : ℕ) (line : List ℕ) (lines : List (List ℕ)) (answers : List Numbered) (last : State) → is_blank line ≡ true → IsPlain means s (n + 1) lines answers last → IsPlain means s n (line ∷ lines) answers last
plain_blank means s n line lines answers last blank i = record { answers_are = rw blank i.answers_are; last_is = rw blank i.last_is }

plain_spoken : (means : Meanings) (s mid : State) (n : ℕ) (line : List ℕ) (lines : List (List ℕ)) (a : Answer) (rest answers : List Numbered) (last : State) → is_blank line ≡ false
    → answers ≡ (n, a) ∷ rest → a ≡ (plain_step means s line).answer → mid ≡ after s (plain_step means s line) → IsPlain means mid (n + 1) lines rest last → IsPlain means s n (line ∷ lines) answers last
plain_spoken means s mid n line lines a rest answers last spoken e same there i =
    let P : State → Type 0 = λ m. rest ≡ plain_answers means m (n + 1) lines in
    let Q : State → Type 0 = λ m. last ≡ plain_state means m lines in
    let r : rest ≡ plain_answers means (after s (plain_step means s line)) (n + 1) lines = subst P there i.answers_are in
    let l : last ≡ plain_state means (after s (plain_step means s line)) lines = subst Q there i.last_is in
    record {
      answers_are = rw spoken (e ∙ (ap (λ (b : Answer). (n, b) ∷ rest) same ∙ ap (λ (xs : List Numbered). (n, (plain_step means s line).answer) ∷ xs) r));
      last_is = rw spoken l;
    }

pub is_plain : (means : Meanings) (s : State) (n : ℕ) (lines : List (List ℕ)) (answers : List Numbered) (last : State) → Answered means s n lines answers last
    → count_by tells_keeper answers ≡ 0 → count_by tells_signer answers ≡ 0 → count_by tells_verifier answers ≡ 0 → count_by tells_journal answers ≡ 0 → IsPlain means s n lines answers last
is_plain means s n [] answers last h keeper signer verifier journal = record { answers_are = h.0; last_is = h.1 }
is_plain means s n (line ∷ lines) answers last h keeper signer verifier journal =
    by_line (is_blank line) h
    (λ blank more. plain_blank means s n line lines answers last blank (is_plain means s (n + 1) lines answers last more keeper signer verifier journal))
    λ spoken b.
    let P : List Numbered → Type 0 = λ xs. count_by tells_keeper xs ≡ 0 in
    let Q : List Numbered → Type 0 = λ xs. count_by tells_journal xs ≡ 0 in
    let R : List Numbered → Type 0 = λ xs. count_by tells_signer xs ≡ 0 in
    let V : List Numbered → Type 0 = λ xs. count_by tells_verifier xs ≡ 0 in
    let g = none_of tells_signer (n, b.0) b.1 (subst R (b.3) signer) in
    let v = none_of tells_verifier (n, b.0) b.1 (subst V (b.3) verifier) in
    let k = none_of tells_keeper (n, b.0) b.1 (subst P (b.3) keeper) in
    let j = none_of tells_journal (n, b.0) b.1 (subst Q (b.3) journal) in
    let one = one_plain means s line b.0 b.2 b.4 (answer_outside b.0 k.first g.first v.first j.first) in
    plain_spoken means s b.2 n line lines b.0 b.1 answers last spoken b.3 one.0 one.1 (is_plain means b.2 (n + 1) lines b.1 last b.5 k.rest g.rest v.rest j.rest)

-- ---- counts

pub none_rose : (n before now : ℕ) → RoseBy n before now → (Rose before now → ⊥) → n ≡ 0
none_rose zero before now h none = refl
none_rose (suc m) before now h none = absurd (none (omega (arith, h)))
