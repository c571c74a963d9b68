-- A step over the records that are held.
use Rattle.std.proofs.Common.{◌≡◌, true, false, Bool, IfSome, ℕ, List, [], ◌∷◌, ◌++◌, Option, Some, None, IfOk, Result, Ok, Err, refl, sym, subst, ◌∙◌}
use Rattle.spec_documents.specs.Tree.{Tree}
use Rattle.spec_documents.specs.Reading.{ReadsTo}
use Rattle.n32_values.specs.declared.memory.NoMemory.{NoMemory}
use Rattle.spec_records.specs.Records.{Record}
use Rattle.context_records.specs.Reading.{ReadsRecord, written}
use Rattle.context_store.specs.Stores.{AreRecords, IsFirstBad}
use Rattle.context_store.specs.Changes.{Keeps}
use Rattle.spec_exchange.specs.Outside.{Choice, Reading, Read, ReadFails, BadRecord, with_put}
use Rattle.n32_outside.specs.Causes.{Rose}
use Rattle.spec_script.specs.Events.{line_event}
use Rattle.spec_script.specs.Refusals.{Syntax, OtherNumber, BadEvent, NodeUnknown, NodeExists, WireUnknown, Beyond, KeysTwice, ContextNotFound, BadMessage, DeepBody, BadPolicy, ContextUsed, BadForm, BadReport, OfSending, OfReceiving, OfOutside, SignerFailed, OfHandshake}
use Rattle.spec_exchange.specs.EntryRefusals as entries
use Rattle.spec_exchange.specs.EntryChecks.{Claim, Fails, Verifying, verdict_of}
use Rattle.spec_exchange.specs.AcceptRefusals as receiving
use Rattle.spec_exchange.proofs.EntryLemmas.{FailsAt}
use Rattle.entry_checks.specs.Verifiers.{Meaning, verifying}
use Rattle.spec_script.specs.Choices.{Signing, Signs, SignerFails}
use Rattle.spec_script.specs.Output.{has_refusal, is_signer_refusal, is_verifier_refusal}
use Rattle.replay_world.specs.Outsiders.{OfSigner, Told, Acting, IsMeant, IsVerified, IsActing, Acted, by, line_steps}
use Rattle.spec_handshake.specs.Starts.{Start}
use Rattle.spec_script.specs.Steps as spec
use Rattle.spec_script.specs.Steps.{Answer, Fine, OnWire, Sends, Forwards, Delivers, Reports, Step, Refuses, with_sent, line_step, Opens, OpensAs, EndsTls}
use Rattle.replay_world.specs.Worlds.{sites_view, state_of, TellsRecords, StepsOver, Steps}
use Rattle.replay_world.specs.Stepping.{StepBy, Makes, TellsText, LineComes}
use Rattle.replay_world.specs.declared.world.World.{World}
use Rattle.replay_world.proofs.Unread.{line_same}
use Rattle.replay_world.proofs.Journals.{line_tells, line_signs, line_verifies}

-- ---- texts are of one list of records

one_tree : (b : List ℕ) (t u : Tree) → ReadsTo b t → ReadsTo b u → t ≡ u
one_tree b t u h g = let value : Some h.reading ≡ Some g.reading = sym h.has.value ∙ g.has.value in cc (value, h.tree, g.tree)

one_record : (b : List ℕ) (r q : Record) → ReadsRecord b r → ReadsRecord b q → r ≡ q
one_record b r q h g = let same : h.tree ≡ g.tree = one_tree b h.tree g.tree h.reads g.reads in cc (same, h.is, g.is)

pub are_one : (texts : List (List ℕ)) (rs qs : List Record) → AreRecords texts rs → AreRecords texts qs → rs ≡ qs
are_one [] [] [] h g = refl
are_one [] [] (q ∷ qs) h g = absurd g
are_one [] (r ∷ rs) qs h g = absurd h
are_one (b ∷ bs) [] qs h g = absurd h
are_one (b ∷ bs) (r ∷ rs) [] h g = absurd g
are_one (b ∷ bs) (r ∷ rs) (q ∷ qs) h g = let first = one_record b r q h.0 g.0 in let rest = are_one bs rs qs h.1 g.1 in cc

are_more : (texts : List (List ℕ)) (rs : List Record) (b : List ℕ) (r : Record) → AreRecords texts rs → ReadsRecord b r → AreRecords (texts ++ b ∷ []) (rs ++ r ∷ [])
are_more [] [] b r all one = (one, tt)
are_more [] (q ∷ rs) b r all one = absurd all
are_more (c ∷ texts) [] b r all one = absurd all
are_more (c ∷ texts) (q ∷ rs) b r all one = (all.0, are_more texts rs b r all.1 one)

-- ---- what is held then

pub tells_put : (texts : List (List ℕ)) (now : Option (List (List ℕ))) (records : List Record) (put : Option Record) → AreRecords texts records → Keeps (Some texts) now put → TellsRecords now (with_put records put)
tells_put texts now records None are kept = record { texts = texts; told = kept; are = are }
tells_put texts now records (Some r) are kept = record { texts = texts ++ written r ∷ []; told = kept.0; are = are_more texts records (written r) r are kept.1 }

-- what a step leaves, whichever the records
record Leaves (texts : List (List ℕ)) (now : Option (List (List ℕ))) (before after_ : ℕ) (old new : World) (number : ℕ) (text : List ℕ) (r : Step) : Type 0 where
  pub told : TellsText before after_ number text r.answer
  pub sites : sites_view new.sites ≡ r.sites
  pub sent : new.wire ≡ with_sent old.wire r.sent
  pub starts : new.hands ≡ r.starts
  pub kept : Keeps (Some texts) now r.put

state_is : (new : World) (sites : List spec.Site) (wire : List Tree) (records : List Record) (starts : List Start) → sites_view new.sites ≡ sites → new.wire ≡ wire → new.hands ≡ starts
    → state_of new records ≡ record { sites = sites; wire = wire; records = records; starts = starts }
state_is new sites wire records starts p q t = rw (p, q, t) refl

-- one refusal tells of the signer
signer_alone : (a : Answer) → has_refusal is_signer_refusal a ≡ true → a ≡ Refuses SignerFailed
signer_alone (Fine name) h = cc
signer_alone (OnWire n) h = cc
signer_alone (Sends x n) h = cc
signer_alone (Forwards t n) h = cc
signer_alone (Delivers d) h = cc
signer_alone (Reports r) h = cc
signer_alone (Opens t n id) h = cc
signer_alone (OpensAs id) h = cc
signer_alone EndsTls h = cc
signer_alone (Refuses Syntax) h = cc
signer_alone (Refuses OtherNumber) h = cc
signer_alone (Refuses (BadEvent member)) h = cc
signer_alone (Refuses NodeUnknown) h = cc
signer_alone (Refuses NodeExists) h = cc
signer_alone (Refuses WireUnknown) h = cc
signer_alone (Refuses (Beyond limit)) h = cc
signer_alone (Refuses KeysTwice) h = cc
signer_alone (Refuses ContextNotFound) h = cc
signer_alone (Refuses (BadMessage member)) h = cc
signer_alone (Refuses DeepBody) h = cc
signer_alone (Refuses (BadPolicy mapping)) h = cc
signer_alone (Refuses ContextUsed) h = cc
signer_alone (Refuses (BadForm member)) h = cc
signer_alone (Refuses BadReport) h = cc
signer_alone (Refuses (OfSending refusal)) h = cc
signer_alone (Refuses (OfReceiving refusal report)) h = cc
signer_alone (Refuses (OfOutside fault)) h = cc
signer_alone (Refuses (OfHandshake refusal)) h = cc
signer_alone (Refuses SignerFailed) h = refl

-- a signing that fails is meant only where the count rose
rose_of : (before after_ : OfSigner) (x : Signing) → IsMeant before.algorithm before.meaning before.faults after_.faults x → x ≡ SignerFails → Rose before.faults after_.faults
rose_of before after_ SignerFails meant is = meant
rose_of before after_ (Signs g) meant is = cc

-- one refusal tells of the verifier
record OfVerifier (a : Answer) : Type 0 where
  number : ℕ
  report : Option Tree
  is : a ≡ Refuses (OfReceiving (receiving.OfEntry number entries.VerifierFailed) report)

verifier_alone : (a : Answer) → has_refusal is_verifier_refusal a ≡ true → OfVerifier a
verifier_alone (Fine name) h = cc
verifier_alone (OnWire n) h = cc
verifier_alone (Sends x n) h = cc
verifier_alone (Forwards t n) h = cc
verifier_alone (Delivers d) h = cc
verifier_alone (Reports r) h = cc
verifier_alone (Opens t n id) h = cc
verifier_alone (OpensAs id) h = cc
verifier_alone EndsTls h = cc
verifier_alone (Refuses Syntax) h = cc
verifier_alone (Refuses OtherNumber) h = cc
verifier_alone (Refuses (BadEvent member)) h = cc
verifier_alone (Refuses NodeUnknown) h = cc
verifier_alone (Refuses NodeExists) h = cc
verifier_alone (Refuses WireUnknown) h = cc
verifier_alone (Refuses (Beyond limit)) h = cc
verifier_alone (Refuses KeysTwice) h = cc
verifier_alone (Refuses ContextNotFound) h = cc
verifier_alone (Refuses (BadMessage member)) h = cc
verifier_alone (Refuses DeepBody) h = cc
verifier_alone (Refuses (BadPolicy mapping)) h = cc
verifier_alone (Refuses ContextUsed) h = cc
verifier_alone (Refuses (BadForm member)) h = cc
verifier_alone (Refuses BadReport) h = cc
verifier_alone (Refuses (OfSending refusal)) h = cc
verifier_alone (Refuses (OfReceiving (receiving.Receiving refusal) report)) h = cc
verifier_alone (Refuses (OfReceiving receiving.Unasked report)) h = cc
verifier_alone (Refuses (OfReceiving receiving.Screened report)) h = cc
verifier_alone (Refuses (OfReceiving (receiving.OfEntry number (entries.BadForm member)) report)) h = cc
verifier_alone (Refuses (OfReceiving (receiving.OfEntry number entries.OffRoute) report)) h = cc
verifier_alone (Refuses (OfReceiving (receiving.OfEntry number entries.VerifierFailed) report)) h = record { number = number; report = report; is = refl }
verifier_alone (Refuses (OfReceiving (receiving.OfEntry number entries.BadSignature) report)) h = cc
verifier_alone (Refuses (OfReceiving (receiving.OfEntry number entries.OtherTag) report)) h = cc
verifier_alone (Refuses (OfReceiving (receiving.OfEntry number (entries.NotAllowed op why)) report)) h = cc
verifier_alone (Refuses (OfOutside fault)) h = cc
verifier_alone (Refuses (OfHandshake refusal)) h = cc
verifier_alone (Refuses SignerFailed) h = cc

-- a verifying that fails at an entry is meant only where the count rose
told_or_not : (b : Bool) → verdict_of b ≡ Fails → ⊥
told_or_not true e = cc
told_or_not false e = cc

rose_at : (told : Option Meaning) (said : ℕ → Bool) (failing : Option ℕ) (number : ℕ) (claim : Claim) (P : Type 0) → IfSome failing (λ n. P) → verifying told (record { said = said; failing = failing }) number claim ≡ Fails → P
rose_at told said None number claim P h e = absurd (told_or_not _ e)
rose_at told said (Some n) number claim P h e = h

rose_by : (told : Option Meaning) (before after_ : ℕ) (v : Verifying) (number : ℕ) → IsVerified told before after_ v → FailsAt v number → Rose before after_
rose_by told before after_ v number m f =
    rose_at told m.saying.said m.saying.failing number f.0 (Rose before after_) m.failed (subst (λ (w : Verifying). w number f.0 ≡ Fails) m.is f.1)

steps_from : (texts : List (List ℕ)) (before after_ : Told) (old new : World) (records : List Record) (x : Acting) (f : Choice) (number : ℕ) (line text : List ℕ)
    → IsActing before.others after_.others x
    → AreRecords texts records → Leaves texts after_.held before.keeper_faults after_.keeper_faults old new number text (line_step before.others.screen (state_of old records) (by x f) line) → ((k : ℕ) → f.reading ≡ BadRecord k → IsFirstBad texts k)
    → StepsOver before.others.screen before after_ old new texts records number line text
steps_from texts before after_ old new records x f number line text meant are h bad =
    let r = line_step before.others.screen (state_of old records) (by x f) line in
    record {
      choice = by x f;
      meant = meant;
      text_is = h.told.text_is;
      state_is = state_is new r.sites (with_sent old.wire r.sent) (with_put records r.put) r.starts h.sites h.sent h.starts;
      held_is = tells_put texts after_.held records r.put are h.kept;
      failed = h.told.failed;
      unsigned = λ e. rose_of before.others.signer after_.others.signer x.signer meant.signer (line_signs before.others.screen (state_of old records) (by x f) line (signer_alone r.answer e));
      unverified = λ e. let o = verifier_alone r.answer e in rose_by before.others.verifier.meaning before.others.verifier.faults after_.others.verifier.faults x.verifier o.number meant.verifier (line_verifies before.others.screen (state_of old records) (by x f) line o.number o.report o.is);
      journal = λ k e. bad k (line_tells before.others.screen (state_of old records) (by x f) line k e);
    }

leaves_from : (texts : List (List ℕ)) (now : Option (List (List ℕ))) (before after_ : ℕ) (old new : World) (number : ℕ) (text : List ℕ) (rs : List Record) (r : Step)
    → Makes (TellsText before after_ number text) (Some texts) now old.wire new rs r → Leaves texts now before after_ old new number text r
leaves_from texts now before after_ old new number text rs r h = record { told = h.told; sites = h.sites; sent = h.sent; starts = h.starts; kept = h.change.told }

-- whichever records a step went by, it is one over those that are held
over_held : (texts : List (List ℕ)) (before after_ : Told) (old new : World) (records : List Record) (x : Acting) (number : ℕ) (line text : List ℕ)
    → IsActing before.others after_.others x → AreRecords texts records
    → StepBy (line_steps before.others.screen x line) (Some texts) old (Makes (TellsText before.keeper_faults after_.keeper_faults number text) (Some texts) after_.held old.wire new) → StepsOver before.others.screen before after_ old new texts records number line text
over_held texts before after_ old new records x number line text meant are h = by_reading h.choice.reading refl
  where
    unread : (h.choice.reading ≡ Read → ⊥) → StepsOver before.others.screen before after_ old new texts records number line text
    unread not_read =
        let same = line_same (sites_view old.sites) old.wire old.hands h.records records before.others.screen (by x h.choice) not_read (line_event line) in
        steps_from texts before after_ old new records x h.choice number line text meant are
        (subst (λ (r : Step). Leaves texts after_.held before.keeper_faults after_.keeper_faults old new number text r) same.is (leaves_from texts after_.held before.keeper_faults after_.keeper_faults old new number text h.records (line_step before.others.screen (state_of old h.records) (by x h.choice) line) h.leaves))
        h.chosen.bad

    by_reading : (reading : Reading) → h.choice.reading ≡ reading → StepsOver before.others.screen before after_ old new texts records number line text
    by_reading Read e =
        let same : h.records ≡ records = are_one texts h.records records (h.chosen.read e) are in
        steps_from texts before after_ old new records x h.choice number line text meant are
        (subst (λ (rs : List Record). Leaves texts after_.held before.keeper_faults after_.keeper_faults old new number text (line_step before.others.screen (state_of old rs) (by x h.choice) line)) same (leaves_from texts after_.held before.keeper_faults after_.keeper_faults old new number text h.records (line_step before.others.screen (state_of old h.records) (by x h.choice) line) h.leaves))
        h.chosen.bad
    by_reading ReadFails e = unread (λ r. cc)
    by_reading (BadRecord n) e = unread (λ r. cc)

steps_held : (held : Option (List (List ℕ))) (before after_ : Told) (old new : World) (x : Acting) (number : ℕ) (line : List ℕ) (result : Result (List ℕ) NoMemory)
    → IsActing before.others after_.others x
    → LineComes before.others.screen x held after_.held before.keeper_faults after_.keeper_faults old new number line result
    → IfOk result (λ text. IfSome held (λ texts. (records : List Record) → AreRecords texts records → StepsOver before.others.screen before after_ old new texts records number line text))
steps_held None before after_ old new x number line (Ok text) meant h = tt
steps_held None before after_ old new x number line (Err e) meant h = tt
steps_held (Some texts) before after_ old new x number line (Ok text) meant h = λ records are. over_held texts before after_ old new records x number line text meant are h
steps_held (Some texts) before after_ old new x number line (Err e) meant h = tt

pub steps_told : (before after_ : Told) (old new : World) (number : ℕ) (line : List ℕ) (result : Result (List ℕ) NoMemory)
    → Acted before.others after_.others (λ x. LineComes before.others.screen x before.held after_.held before.keeper_faults after_.keeper_faults old new number line result)
    → IfOk result (λ text. Steps before after_ old new number line text)
steps_told before after_ old new number line result h = steps_held before.held before after_ old new h.acting number line result h.meant h.holds
