-- What a reply comes to, from the start that waits for it.
use Rattle.std.proofs.Common.{◌≡◌, ℕ, zero, suc, ◌<◌, Bool, true, false, not, List, [], ◌∷◌, length, slice_get, find, Option, None, Some, Result, Ok, Err, refl, sym, ap, ◌∙◌, arith, bytes_eq}
use Rattle.std.proofs.lemmas.Bool.{and_parts}
use Rattle.std.proofs.lemmas.Slice.Eq.{bytes_eq-Decides}
use Rattle.spec_documents.specs.Chain.{◌>>=◌, unless, none_of}
use Rattle.spec_documents.specs.Gives.{Tells}
use Rattle.spec_messages.specs.Message.{wanted}
use Rattle.spec_records.specs.Records.{Record}
use Rattle.context_store.specs.declared.call_faults.CheckFault.{CheckFault}
use Rattle.context_store.specs.declared.call_faults.CheckFault.TheVariants as checking
use Rattle.spec_handshake.specs.Documents.{Capability, Selection, Chooses, Selects}
use Rattle.spec_handshake.specs.Differences.{Difference, difference}
use Rattle.spec_handshake.specs.Refusals.{Refusal, NotExpected, NoCommonCapability, NoCommonSuite, PolicyDiffers, ends_start}
use Rattle.spec_handshake.specs.Starts.{Start, Waiting, ForChoice, ForSelection, waits, without_first}
use Rattle.spec_handshake.specs.Calls.{has_capability, has_suite, room_for_record, Finished, OpenedAs, after_choice, context_finishing, finishes_with}
use Rattle.spec_handshake.proofs.StartLemmas.{found-in}
use Rattle.n32c_handshake.specs.declared.refusal.HandRefusal.{HandRefusal}
use Rattle.n32c_handshake.specs.Faults.{refusal_view, told}
use Rattle.n32c_handshake.specs.Outcome.{if_room}
use Rattle.n32c_handshake.specs.Progress.{accepted, left}
use Rattle.n32c_handshake.specs.Waiting.{IsFirst}

-- ---- the start at a place

pub same_some : {A : Type 0} (x y : A) → Some x ≡ Some y → x ≡ y
same_some x y e = cc

got_within : {A : Type 0} (xs : List A) (i : ℕ) (x : A) → slice_get xs i ≡ Some x → i < length xs
got_within [] i x e = cc
got_within (y ∷ ys) zero x e = omega arith
got_within (y ∷ ys) (suc i) x e = let lt = got_within ys i x e in omega (arith, lt)

pub first_within : (p : Start → Bool) (starts : List Start) (i : ℕ) → IsFirst p starts i → i < length starts
first_within p starts i h = got_within starts i h.start h.there

pub found_at : (p : Start → Bool) (starts : List Start) (i : ℕ) (s : Start) → IsFirst p starts i → slice_get starts i ≡ Some s → find p starts ≡ Some s
found_at p starts i s h there = h.found ∙ (sym h.there ∙ there)

-- a start that waits for a document of the node is of the node
pub found_node : (node : List ℕ) (call : ℕ) (sender : List ℕ) (w : Waiting) (starts : List Start) (s : Start) → find (waits node call sender w) starts ≡ Some s → s.node ≡ node
found_node node call sender w starts s is = (bytes_eq-Decides s.node node).0 (and_parts (bytes_eq s.node node) _ (found-in (waits node call sender w) starts s is).1).0

-- ---- a choice

abbrev choosing_from : (node plmn : List ℕ) → Capability → Option Start → Result Finished Refusal
choosing_from node plmn c o = do
  s ← wanted o NotExpected
  _ ← unless (not (has_capability s.offer.capabilities c)) NoCommonCapability
  Ok (after_choice node plmn s.offer c)

chosen_by : (node plmn : List ℕ) (c : Capability) (s : Start) → has_capability s.offer.capabilities c ≡ true → choosing_from node plmn c (Some s) ≡ Ok (after_choice node plmn s.offer c)
unfolding ◌>>=◌
chosen_by node plmn c s has = rw has refl

pub chosen_at : (records : List Record) (starts : List Start) (node plmn : List ℕ) (call : ℕ) (sender : List ℕ) (c : Capability) (s : Start) → find (waits node call sender ForChoice) starts ≡ Some s → has_capability s.offer.capabilities c ≡ true
    → finishes_with records starts node plmn (Chooses call sender c) ≡ Ok (after_choice node plmn s.offer c)
chosen_at records starts node plmn call sender c s is has = ap (choosing_from node plmn c) is ∙ chosen_by node plmn c s has

-- ---- the comparison of a selection

pub suite_refused : (s : Start) (b : Selection) → has_suite s.offer.suites b.suite ≡ false → accepted s b ≡ Err NoCommonSuite
unfolding ◌>>=◌
suite_refused s b e = rw e refl

pub suite_taken : (s : Start) (b : Selection) → has_suite s.offer.suites b.suite ≡ true → accepted s b ≡ none_of PolicyDiffers (difference s.offer.policy b.policy)
unfolding ◌>>=◌
suite_taken s b e = rw e refl

abbrev compared : Bool → Option Difference → Result (Unit {0}) Refusal
compared has d = do
  _ ← unless (not has) NoCommonSuite
  none_of PolicyDiffers d

abbrev compared_then : {T : Type 0} → Bool → Option Difference → Result T Refusal → Result T Refusal
compared_then has d rest = do
  _ ← unless (not has) NoCommonSuite
  _ ← none_of PolicyDiffers d
  rest

then_rest : {T : Type 0} (has : Bool) (d : Option Difference) (rest : Result T Refusal) → compared has d ≡ Ok tt → compared_then has d rest ≡ rest
unfolding ◌>>=◌
then_rest true None rest e = refl
then_rest true (Some x) rest e = cc
then_rest false d rest e = cc

then_refused : {T : Type 0} (has : Bool) (d : Option Difference) (rest : Result T Refusal) (why : Refusal) → compared has d ≡ Err why → compared_then has d rest ≡ Err why
unfolding ◌>>=◌
then_refused true None rest why e = cc
then_refused true (Some x) rest why e = let same : PolicyDiffers x ≡ why = cc in ap Err same
then_refused false d rest why e = let same : NoCommonSuite ≡ why = cc in ap Err same

-- what a selection is refused for ends the start
ends_by : (has : Bool) (d : Option Difference) (why : Refusal) → compared has d ≡ Err why → ends_start why ≡ true
unfolding ◌>>=◌
ends_by true None why e = cc
ends_by true (Some x) why e = let same : PolicyDiffers x ≡ why = cc in ap ends_start (sym same)
ends_by false d why e = let same : NoCommonSuite ≡ why = cc in ap ends_start (sym same)

-- ---- a selection

abbrev selecting_from : List Record → List ℕ → Selection → Option Start → Result Finished Refusal
selecting_from records node b o = do
  s ← wanted o NotExpected
  _ ← unless (not (has_suite s.offer.suites b.suite)) NoCommonSuite
  _ ← none_of PolicyDiffers (difference s.offer.policy b.policy)
  _ ← room_for_record records
  Ok (OpenedAs (context_finishing node s.offer b))

pub selected_at : (records : List Record) (starts : List Start) (node plmn : List ℕ) (b : Selection) (s : Start) → find (waits node b.call b.sender ForSelection) starts ≡ Some s → accepted s b ≡ Ok tt
    → finishes_with records starts node plmn (Selects b) ≡ if_room records (OpenedAs (context_finishing node s.offer b))
unfolding ◌>>=◌
selected_at records starts node plmn b s is ok = ap (selecting_from records node b) is ∙ then_rest (has_suite s.offer.suites b.suite) (difference s.offer.policy b.policy) (if_room records (OpenedAs (context_finishing node s.offer b))) ok

refused_at : (records : List Record) (starts : List Start) (node plmn : List ℕ) (b : Selection) (s : Start) (why : Refusal) → find (waits node b.call b.sender ForSelection) starts ≡ Some s → accepted s b ≡ Err why
    → finishes_with records starts node plmn (Selects b) ≡ Err why
unfolding ◌>>=◌
refused_at records starts node plmn b s why is e = ap (selecting_from records node b) is ∙ then_refused (has_suite s.offer.suites b.suite) (difference s.offer.policy b.policy) (if_room records (OpenedAs (context_finishing node s.offer b))) why e

pub told_at : (records : List Record) (starts : List Start) (node plmn : List ℕ) (b : Selection) (s : Start) (why : Option Refusal) → find (waits node b.call b.sender ForSelection) starts ≡ Some s → Tells why (accepted s b)
    → Tells why (finishes_with records starts node plmn (Selects b))
told_at records starts node plmn b s None is e = tt
told_at records starts node plmn b s (Some why) is e = refused_at records starts node plmn b s why is e

-- ---- the starts after a selection is refused

gone : (p : Start → Bool) (starts : List Start) (s : Start) (b : Selection) (why : Refusal) → accepted s b ≡ Err why → left p starts (Some why) ≡ without_first p starts
gone p starts s b why e = rw (ends_by (has_suite s.offer.suites b.suite) (difference s.offer.policy b.policy) why e) refl

pub left_told : (p : Start → Bool) (starts : List Start) (s : Start) (b : Selection) (fault : CheckFault HandRefusal) → (fault ≡ checking.NoMemory → ⊥) → Tells (told fault) (accepted s b) → left p starts (told fault) ≡ without_first p starts
left_told p starts s b (checking.Refused e) wanting is = gone p starts s b (refusal_view e) is
left_told p starts s b checking.NoMemory wanting is = absurd (wanting refl)
