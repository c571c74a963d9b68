-- The steps of events, once some of their checks are made.
use Rattle.std.proofs.Common.{◌≡◌, ℕ, ℤ, List, Bool, true, false, is_some, length, Option, Some, None, Result, Ok, Err, refl, sym, ap, subst, ◌∙◌, ◌<◌, ◌≤◌, IsTrue}
use Rattle.std.specs.Prelude.{not, codes}
use Rattle.std.proofs.lemmas.Bool.{lt-leb, le-leb}
use Rattle.spec_documents.specs.Tree.{Tree}
use Rattle.spec_messages.specs.Message.{Message, wanted}
use Rattle.spec_messages.specs.Policy.{Policy}
use Rattle.spec_records.specs.Records.{KeySet, Context, Record, Opened, Keyed, record_limit, used, open_context, keys, keys_fit}
use Rattle.spec_records.specs.RecordDocument.{is_well_named}
use Rattle.spec_exchange.specs.Chain.{◌>>=◌, unless, or_refused}
use Rattle.spec_messages.specs.Limits.{full_wire, many_records}
use Rattle.spec_exchange.specs.Outside.{Choice, Read}
use Rattle.spec_exchange.specs.Calls.{Outgoing, sends, accepted}
use Rattle.spec_exchange.specs.Screens.{Passes}
use Rattle.spec_documents.specs.Patch.{Op}
use Rattle.spec_sealing.specs.Received.{Received}
use Rattle.spec_sealing.specs.Passing.{with_room, passed}
use Rattle.spec_reports.specs.Report.{Report}
use Rattle.spec_reports.specs.Document.{NoReport, report_in}
use Rattle.spec_script.specs.Choices.{Signer, Signing, Signs, SignerFails, Choices}
use Rattle.spec_script.specs.Altering.{altered}
use Rattle.spec_script.specs.Refusals.{Refusal, NodeUnknown, NodeExists, WireUnknown, Beyond, KeysTwice, ContextNotFound, BadEvent, BadForm, BadReport, ContextUsed, SignerFailed}
use Rattle.spec_script.specs.Events.{HandedContext, AddNode, AddContext, AddKeys, Send, Pass, Inject, Alter, Deliver, Restart, Reported}
use Rattle.spec_script.specs.Steps.{State, Step, refuses, or_refuses, adds_node, restarts, injects, forwards, reports, delivers, sends_sealed, plmn_at, wire_at, known_node, known_document, new_node, is_full, room_on_wire, message_to_send, passes_on, policy_to_hold, has_read, room_for_record, context_with, opens, keys_up, puts, step}
use Rattle.replay_world.specs.Fitting.{IsFit}
use Rattle.replay_world.specs.Handing.{context_to_open, keys_may_come, opens_new, keys_new, puts_record}

-- ---- checks

there : {A E : Type 0} (o : Option A) (e : E) → is_some o ≡ true → (x : A) × (wanted o e ≡ Ok x)
there None e h = cc
there (Some x) e h = (x, refl)

missing : {A E : Type 0} (o : Option A) (e : E) → is_some o ≡ false → wanted o e ≡ Err e
missing None e h = refl
missing (Some x) e h = cc

bind_ok : {A B E : Type 0} (r : Result A E) (x : A) (k : A → Result B E) → r ≡ Ok x → (r >>= k) ≡ k x
unfolding ◌>>=◌
bind_ok r x k h = rw h refl

bind_err : {A B E : Type 0} (r : Result A E) (e : E) (k : A → Result B E) → r ≡ Err e → (r >>= k) ≡ Err e
unfolding ◌>>=◌
bind_err r e k h = rw h refl

-- what follows the check of a node that is known
known : (s : State) (node : List ℕ) (k : Result Step Refusal) → is_some (plmn_at s.sites node) ≡ true → or_refuses s (known_node s node >>= λ plmn. k) ≡ or_refuses s k
known s node k h = let found = there (plmn_at s.sites node) NodeUnknown h in ap (or_refuses s) (bind_ok (known_node s node) found.0 (λ plmn. k) found.1)

unknown : (s : State) (node : List ℕ) (k : Result Step Refusal) → is_some (plmn_at s.sites node) ≡ false → or_refuses s (known_node s node >>= λ plmn. k) ≡ refuses s NodeUnknown
unknown s node k h = ap (or_refuses s) (bind_err (known_node s node) NodeUnknown (λ plmn. k) (missing (plmn_at s.sites node) NodeUnknown h))

-- ---- nodes

pub node_exists : (passes : Passes) (s : State) (f : Choices) (node plmn : List ℕ) → is_some (plmn_at s.sites node) ≡ true → step passes s f (AddNode node plmn) ≡ refuses s NodeExists
node_exists passes s f node plmn h = ap (or_refuses s) (bind_err (new_node s node) NodeExists (λ new. Ok (adds_node s node plmn)) (ap (λ (b : Bool). unless b NodeExists) h))

pub node_is_new : (passes : Passes) (s : State) (f : Choices) (node plmn : List ℕ) → is_some (plmn_at s.sites node) ≡ false → step passes s f (AddNode node plmn) ≡ adds_node s node plmn
node_is_new passes s f node plmn h = ap (or_refuses s) (bind_ok (new_node s node) tt (λ new. Ok (adds_node s node plmn)) (ap (λ (b : Bool). unless b NodeExists) h))

-- ---- the node of an event is unknown

pub unknown_context : (passes : Passes) (s : State) (f : Choices) (x : HandedContext) → is_some (plmn_at s.sites x.node) ≡ false → step passes s f (AddContext x) ≡ refuses s NodeUnknown
unknown_context passes s f x h = unknown s x.node _ h

pub unknown_keys : (passes : Passes) (s : State) (f : Choices) (node : List ℕ) (id : ℕ) (set : KeySet) → is_some (plmn_at s.sites node) ≡ false → step passes s f (AddKeys node id set) ≡ refuses s NodeUnknown
unknown_keys passes s f node id set h = unknown s node _ h

pub unknown_sender : (passes : Passes) (s : State) (f : Choices) (node : List ℕ) (id : ℕ) (t : Tree) (answers : Option ℕ) → is_some (plmn_at s.sites node) ≡ false → step passes s f (Send node id t answers) ≡ refuses s NodeUnknown
unknown_sender passes s f node id t answers h = unknown s node _ h

pub unknown_receiver : (passes : Passes) (s : State) (f : Choices) (node : List ℕ) (wire : ℤ) → is_some (plmn_at s.sites node) ≡ false → step passes s f (Deliver node wire) ≡ refuses s NodeUnknown
unknown_receiver passes s f node wire h = unknown s node _ h

pub unknown_restart : (passes : Passes) (s : State) (f : Choices) (node : List ℕ) → is_some (plmn_at s.sites node) ≡ false → step passes s f (Restart node) ≡ refuses s NodeUnknown
unknown_restart passes s f node h = unknown s node _ h

pub restarts_node : (passes : Passes) (s : State) (f : Choices) (node : List ℕ) → is_some (plmn_at s.sites node) ≡ true → step passes s f (Restart node) ≡ restarts s node
restarts_node passes s f node h = known s node _ h

pub unknown_reported : (passes : Passes) (s : State) (f : Choices) (node : List ℕ) (t : Tree) → is_some (plmn_at s.sites node) ≡ false → step passes s f (Reported node t) ≡ refuses s NodeUnknown
unknown_reported passes s f node t h = unknown s node _ h

-- ---- documents

-- what follows the look-up of a document
found_at : (s : State) (wire : ℤ) (t : Tree) (k : Tree → Result Step Refusal) → wire_at s.wire wire ≡ Some t → or_refuses s (known_document s wire >>= k) ≡ or_refuses s (k t)
found_at s wire t k found = ap (or_refuses s) (bind_ok (known_document s wire) t k (ap (λ (o : Option Tree). wanted o WireUnknown) found))

none_at : (s : State) (wire : ℤ) (k : Tree → Result Step Refusal) → wire_at s.wire wire ≡ None → or_refuses s (known_document s wire >>= k) ≡ refuses s WireUnknown
none_at s wire k none = ap (or_refuses s) (bind_err (known_document s wire) WireUnknown k (ap (λ (o : Option Tree). wanted o WireUnknown) none))

-- and the check of the wire's room
goes_on : (s : State) (k : Result Step Refusal) → is_full s.wire ≡ false → or_refuses s (room_on_wire s >>= λ room. k) ≡ or_refuses s k
goes_on s k h = ap (or_refuses s) (bind_ok (room_on_wire s) tt (λ room. k) (ap (λ (b : Bool). unless b (Beyond full_wire)) h))

stops : (s : State) (k : Result Step Refusal) → is_full s.wire ≡ true → or_refuses s (room_on_wire s >>= λ room. k) ≡ refuses s (Beyond full_wire)
stops s k h = ap (or_refuses s) (bind_err (room_on_wire s) (Beyond full_wire) (λ room. k) (ap (λ (b : Bool). unless b (Beyond full_wire)) h))

-- delivering
pub no_document : (passes : Passes) (s : State) (f : Choices) (node : List ℕ) (wire : ℤ) → is_some (plmn_at s.sites node) ≡ true → wire_at s.wire wire ≡ None → step passes s f (Deliver node wire) ≡ refuses s WireUnknown
no_document passes s f node wire h none = known s node _ h ∙ none_at s wire _ none

pub delivers_document : (passes : Passes) (s : State) (f : Choices) (node : List ℕ) (wire : ℤ) (t : Tree) → is_some (plmn_at s.sites node) ≡ true → wire_at s.wire wire ≡ Some t → step passes s f (Deliver node wire) ≡ delivers s t (accepted passes (record { keeper = f.keeper; verifier = f.verifier }) s.records node t)
delivers_document passes s f node wire t h found = known s node _ h ∙ found_at s wire t _ found

-- sending
pub sender_full : (passes : Passes) (s : State) (f : Choices) (node : List ℕ) (id : ℕ) (t : Tree) (answers : Option ℕ) → is_some (plmn_at s.sites node) ≡ true → is_full s.wire ≡ true → step passes s f (Send node id t answers) ≡ refuses s (Beyond full_wire)
sender_full passes s f node id t answers h full = known s node _ h ∙ stops s _ full

pub no_message : (passes : Passes) (s : State) (f : Choices) (node : List ℕ) (id : ℕ) (t : Tree) (answers : Option ℕ) (e : Refusal) → is_some (plmn_at s.sites node) ≡ true → is_full s.wire ≡ false → message_to_send t answers ≡ Err e → step passes s f (Send node id t answers) ≡ refuses s e
no_message passes s f node id t answers e h room bad =
    known s node _ h ∙ (goes_on s _ room ∙ ap (or_refuses s) (bind_err (message_to_send t answers) e (λ m. Ok (sends_sealed s (sends f.keeper s.records node id m.0 m.1))) bad))

pub sends_message : (passes : Passes) (s : State) (f : Choices) (node : List ℕ) (id : ℕ) (t : Tree) (answers : Option ℕ) (o : Outgoing) (m : Message) → is_some (plmn_at s.sites node) ≡ true → is_full s.wire ≡ false → message_to_send t answers ≡ Ok (o, m) → step passes s f (Send node id t answers) ≡ sends_sealed s (sends f.keeper s.records node id o m)
sends_message passes s f node id t answers o m h room good =
    known s node _ h ∙ (goes_on s _ room ∙ ap (or_refuses s) (bind_ok (message_to_send t answers) (o, m) (λ m. Ok (sends_sealed s (sends f.keeper s.records node id m.0 m.1))) good))

-- putting on the wire
pub given_full : (passes : Passes) (s : State) (f : Choices) (t : Tree) → is_full s.wire ≡ true → step passes s f (Inject t) ≡ refuses s (Beyond full_wire)
given_full passes s f t full = stops s _ full

pub given_goes_on : (passes : Passes) (s : State) (f : Choices) (t : Tree) → is_full s.wire ≡ false → step passes s f (Inject t) ≡ injects s t
given_goes_on passes s f t room = goes_on s _ room

-- altering
pub altered_none : (passes : Passes) (s : State) (f : Choices) (wire : ℤ) (ops : List Op) → wire_at s.wire wire ≡ None → step passes s f (Alter wire ops) ≡ refuses s WireUnknown
altered_none passes s f wire ops none = none_at s wire _ none

pub altered_full : (passes : Passes) (s : State) (f : Choices) (wire : ℤ) (ops : List Op) (t : Tree) → wire_at s.wire wire ≡ Some t → is_full s.wire ≡ true → step passes s f (Alter wire ops) ≡ refuses s (Beyond full_wire)
altered_full passes s f wire ops t found full = found_at s wire t _ found ∙ stops s _ full

pub altered_refused : (passes : Passes) (s : State) (f : Choices) (wire : ℤ) (ops : List Op) (t : Tree) (e : Refusal) → wire_at s.wire wire ≡ Some t → is_full s.wire ≡ false → altered ops t ≡ Err e → step passes s f (Alter wire ops) ≡ refuses s e
altered_refused passes s f wire ops t e found room bad = found_at s wire t _ found ∙ (goes_on s _ room ∙ ap (or_refuses s) (bind_err (altered ops t) e (λ u. Ok (forwards s u)) bad))

pub altered_goes_on : (passes : Passes) (s : State) (f : Choices) (wire : ℤ) (ops : List Op) (t u : Tree) → wire_at s.wire wire ≡ Some t → is_full s.wire ≡ false → altered ops t ≡ Ok u → step passes s f (Alter wire ops) ≡ forwards s u
altered_goes_on passes s f wire ops t u found room good = found_at s wire t _ found ∙ (goes_on s _ room ∙ ap (or_refuses s) (bind_ok (altered ops t) u (λ u. Ok (forwards s u)) good))

-- passing on
pub passed_none : (passes : Passes) (s : State) (f : Choices) (ipx : List ℕ) (wire : ℤ) (operations : Tree) → wire_at s.wire wire ≡ None → step passes s f (Pass ipx wire operations) ≡ refuses s WireUnknown
passed_none passes s f ipx wire operations none = none_at s wire _ none

pub passed_full : (passes : Passes) (s : State) (f : Choices) (ipx : List ℕ) (wire : ℤ) (operations t : Tree) → wire_at s.wire wire ≡ Some t → is_full s.wire ≡ true → step passes s f (Pass ipx wire operations) ≡ refuses s (Beyond full_wire)
passed_full passes s f ipx wire operations t found full = found_at s wire t _ found ∙ stops s _ full

passes_by : (passes : Passes) (s : State) (f : Choices) (ipx : List ℕ) (wire : ℤ) (operations t : Tree) → wire_at s.wire wire ≡ Some t → is_full s.wire ≡ false → step passes s f (Pass ipx wire operations) ≡ or_refuses s (passes_on s f.signer ipx operations t)
passes_by passes s f ipx wire operations t found room = found_at s wire t _ found ∙ goes_on s _ room

pub passed_goes_on : (passes : Passes) (s : State) (f : Choices) (ipx : List ℕ) (wire : ℤ) (operations t d : Tree) (g : Signer) → f.signer ≡ Signs g → wire_at s.wire wire ≡ Some t → is_full s.wire ≡ false → passed g.algorithm ipx operations (g.sign ipx) t ≡ Ok d → step passes s f (Pass ipx wire operations) ≡ forwards s d
passed_goes_on passes s f ipx wire operations t d g signs found room good =
    passes_by passes s f ipx wire operations t found room ∙ (ap (λ (x : Signing). or_refuses s (passes_on s x ipx operations t)) signs
    ∙ ap (or_refuses s) (bind_ok (or_refused BadForm (passed g.algorithm ipx operations (g.sign ipx) t)) d (λ d. Ok (forwards s d)) (ap (or_refused BadForm) good)))

pub passed_refused : (passes : Passes) (s : State) (f : Choices) (ipx : List ℕ) (wire : ℤ) (operations t : Tree) (k : List ℕ) (g : Signer) → f.signer ≡ Signs g → wire_at s.wire wire ≡ Some t → is_full s.wire ≡ false → passed g.algorithm ipx operations (g.sign ipx) t ≡ Err k → step passes s f (Pass ipx wire operations) ≡ refuses s (BadForm k)
passed_refused passes s f ipx wire operations t k g signs found room bad =
    passes_by passes s f ipx wire operations t found room ∙ (ap (λ (x : Signing). or_refuses s (passes_on s x ipx operations t)) signs
    ∙ ap (or_refuses s) (bind_err (or_refused BadForm (passed g.algorithm ipx operations (g.sign ipx) t)) (BadForm k) (λ d. Ok (forwards s d)) (ap (or_refused BadForm) bad)))

pub passed_unsigned : (passes : Passes) (s : State) (f : Choices) (ipx : List ℕ) (wire : ℤ) (operations t : Tree) (parts : Received) → f.signer ≡ SignerFails → wire_at s.wire wire ≡ Some t → is_full s.wire ≡ false → with_room t ≡ Ok parts → step passes s f (Pass ipx wire operations) ≡ refuses s SignerFailed
passed_unsigned passes s f ipx wire operations t parts fails found room good =
    passes_by passes s f ipx wire operations t found room ∙ (ap (λ (x : Signing). or_refuses s (passes_on s x ipx operations t)) fails
    ∙ ap (or_refuses s) (bind_ok (or_refused BadForm (with_room t)) parts (λ parts. Err SignerFailed) (ap (or_refused BadForm) good)))

-- reports
pub no_report_told : (passes : Passes) (s : State) (f : Choices) (node : List ℕ) (t : Tree) (e : NoReport) → is_some (plmn_at s.sites node) ≡ true → report_in t ≡ Err e → step passes s f (Reported node t) ≡ refuses s BadReport
no_report_told passes s f node t e h bad = known s node _ h ∙ ap (or_refuses s) (bind_err (or_refused (λ none. BadReport) (report_in t)) BadReport (λ r. Ok (reports s r)) (ap (or_refused (λ none. BadReport)) bad))

pub report_told : (passes : Passes) (s : State) (f : Choices) (node : List ℕ) (t : Tree) (r : Report) → is_some (plmn_at s.sites node) ≡ true → report_in t ≡ Ok r → step passes s f (Reported node t) ≡ reports s r
report_told passes s f node t r h good = known s node _ h ∙ ap (or_refuses s) (bind_ok (or_refused (λ none. BadReport) (report_in t)) r (λ r. Ok (reports s r)) (ap (or_refused (λ none. BadReport)) good))

-- ---- contexts and keys

bind_bind : {A B C E : Type 0} (r : Result A E) (k : A → Result B E) (l : B → Result C E) → ((r >>= k) >>= l) ≡ (r >>= λ x. k x >>= l)
unfolding ◌>>=◌
bind_bind (Ok x) k l = refl
bind_bind (Err e) k l = refl

pub no_context : (passes : Passes) (s : State) (f : Choices) (x : HandedContext) (e : Refusal) → is_some (plmn_at s.sites x.node) ≡ true → context_to_open x ≡ Err e → step passes s f (AddContext x) ≡ refuses s e
unfolding ◌>>=◌
no_context passes s f x e h bad =
    known s x.node _ h ∙ ap (or_refuses s) (sym (bind_bind (policy_to_hold x.policy) (λ policy. Ok (context_with x policy)) (λ y. opens s f.keeper y)) ∙ bind_err (context_to_open x) e (λ y. opens s f.keeper y) bad)

pub opens_context : (passes : Passes) (s : State) (f : Choices) (x : HandedContext) (y : Context) → is_some (plmn_at s.sites x.node) ≡ true → context_to_open x ≡ Ok y → step passes s f (AddContext x) ≡ or_refuses s (opens s f.keeper y)
unfolding ◌>>=◌
opens_context passes s f x y h good =
    known s x.node _ h ∙ ap (or_refuses s) (sym (bind_bind (policy_to_hold x.policy) (λ policy. Ok (context_with x policy)) (λ y. opens s f.keeper y)) ∙ bind_ok (context_to_open x) y (λ y. opens s f.keeper y) good)

pub takes_keys : (passes : Passes) (s : State) (f : Choices) (node : List ℕ) (id : ℕ) (set : KeySet) → is_some (plmn_at s.sites node) ≡ true → step passes s f (AddKeys node id set) ≡ or_refuses s (keys_up s f.keeper node id set)
takes_keys passes s f node id set h = known s node _ h

-- what follows the reading of the store
abbrev pub opens_rest : Context → State → Choice → Result Step Refusal
opens_rest x s f = unless (used x.node x.id s.records) ContextUsed >>= λ _. room_for_record s >>= λ _. Ok (puts s f.putting (codes "context") (Opened x))

abbrev pub keys_rest : (node : List ℕ) → (id : ℕ) → KeySet → State → Choice → Result Step Refusal
keys_rest node id set s f =
    wanted (open_context node id s.records) ContextNotFound >>= λ x.
    unless (is_some (keys node id s.records)) KeysTwice >>= λ _.
    unless (not (keys_fit x.suite set)) (BadEvent (codes "key")) >>= λ _.
    room_for_record s >>= λ _.
    Ok (puts s f.putting (codes "keys") (Keyed node id set))

read_on : {A : Type 0} (s : State) (f : Choice) (k : Unit {0} → Result A Refusal) → f.reading ≡ Read → (has_read f.reading >>= k) ≡ k tt
read_on s f k h = bind_ok (has_read f.reading) tt k (ap has_read h)

pub opens_read : (s : State) (f : Choice) (x : Context) → f.reading ≡ Read → or_refuses s (opens s f x) ≡ opens_new x s f
opens_read s f x h = ap (or_refuses s) (read_on s f _ h)

chain_apart : (r : Result Context Refusal) (a : Result (Unit {0}) Refusal) (b : Context → Result (Unit {0}) Refusal) (k : Result Step Refusal) → (r >>= λ x. a >>= λ y. b x >>= λ z. k) ≡ ((r >>= λ x. a >>= λ y. b x) >>= λ z. k)
unfolding ◌>>=◌
chain_apart (Err e) a b k = refl
chain_apart (Ok x) (Err e) b k = refl
chain_apart (Ok x) (Ok y) b k = refl

pub keys_read : (s : State) (f : Choice) (node : List ℕ) (id : ℕ) (set : KeySet) → f.reading ≡ Read → or_refuses s (keys_up s f node id set) ≡ keys_new node id set s f
keys_read s f node id set h = ap (or_refuses s) (read_on s f _ h ∙ chain_apart _ _ _ _)

-- an id that is used, and one that is not
pub id_is_used : (s : State) (f : Choice) (x : Context) → used x.node x.id s.records ≡ true → opens_new x s f ≡ refuses s ContextUsed
id_is_used s f x h = ap (or_refuses s) (bind_err (unless (used x.node x.id s.records) ContextUsed) ContextUsed _ (ap (λ (b : Bool). unless b ContextUsed) h))

pub id_is_new : (s : State) (f : Choice) (x : Context) → used x.node x.id s.records ≡ false → opens_new x s f ≡ puts_record (codes "context") (Opened x) s f
id_is_new s f x h = ap (or_refuses s) (bind_ok (unless (used x.node x.id s.records) ContextUsed) tt _ (ap (λ (b : Bool). unless b ContextUsed) h))

pub no_keys : (s : State) (f : Choice) (node : List ℕ) (id : ℕ) (set : KeySet) (e : Refusal) → keys_may_come s.records node id set ≡ Err e → keys_new node id set s f ≡ refuses s e
no_keys s f node id set e h = ap (or_refuses s) (bind_err (keys_may_come s.records node id set) e _ h)

pub records_keys : (s : State) (f : Choice) (node : List ℕ) (id : ℕ) (set : KeySet) → keys_may_come s.records node id set ≡ Ok tt → keys_new node id set s f ≡ puts_record (codes "keys") (Keyed node id set) s f
records_keys s f node id set h = ap (or_refuses s) (bind_ok (keys_may_come s.records node id set) tt _ h)

-- room for a record
pub no_room : (s : State) (f : Choice) (name : List ℕ) (r : Record) → record_limit ≤ length s.records → puts_record name r s f ≡ refuses s (Beyond many_records)
no_room s f name r h = ap (or_refuses s) (bind_err (room_for_record s) (Beyond many_records) _ (ap (λ (b : Bool). unless b (Beyond many_records)) (le-leb record_limit (length s.records) h)))

pub has_room : (s : State) (f : Choice) (name : List ℕ) (r : Record) → length s.records < record_limit → puts_record name r s f ≡ puts s f.putting name r
has_room s f name r h = ap (or_refuses s) (bind_ok (room_for_record s) tt _ (ap (λ (b : Bool). unless b (Beyond many_records)) (lt-leb record_limit (length s.records) h)))

-- ---- names

pub opened_named : (x : HandedContext) (y : Context) → context_to_open x ≡ Ok y → IsFit (AddContext x) → IsTrue (is_well_named (Opened y))
unfolding ◌>>=◌
opened_named x y e fit = by_policy (policy_to_hold x.policy) e
  where
    by_policy : (r : Result Policy Refusal) → (r >>= λ policy. Ok (context_with x policy)) ≡ Ok y → IsTrue (is_well_named (Opened y))
    by_policy (Err d) e = cc
    by_policy (Ok policy) e = let same : context_with x policy ≡ y = cc in subst (λ (z : Context). IsTrue (is_well_named (Opened z))) same fit
