-- What the handlers of a handshake owe, by what their calls come to.
use Rattle.std.proofs.Common.{◌≡◌, ◌+◌, ◌++◌, [], ◌∷◌, ℕ, ℤ, List, length, Option, Some, Result, Ok, Err, refl, sym, ap, ◌∙◌}
use Rattle.std.specs.Prelude.{OnOk, OnErr}
use Rattle.spec_documents.specs.Tree.{Tree}
use Rattle.spec_documents.specs.Gives.{Tells}
use Rattle.spec_exchange.specs.Outside.{Cause}
use Rattle.context_store.specs.Stores.{Stored}
use Rattle.context_store.specs.declared.call_faults.CallFault.{CallFault}
use Rattle.context_store.specs.declared.call_faults.CallFault.TheVariants as faults
use Rattle.spec_handshake.specs.Documents.{Document, document_tree}
use Rattle.spec_handshake.specs.Refusals as handshake
use Rattle.spec_handshake.specs.Starts.{Offer, Start, new_start}
use Rattle.spec_handshake.specs.Calls as calls
use Rattle.spec_handshake.specs.Runs.{reply_document, next_document}
use Rattle.n32c_handshake.specs.Outcome as hands
use Rattle.n32c_handshake.specs.Progress as progress
use Rattle.n32c_handshake.specs.Replies as replies
use Rattle.n32c_handshake.specs.declared.refusal.HandRefusal.{HandRefusal}
use Rattle.n32c_handshake.specs.Faults.{told_cause}
use Rattle.n32c_handshake.specs.declared.replying.Replied.{Replied}
use Rattle.n32c_handshake.specs.declared.finishing.Finished.{Finished}
use Rattle.spec_script.specs.Offers.{HandedOffer}
use Rattle.spec_script.specs.Events.{StartWith, AnswerTo, FinishBy, Terminate, EndBy}
use Rattle.spec_script.specs.Steps.{Forwards, is_full, replied_answer, finished_answer}
use Rattle.script_lines.specs.declared.unanswered.Unanswered.{Unanswered}
use Rattle.replay_world.specs.Worlds.{IsSound, sites_view, state_of}
use Rattle.replay_world.specs.Outsiders.{unasked}
use Rattle.replay_world.specs.Handling.{Handles}
use Rattle.replay_world.specs.Shaking.{Concludes, network_checked, document_checked, offer_to_hold, forwarded, replied_told, replied_sent, finished_told, finished_sent}
use Rattle.replay_world.specs.declared.world.World.{World}
use Rattle.replay_world.proofs.HandSteps.{start_goes_on, answer_goes_on, finish_goes_on, terminate_goes_on, ended_goes_on}
use Rattle.replay_world.proofs.HandSeen.{document_seen, closing_seen, replied_seen, finished_seen}
use Rattle.replay_world.proofs.Handshakes.{called, called_by, finish_starts, finish_called, KeeperStands, handles_called}

-- a refusal answers no document. Want of memory is told otherwise
no_document : (e : CallFault HandRefusal) (d : Document) → (e ≡ faults.NoMemory → ⊥) → Tells (told_cause e) (Ok d) → ⊥
no_document (faults.Refused r) d other a = cc
no_document (faults.Journal k) d other a = cc
no_document faults.Keeper d other a = cc
no_document faults.NoMemory d other a = other refl

-- a start waits once its call is done, and else as before
started : (before left : List Start) (node peer : List ℕ) (offer : Offer) (call : Result Tree (CallFault HandRefusal)) → OnOk call (left ≡ before ++ new_start node peer offer ∷ []) → OnErr call (left ≡ before) → (call ≡ Err faults.NoMemory → ⊥)
    → (r : Result Document (Cause handshake.Refusal)) → hands.Answers hands.IsDocument call r → left ≡ calls.after_start before node peer offer r
started before left node peer offer (Ok t) ok err other r a = ok ∙ ap (calls.after_start before node peer offer) (sym a.1)
started before left node peer offer (Err e) ok err other (Ok d) a = absurd (no_document e d (λ is. other (ap (λ (z : CallFault HandRefusal). Err z) is)) a)
started before left node peer offer (Err e) ok err other (Err c) a = err

pub start_handled : (held now : Option (List (List ℕ))) (before after_ : ℕ) (old : World) (store : Stored) (left : List Start) (new : World) (number : ℕ) (node peer plmn : List ℕ) (x : HandedOffer) (offer : Offer) (call : Result Tree (CallFault HandRefusal)) (result : Result (List ℕ) Unanswered)
    → network_checked (sites_view old.sites) (is_full old.wire) node ≡ Ok plmn → offer_to_hold x ≡ Ok offer
    → hands.Comes hands.IsDocument (λ f records. calls.start f records node offer) held now old.store store call → OnOk call (left ≡ old.hands ++ new_start node peer offer ∷ []) → OnErr call (left ≡ old.hands)
    → KeeperStands now before after_ store call → IsSound old → Concludes (forwarded (length old.wire + 1)) Some number (called old store left) new call result
    → Handles (unasked (StartWith node peer x)) held now before after_ old new number result
start_handled held now before after_ old store left new number node peer plmn x offer call result checked holds comes ok err keeper sound done =
    handles_called hands.IsDocument (λ d. Forwards (document_tree d) (length old.wire + 1)) Some (forwarded (length old.wire + 1)) Some (λ f records. calls.start f records node offer)
    (λ f records. calls.after_start old.hands node peer offer (calls.start f records node offer).result) (unasked (StartWith node peer x)) held now before after_ old store left new number call result
    (document_seen (length old.wire + 1))
    (called_by hands.IsDocument _ (λ f records. calls.after_start old.hands node peer offer (calls.start f records node offer).result) held now old.store store left call comes (λ other f records a. started old.hands left node peer offer call ok err other _ a))
    (λ records f. start_goes_on (state_of old records) f node peer x plmn offer checked holds) keeper sound done

pub answer_handled : (held now : Option (List (List ℕ))) (before after_ : ℕ) (old : World) (store : Stored) (new : World) (number : ℕ) (node : List ℕ) (wire : ℤ) (plmn : List ℕ) (t : Tree) (x : HandedOffer) (offer : Offer) (call : Result Replied (CallFault HandRefusal)) (result : Result (List ℕ) Unanswered)
    → document_checked (sites_view old.sites) old.wire (is_full old.wire) node wire ≡ Ok (plmn, t) → offer_to_hold x ≡ Ok offer
    → hands.Comes replies.IsReplied (λ f records. calls.answer f records node plmn offer t) held now old.store store call
    → KeeperStands now before after_ store call → IsSound old → Concludes (replied_told (length old.wire + 1)) replied_sent number (called old store old.hands) new call result
    → Handles (unasked (AnswerTo node wire x)) held now before after_ old new number result
answer_handled held now before after_ old store new number node wire plmn t x offer call result checked holds comes keeper sound done =
    handles_called replies.IsReplied (replied_answer (length old.wire + 1)) reply_document (replied_told (length old.wire + 1)) replied_sent (λ f records. calls.answer f records node plmn offer t) (λ f records. old.hands) (unasked (AnswerTo node wire x))
    held now before after_ old store old.hands new number call result (replied_seen (length old.wire + 1))
    (called_by replies.IsReplied _ (λ f records. old.hands) held now old.store store old.hands call comes (λ other f records a. refl))
    (λ records f. answer_goes_on (state_of old records) f node wire x plmn t offer checked holds) keeper sound done

pub finish_handled : (held now : Option (List (List ℕ))) (before after_ : ℕ) (old : World) (store : Stored) (left : List Start) (new : World) (number : ℕ) (node : List ℕ) (wire : ℤ) (plmn : List ℕ) (t : Tree) (call : Result Finished (CallFault HandRefusal)) (result : Result (List ℕ) Unanswered)
    → document_checked (sites_view old.sites) old.wire (is_full old.wire) node wire ≡ Ok (plmn, t)
    → progress.Finishes held now old.store store old.hands left node plmn t call
    → KeeperStands now before after_ store call → IsSound old → Concludes (finished_told (length old.wire + 1)) finished_sent number (called old store left) new call result
    → Handles (unasked (FinishBy node wire)) held now before after_ old new number result
finish_handled held now before after_ old store left new number node wire plmn t call result checked comes keeper sound done =
    handles_called progress.IsFinished (finished_answer (length old.wire + 1)) next_document (finished_told (length old.wire + 1)) finished_sent (λ f records. calls.finish f records old.hands node plmn t) (finish_starts old.hands node plmn t) (unasked (FinishBy node wire))
    held now before after_ old store left new number call result (finished_seen (length old.wire + 1))
    (finish_called held now old.store store old.hands left node plmn t call comes)
    (λ records f. finish_goes_on (state_of old records) f node wire plmn t checked) keeper sound done

pub terminate_handled : (held now : Option (List (List ℕ))) (before after_ : ℕ) (old : World) (store : Stored) (new : World) (number : ℕ) (node : List ℕ) (id : ℕ) (plmn : List ℕ) (call : Result Tree (CallFault HandRefusal)) (result : Result (List ℕ) Unanswered)
    → network_checked (sites_view old.sites) (is_full old.wire) node ≡ Ok plmn
    → hands.Comes hands.IsClosing (λ f records. calls.terminate f records node id) held now old.store store call
    → KeeperStands now before after_ store call → IsSound old → Concludes (forwarded (length old.wire + 1)) Some number (called old store old.hands) new call result
    → Handles (unasked (Terminate node id)) held now before after_ old new number result
terminate_handled held now before after_ old store new number node id plmn call result checked comes keeper sound done =
    handles_called hands.IsClosing (λ c. Forwards (document_tree c.document) (length old.wire + 1)) (λ c. Some c.document) (forwarded (length old.wire + 1)) Some (λ f records. calls.terminate f records node id) (λ f records. old.hands) (unasked (Terminate node id))
    held now before after_ old store old.hands new number call result (closing_seen (length old.wire + 1))
    (called_by hands.IsClosing _ (λ f records. old.hands) held now old.store store old.hands call comes (λ other f records a. refl))
    (λ records f. terminate_goes_on (state_of old records) f node id plmn checked) keeper sound done

pub ended_handled : (held now : Option (List (List ℕ))) (before after_ : ℕ) (old : World) (store : Stored) (new : World) (number : ℕ) (node : List ℕ) (wire : ℤ) (plmn : List ℕ) (t : Tree) (call : Result Tree (CallFault HandRefusal)) (result : Result (List ℕ) Unanswered)
    → document_checked (sites_view old.sites) old.wire (is_full old.wire) node wire ≡ Ok (plmn, t)
    → hands.Comes hands.IsClosing (λ f records. calls.ended f records node t) held now old.store store call
    → KeeperStands now before after_ store call → IsSound old → Concludes (forwarded (length old.wire + 1)) Some number (called old store old.hands) new call result
    → Handles (unasked (EndBy node wire)) held now before after_ old new number result
ended_handled held now before after_ old store new number node wire plmn t call result checked comes keeper sound done =
    handles_called hands.IsClosing (λ c. Forwards (document_tree c.document) (length old.wire + 1)) (λ c. Some c.document) (forwarded (length old.wire + 1)) Some (λ f records. calls.ended f records node t) (λ f records. old.hands) (unasked (EndBy node wire))
    held now before after_ old store old.hands new number call result (closing_seen (length old.wire + 1))
    (called_by hands.IsClosing _ (λ f records. old.hands) held now old.store store old.hands call comes (λ other f records a. refl))
    (λ records f. ended_goes_on (state_of old records) f node wire plmn t checked) keeper sound done
