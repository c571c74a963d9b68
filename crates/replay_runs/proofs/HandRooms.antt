-- A call of the handshake puts a record only where there is room for it.
use Rattle.std.proofs.Common.{◌≡◌, ℕ, ◌<◌, Bool, true, false, List, length, Some, None, Result, Ok, Err, refl}
use Rattle.std.proofs.lemmas.Bool.{leb-false}
use Rattle.spec_documents.specs.Tree.{Tree}
use Rattle.spec_documents.specs.Chain.{◌>>=◌, unless}
use Rattle.spec_records.specs.Records.{Record, record_limit, Offered}
use Rattle.spec_exchange.specs.Outside.{Choice, Reading, Read, ReadFails, BadRecord, Putting, Outcome, puts, behind_reading, or_refusal}
use Rattle.spec_handshake.specs.Documents.{Document, Supports, Chooses, Asks, Selects, Terminates, Terminated, Capability, Prins, Tls}
use Rattle.spec_handshake.specs.Refusals.{Refusal}
use Rattle.spec_handshake.specs.Starts.{Offer, Start}
use Rattle.spec_handshake.specs.Calls.{room_for_record, begins, start, replies_to, replies, put_reply, answer, after_choice, finishes_with, finishes, put_finished, finish, Closing, closes, put_closing, terminate, closes_by, ended}

-- what passes and is put has room
record HasRoom {X T : Type 0} (records : List Record) (c : X → Outcome Refusal T) (r : Result X Refusal) : Type 0 where
  room : (x : X) (item : Record) → r ≡ Ok x → (c x).put ≡ Some item → length records < record_limit

err_room : {X T : Type 0} (records : List Record) (c : X → Outcome Refusal T) (e : Refusal) → HasRoom records c (Err e)
err_room records c e = record { room = λ x item is put. cc }

-- nothing is put
none_room : {X T : Type 0} (records : List Record) (c : X → Outcome Refusal T) (x : X) → (c x).put ≡ None → HasRoom records c (Ok x)
none_room records c x none = record { room = λ y item is put. let same : x ≡ y = cc in let other : (c y).put ≡ None = rw (← same) none in cc }

bind_room : {A X T : Type 0} (records : List Record) (c : X → Outcome Refusal T) (r : Result A Refusal) (k : A → Result X Refusal) → ((y : A) → HasRoom records c (k y)) → HasRoom records c (r >>= k)
unfolding ◌>>=◌
bind_room records c (Ok y) k h = h y
bind_room records c (Err e) k h = err_room records c e

passed : {Y : Type 0} (b : Bool) (e : Refusal) (k : Unit {0} → Result Y Refusal) (x : Y) → (unless b e >>= k) ≡ Ok x → b ≡ false
unfolding ◌>>=◌
passed true e k x is = cc
passed false e k x is = refl

behind_limit : {X T : Type 0} (records : List Record) (c : X → Outcome Refusal T) (k : Unit {0} → Result X Refusal) → HasRoom records c (room_for_record records >>= k)
behind_limit records c k = record { room = λ x item is put. leb-false _ _ (passed _ _ k x is) }

-- over the whole call
call_room : {X T : Type 0} (records : List Record) (reading : Reading) (r : Result X Refusal) (c : X → Outcome Refusal T) → HasRoom records c r → (item : Record) → (behind_reading reading (or_refusal r c)).put ≡ Some item → length records < record_limit
call_room records Read (Ok x) c h item put = h.room x item refl put
call_room records Read (Err e) c h item put = cc
call_room records ReadFails r c h item put = cc
call_room records (BadRecord k) r c h item put = cc

pub start_room : (f : Choice) (records : List Record) (node : List ℕ) (offer : Offer) (item : Record) → (start f records node offer).put ≡ Some item → length records < record_limit
start_room f records node offer item put = call_room records f.reading (begins records node offer) (λ d. puts f.putting (Offered node offer.id) d)
    (bind_room records _ _ _ λ new. behind_limit records _ _) item put

reply_room : (records : List Record) (p : Putting) (node plmn : List ℕ) (offer : Offer) (d : Document) → HasRoom records (put_reply p) (replies_to records node plmn offer d)
reply_room records p node plmn offer (Supports call sender capabilities) = bind_room records (put_reply p) _ _ λ c. none_room records (put_reply p) _ refl
reply_room records p node plmn offer (Asks a) = bind_room records (put_reply p) _ _ λ suite. bind_room records (put_reply p) _ _ λ same. bind_room records (put_reply p) _ _ λ new. behind_limit records (put_reply p) _
reply_room records p node plmn offer (Chooses call sender c) = err_room records (put_reply p) _
reply_room records p node plmn offer (Selects b) = err_room records (put_reply p) _
reply_room records p node plmn offer (Terminates id) = err_room records (put_reply p) _
reply_room records p node plmn offer (Terminated id) = err_room records (put_reply p) _

pub answer_room : (f : Choice) (records : List Record) (node plmn : List ℕ) (offer : Offer) (t : Tree) (item : Record) → (answer f records node plmn offer t).put ≡ Some item → length records < record_limit
answer_room f records node plmn offer t item put = call_room records f.reading (replies records node plmn offer t) (put_reply f.putting)
    (bind_room records (put_reply f.putting) _ _ λ d. reply_room records f.putting node plmn offer d) item put

choice_room : (records : List Record) (p : Putting) (node plmn : List ℕ) (offer : Offer) (c : Capability) → HasRoom records (put_finished p) (Ok (after_choice node plmn offer c))
choice_room records p node plmn offer Prins = none_room records (put_finished p) _ refl
choice_room records p node plmn offer Tls = none_room records (put_finished p) _ refl

finish_rooms : (records : List Record) (p : Putting) (starts : List Start) (node plmn : List ℕ) (d : Document) → HasRoom records (put_finished p) (finishes_with records starts node plmn d)
finish_rooms records p starts node plmn (Chooses call sender c) = bind_room records (put_finished p) _ _ λ s. bind_room records (put_finished p) _ _ λ had. choice_room records p node plmn s.offer c
finish_rooms records p starts node plmn (Selects b) = bind_room records (put_finished p) _ _ λ s. bind_room records (put_finished p) _ _ λ had. bind_room records (put_finished p) _ _ λ same. behind_limit records (put_finished p) _
finish_rooms records p starts node plmn (Supports call sender capabilities) = err_room records (put_finished p) _
finish_rooms records p starts node plmn (Asks a) = err_room records (put_finished p) _
finish_rooms records p starts node plmn (Terminates id) = err_room records (put_finished p) _
finish_rooms records p starts node plmn (Terminated id) = err_room records (put_finished p) _

pub finish_room : (f : Choice) (records : List Record) (starts : List Start) (node plmn : List ℕ) (t : Tree) (item : Record) → (finish f records starts node plmn t).put ≡ Some item → length records < record_limit
finish_room f records starts node plmn t item put = call_room records f.reading (finishes records starts node plmn t) (put_finished f.putting)
    (bind_room records (put_finished f.putting) _ _ λ d. finish_rooms records f.putting starts node plmn d) item put

closing_room : (records : List Record) (c : Closing → Outcome Refusal Closing) (node : List ℕ) (id : ℕ) (made : ℕ → Document) → HasRoom records c (closes records node id made)
closing_room records c node id made = bind_room records c _ _ λ x. behind_limit records c _

pub terminate_room : (f : Choice) (records : List Record) (node : List ℕ) (id : ℕ) (item : Record) → (terminate f records node id).put ≡ Some item → length records < record_limit
terminate_room f records node id item put = call_room records f.reading (closes records node id Terminates) (put_closing node f.putting) (closing_room records _ node id Terminates) item put

pub ended_room : (f : Choice) (records : List Record) (node : List ℕ) (t : Tree) (item : Record) → (ended f records node t).put ≡ Some item → length records < record_limit
ended_room f records node t item put = call_room records f.reading (closes_by records node t) (put_closing node f.putting)
    (bind_room records _ _ _ λ d. bind_room records _ _ _ λ id. closing_room records _ node id Terminated) item put
