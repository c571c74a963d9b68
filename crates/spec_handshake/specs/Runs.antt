-- Runs of handshakes between many nodes, over documents that may be lost, come again, or come out of order (this project's own).
use Rattle.std.specs.Prelude.{◌≡◌, ⊤, ℕ, false, List, [], ◌∷◌, ◌++◌, Option, Some, None, Result, Ok, Err, slice_get}
use Rattle.std.specs.List.{AllByRecursion}
use Rattle.spec_documents.specs.Tree.{Tree}
use Rattle.spec_records.specs.Records.{Record, takes_id}
use Rattle.spec_exchange.specs.Outside.{Choice, Cause, Outcome, with_put}
use Rattle.spec_handshake.specs.Documents.{Document, document_tree}
use Rattle.spec_handshake.specs.Refusals.{Refusal}
use Rattle.spec_handshake.specs.Starts.{Offer, Start, without_node}
use Rattle.spec_handshake.specs.Forms.{IsNode, IsPlmn, IsOffer}
use Rattle.spec_handshake.specs.Calls.{Replied, Chose, OpenedBy, Finished, Next, OpenedAs, EndedTls, start, after_start, answer, finish, after_finish, terminate, ended}

pub record World : Type 0 where
  -- what the keeper holds
  pub records : List Record
  -- the starts that wait
  pub starts : List Start
  -- each document that a start, an answer or a finish made
  pub made : List Document

-- no record, no start, no document
abbrev pub nothing : World
nothing = record { records = []; starts = []; made = [] }

-- what may happen. A document that is lost never comes, and one that comes again comes twice
pub data Happening : Type 0 where
  NodeStarts : (node peer : List ℕ) (offer : Offer) → Happening
  -- the document made as number k comes to a node, which answers it
  NodeAnswers : (node plmn : List ℕ) (offer : Offer) (k : ℕ) → Happening
  NodeFinishes : (node plmn : List ℕ) (k : ℕ) → Happening
  NodeTerminates : (node : List ℕ) (id : ℕ) → Happening
  -- a termination comes to a node, whoever wrote it
  NodeEnds : (node : List ℕ) (document : Tree) → Happening
  NodeRestarts : (node : List ℕ) → Happening
  -- another call puts a record of keys, of a message sent or of one delivered
  Puts : (item : Record) → Happening

-- ---- what a call leaves

abbrev pub with_made : List Document → Option Document → List Document
with_made made None = made
with_made made (Some d) = made ++ d ∷ []

abbrev pub made_by : {T : Type 0} → (T → Option Document) → Result T (Cause Refusal) → Option Document
made_by document (Ok x) = document x
made_by document (Err e) = None

abbrev pub reply_document : Replied → Option Document
reply_document (Chose d) = Some d
reply_document (OpenedBy d x) = Some d

abbrev pub next_document : Finished → Option Document
next_document (Next d) = Some d
next_document (OpenedAs x) = None
next_document EndedTls = None

abbrev pub comes_to : {T : Type 0} → World → (starts : List Start) → (T → Option Document) → Outcome Refusal T → World
comes_to w starts document o = record { records = with_put w.records o.put; starts = starts; made = with_made w.made (made_by document o.result) }

-- ---- what happens, under the choices of the keeper

abbrev pub starts_at : World → Choice → (node peer : List ℕ) → Offer → World
starts_at w f node peer offer =
    let o = start f w.records node offer in
    comes_to w (after_start w.starts node peer offer o.result) Some o

abbrev pub answers_at : World → Choice → (node plmn : List ℕ) → Offer → Option Document → World
answers_at w f node plmn offer None = w
answers_at w f node plmn offer (Some d) = comes_to w w.starts reply_document (answer f w.records node plmn offer (document_tree d))

abbrev pub finishes_at : World → Choice → (node plmn : List ℕ) → Option Document → World
finishes_at w f node plmn None = w
finishes_at w f node plmn (Some d) =
    let o = finish f w.records w.starts node plmn (document_tree d) in
    comes_to w (after_finish f.reading w.starts node (document_tree d) o.result) next_document o

abbrev pub happens : World → Choice → Happening → World
happens w f (NodeStarts node peer offer) = starts_at w f node peer offer
happens w f (NodeAnswers node plmn offer k) = answers_at w f node plmn offer (slice_get w.made k)
happens w f (NodeFinishes node plmn k) = finishes_at w f node plmn (slice_get w.made k)
happens w f (NodeTerminates node id) = comes_to w w.starts (λ c. None) (terminate f w.records node id)
happens w f (NodeEnds node t) = comes_to w w.starts (λ c. None) (ended f w.records node t)
happens w f (NodeRestarts node) = record { records = w.records; starts = without_node node w.starts; made = w.made }
happens w f (Puts item) = record { records = w.records ++ item ∷ []; starts = w.starts; made = w.made }

abbrev pub run : World → List (Choice × Happening) → World
run w [] = w
run w (e ∷ es) = run (happens w e.0 e.1) es

-- ---- what can happen: names, ids and policies have their forms, and no context is handed in

abbrev pub CanHappen : Happening → Type 0
CanHappen (NodeStarts node peer offer) = IsNode node × IsOffer offer
CanHappen (NodeAnswers node plmn offer k) = IsNode node × (IsPlmn plmn × IsOffer offer)
CanHappen (NodeFinishes node plmn k) = IsNode node × IsPlmn plmn
CanHappen (NodeTerminates node id) = ⊤
CanHappen (NodeEnds node document) = ⊤
CanHappen (NodeRestarts node) = ⊤
CanHappen (Puts item) = takes_id item ≡ false

abbrev pub CanAllHappen : List (Choice × Happening) → Type 0
CanAllHappen events = AllByRecursion (λ e. CanHappen e.1) events
