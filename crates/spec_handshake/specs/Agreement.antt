-- What two sides of a handshake agree on, and the invariant by which they do (this project's own).
use Rattle.std.specs.Prelude.{◌≡◌, ◌⊎◌, ⊤, ℕ, true, false, List, [], ◌∷◌}
use Rattle.spec_records.specs.Records.{Context, Record, Opened, offered}
use Rattle.spec_handshake.specs.Documents.{Ask, Selection, Document, Asks, Selects}
use Rattle.spec_handshake.specs.Starts.{Start, ForChoice, ForSelection}
use Rattle.spec_handshake.specs.Forms.{IsOffer, IsFormed}
use Rattle.spec_handshake.specs.Runs.{World}

-- it is one of these
abbrev pub In : {A : Type 0} → A → List A → Type 0
In x [] = ⊥
In x (y ∷ ys) = (x ≡ y) ⊎ In x ys

-- ---- agreement

-- two contexts name each other
pub record AreMutual (x y : Context) : Type 0 where
  pub there : x.peer_node ≡ y.node
  pub there_id : x.peer ≡ y.id
  pub back : y.peer_node ≡ x.node
  pub back_id : y.peer ≡ x.id

-- they go by the same parameters
pub record AgreeOn (x y : Context) : Type 0 where
  pub suite : x.suite ≡ y.suite
  pub policy : x.policy ≡ y.policy
  pub own_ipx : x.own_ipx ≡ y.peer_ipx
  pub peer_ipx : y.own_ipx ≡ x.peer_ipx

-- each two opened records that name each other agree
abbrev pub Agrees : List Record → Type 0
Agrees records = (x y : Context) → In (Opened x) records → In (Opened y) records → AreMutual x y → AgreeOn x y

-- ---- the invariant

-- an ask of this name was made, with these intermediaries
pub record HasAsk (made : List Document) (node : List ℕ) (id : ℕ) (ipx : List (List ℕ)) : Type 0 where
  pub ask : Ask
  pub is_made : In (Asks ask) made
  pub node_is : ask.sender ≡ node
  pub id_is : ask.id ≡ id
  pub ipx_is : ask.ipx ≡ ipx

-- the context was opened by an answer: its id was never offered, and its peer asked
pub record IsAnswering (records : List Record) (made : List Document) (x : Context) : Type 0 where
  pub unoffered : offered x.node x.id records ≡ false
  pub ask : HasAsk made x.peer_node x.peer x.peer_ipx

-- the context was opened by a finish: its id was offered, it asked itself, and has what its peer selected
pub record IsFinishing (records : List Record) (made : List Document) (x : Context) : Type 0 where
  pub is_offered : offered x.node x.id records ≡ true
  pub own_ask : HasAsk made x.node x.id x.own_ipx
  pub selection : Selection
  pub is_made : In (Selects selection) made
  pub suite_is : x.suite ≡ selection.suite
  pub policy_is : x.policy ≡ selection.policy
  pub peer_is : x.peer ≡ selection.id
  pub peer_node_is : x.peer_node ≡ selection.sender
  pub peer_ipx_is : x.peer_ipx ≡ selection.ipx

-- the sender of a selection has opened what it says, by an answer
pub record IsBacked (records : List Record) (made : List Document) (b : Selection) : Type 0 where
  pub context : Context
  pub held : In (Opened context) records
  pub answering : IsAnswering records made context
  pub node_is : context.node ≡ b.sender
  pub id_is : context.id ≡ b.id
  pub suite_is : context.suite ≡ b.suite
  pub policy_is : context.policy ≡ b.policy
  pub ipx_is : context.own_ipx ≡ b.ipx

-- no two starts have one node and id
abbrev pub AreApart : List Start → Type 0
AreApart [] = ⊤
AreApart (s ∷ ss) = ((t : Start) → In t ss → s.node ≡ t.node → s.offer.id ≡ t.offer.id → ⊥) × AreApart ss

-- what everything that happens keeps
pub record Invariant (records : List Record) (starts : List Start) (made : List Document) : Type 0 where
  -- a node and id has at most one start that waits
  pub apart : AreApart starts
  -- its id is offered, and opened nowhere; it has no ask before its capability is chosen, and one after it
  pub start_offered : (s : Start) → In s starts → offered s.node s.offer.id records ≡ true
  pub start_unopened : (s : Start) → In s starts → (x : Context) → In (Opened x) records → x.node ≡ s.node → x.id ≡ s.offer.id → ⊥
  pub start_fresh : (s : Start) → In s starts → s.waiting ≡ ForChoice → (a : Ask) → In (Asks a) made → a.sender ≡ s.node → a.id ≡ s.offer.id → ⊥
  pub start_asked : (s : Start) → In s starts → s.waiting ≡ ForSelection → HasAsk made s.node s.offer.id s.offer.ipx
  pub start_formed : (s : Start) → In s starts → IsOffer s.offer
  -- an ask's id is offered, and it is the one of its name
  pub ask_offered : (a : Ask) → In (Asks a) made → offered a.sender a.id records ≡ true
  pub ask_alone : (a b : Ask) → In (Asks a) made → In (Asks b) made → a.sender ≡ b.sender → a.id ≡ b.id → a ≡ b
  -- an opened record is the one of its name
  pub opened_alone : (x y : Context) → In (Opened x) records → In (Opened y) records → x.node ≡ y.node → x.id ≡ y.id → x ≡ y
  -- where selections and opened records come from
  pub selection_backed : (b : Selection) → In (Selects b) made → IsBacked records made b
  pub opened_from : (x : Context) → In (Opened x) records → IsAnswering records made x ⊎ IsFinishing records made x
  -- each document is read again
  pub made_formed : (d : Document) → In d made → IsFormed d

abbrev pub Stands : World → Type 0
Stands w = Invariant w.records w.starts w.made
