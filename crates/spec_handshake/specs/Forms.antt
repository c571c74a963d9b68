-- Which offers and documents there are: names in their grammar, ids of 64 bits, policies that have a document. What is read has this form, and so has each value of the program.
use Rattle.std.specs.Prelude.{⊤, ℕ, ◌<◌, ◌^◌, List, IsTrue}
use Rattle.spec_documents.specs.Ids.{is_plmn}
use Rattle.spec_documents.specs.Text.{is_node_name}
use Rattle.spec_messages.specs.PolicyDocument.{ReadsBack}
use Rattle.spec_records.specs.RecordDocument.{are_ipx}
use Rattle.spec_handshake.specs.Documents.{Ask, Selection, Document, Supports, Chooses, Asks, Selects, Terminates, Terminated}
use Rattle.spec_handshake.specs.Starts.{Offer}

abbrev pub IsId : ℕ → Type 0
IsId id = id < 2 ^ 64

abbrev pub IsNode : List ℕ → Type 0
IsNode node = IsTrue (is_node_name node)

abbrev pub IsPlmn : List ℕ → Type 0
IsPlmn plmn = IsTrue (is_plmn plmn)

pub record IsOffer (o : Offer) : Type 0 where
  pub id : IsId o.id
  pub policy : ReadsBack o.policy
  pub ipx : IsTrue (are_ipx o.ipx)

pub record IsAsk (a : Ask) : Type 0 where
  pub call : IsId a.call
  pub sender : IsNode a.sender
  pub id : IsId a.id
  pub plmn : IsPlmn a.plmn
  pub policy : ReadsBack a.policy
  pub ipx : IsTrue (are_ipx a.ipx)

pub record IsSelection (b : Selection) : Type 0 where
  pub call : IsId b.call
  pub sender : IsNode b.sender
  pub id : IsId b.id
  pub plmn : IsPlmn b.plmn
  pub policy : ReadsBack b.policy
  pub ipx : IsTrue (are_ipx b.ipx)

abbrev pub IsFormed : Document → Type 0
IsFormed (Supports call sender capabilities) = IsId call × IsNode sender
IsFormed (Chooses call sender capability) = IsId call × IsNode sender
IsFormed (Asks a) = IsAsk a
IsFormed (Selects b) = IsSelection b
IsFormed (Terminates id) = IsId id
IsFormed (Terminated id) = IsId id

-- the names of nodes and intermediaries in a document are in their grammar
abbrev pub IsNamed : Document → Type 0
IsNamed (Supports call sender capabilities) = IsNode sender
IsNamed (Chooses call sender capability) = IsNode sender
IsNamed (Asks a) = IsNode a.sender × IsTrue (are_ipx a.ipx)
IsNamed (Selects b) = IsNode b.sender × IsTrue (are_ipx b.ipx)
IsNamed (Terminates id) = ⊤
IsNamed (Terminated id) = ⊤
