-- What is known of an event that was read.
use Rattle.std.specs.Prelude.{⊤, ◌&&◌, IsTrue}
use Rattle.spec_documents.specs.Text.{is_node_name}
use Rattle.spec_records.specs.RecordDocument.{are_ipx}
use Rattle.spec_script.specs.Events.{Event, AddNode, AddContext, AddKeys, Send, Inject, Deliver, Restart, Pass, Alter, Reported, StartWith, AnswerTo, FinishBy, Terminate, EndBy}
use Rattle.replay_world.specs.Worlds.{IsShallow}

-- the names that a record takes over are in their grammar, and documents that are kept whole are shallow
abbrev pub IsFit : Event → Type 0
IsFit (AddNode node plmn) = ⊤
IsFit (AddContext x) = IsTrue (is_node_name x.node && (is_node_name x.peer_node && (are_ipx x.own_ipx && are_ipx x.peer_ipx)))
IsFit (AddKeys node id keys) = IsTrue (is_node_name node)
IsFit (Send node id message answers) = ⊤
IsFit (Inject document) = IsShallow document
IsFit (Deliver node wire) = ⊤
IsFit (Restart node) = ⊤
IsFit (Pass ipx wire operations) = IsShallow operations
IsFit (Alter wire operations) = ⊤
IsFit (Reported node document) = IsShallow document
IsFit (StartWith node peer offer) = IsTrue (is_node_name node && (is_node_name peer && are_ipx offer.ipx))
IsFit (AnswerTo node wire offer) = IsTrue (is_node_name node && are_ipx offer.ipx)
IsFit (FinishBy node wire) = ⊤
IsFit (Terminate node id) = ⊤
IsFit (EndBy node wire) = ⊤
