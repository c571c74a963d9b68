-- The names of an event's members (this project's own).
use Rattle.std.specs.Prelude.{ℕ, List, codes}
use Rattle.script_lines.specs.declared.event_member.EventMember.{EventMember}
use Rattle.script_lines.specs.declared.event_member.EventMember.TheVariants.{Do, Node, Plmn, Id, PeerNode, Peer, Suite, Policy, OwnIpx, PeerIpx, Send, Receive, First, Message, Answers, Document, Wire, Ipx, Operations, Offer}

abbrev pub member_name : EventMember → List ℕ
member_name Do = codes "do"
member_name Node = codes "node"
member_name Plmn = codes "plmn"
member_name Id = codes "id"
member_name PeerNode = codes "peer_node"
member_name Peer = codes "peer"
member_name Suite = codes "suite"
member_name Policy = codes "policy"
member_name OwnIpx = codes "own_ipx"
member_name PeerIpx = codes "peer_ipx"
member_name Send = codes "send"
member_name Receive = codes "receive"
member_name First = codes "first"
member_name Message = codes "message"
member_name Answers = codes "answers"
member_name Document = codes "document"
member_name Wire = codes "wire"
member_name Ipx = codes "ipx"
member_name Operations = codes "operations"
member_name Offer = codes "offer"
