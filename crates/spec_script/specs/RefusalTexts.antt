-- How the refusals of a script are told: their numbers, names and details (this project's own). Those of sending, of receiving, of the handshake and of the outside are told by their own tables.
use Rattle.std.specs.Prelude.{codes}
use Rattle.std.specs.Fmt.{decimal}
use Rattle.spec_messages.specs.Message.{member_name}
use Rattle.spec_messages.specs.Limits.{limit_name}
use Rattle.spec_exchange.specs.Telling.{Telling, bare, detailed}
use Rattle.spec_exchange.specs.AcceptRefusals as accepting
use Rattle.spec_exchange.specs.SendingRefusals as sending
use Rattle.spec_exchange.specs.Outside.{fault_telling}
use Rattle.spec_handshake.specs.Refusals as handshake
use Rattle.spec_script.specs.Refusals.{Refusal, Syntax, OtherNumber, BadEvent, NodeUnknown, NodeExists, WireUnknown, Beyond, KeysTwice, ContextNotFound, BadMessage, DeepBody, BadPolicy, ContextUsed, BadForm, BadReport, OfSending, OfReceiving, OfOutside, OfHandshake, SignerFailed}

abbrev pub telling : Refusal → Telling
telling Syntax = bare 1 (codes "SYNTAX")
telling OtherNumber = bare 2 (codes "NUMBER")
telling (BadEvent member) = detailed 3 (codes "EVENT") member
telling NodeUnknown = bare 4 (codes "NODE_UNKNOWN")
telling NodeExists = bare 5 (codes "NODE_EXISTS")
telling WireUnknown = bare 6 (codes "WIRE_UNKNOWN")
telling (Beyond limit) = detailed 7 (codes "LIMIT") (limit_name limit)
telling KeysTwice = bare 8 (codes "KEYS_TWICE")
telling ContextNotFound = bare 10 (codes "CONTEXT_NOT_FOUND")
telling (BadMessage member) = detailed 13 (codes "MESSAGE") (member_name member)
telling DeepBody = bare 14 (codes "DEPTH")
telling (BadPolicy mapping) = detailed 17 (codes "POLICY_FORM") (decimal mapping)
telling ContextUsed = bare 44 (codes "CONTEXT_USED")
telling (BadForm member) = detailed 20 (codes "FORM") member
telling BadReport = bare 46 (codes "REPORT_FORM")
telling (OfSending refusal) = sending.telling refusal
telling (OfReceiving refusal report) = accepting.telling refusal
telling (OfOutside fault) = fault_telling fault
telling (OfHandshake refusal) = handshake.telling refusal
telling SignerFailed = bare 36 (codes "SIGNER")
