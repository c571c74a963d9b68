-- The events and refusals of the definitions that values of the program are.
use Rattle.std.specs.Prelude.{map, option_map}
use Rattle.n32_values.specs.View.{tree_of}
use Rattle.http_message.specs.Reading.{member_view}
use Rattle.json_patch6902.specs.View.{op_view}
use Rattle.block_forms.specs.Faults.{limit_view}
use Rattle.prins_document.specs.View.{part_name}
use Rattle.context_records.specs.View.{suite_view, key_set_view}
use Rattle.sending_sepp.specs.Sending as sending
use Rattle.receiving_sepp.specs.Views.{refused_view}
use Rattle.spec_exchange.specs.Outside as outside
use Rattle.n32c_handshake.specs.Faults as hands
use Rattle.n32c_handshake.specs.View.{capability_view}
use Rattle.spec_script.specs.Offers as offers
use Rattle.spec_script.specs.Events as events
use Rattle.spec_script.specs.Refusals as spec
use Rattle.script_lines.specs.declared.event.HandedContext.{HandedContext}
use Rattle.script_lines.specs.declared.event.Event.{Event}
use Rattle.script_lines.specs.declared.event.Event.TheVariants.{Node, Context, Keys, Send, Inject, Deliver, Restart, Pass, Alter, Reported, Start, Answer, Finish, Terminate, Ended}
use Rattle.script_lines.specs.declared.offer.HandedOffer.{HandedOffer}
use Rattle.script_lines.specs.declared.refusal.Refusal.{Refusal}
use Rattle.script_lines.specs.declared.refusal.Refusal.TheVariants as refusals

-- ---- events

abbrev pub handed_view : HandedContext → events.HandedContext
handed_view x = record {
  node = x.node;
  id = x.id.value;
  peer_node = x.peer_node;
  peer = x.peer.value;
  plmn = x.plmn;
  suite = suite_view x.suite;
  policy = tree_of x.policy;
  own_ipx = x.own_ipx;
  peer_ipx = x.peer_ipx;
}

abbrev pub offer_view : HandedOffer → offers.HandedOffer
offer_view x = record { id = x.id.value; capabilities = map capability_view x.capabilities; suites = map suite_view x.suites; policy = tree_of x.policy; ipx = x.ipx }

abbrev pub event_view : Event → events.Event
event_view (Node node plmn) = events.AddNode node plmn
event_view (Context x) = events.AddContext (handed_view x)
event_view (Keys node id keys) = events.AddKeys node id.value (key_set_view keys)
event_view (Send node id message answers) = events.Send node id.value (tree_of message) (option_map (λ i. i.value) answers)
event_view (Inject document) = events.Inject (tree_of document)
event_view (Deliver node wire) = events.Deliver node wire
event_view (Restart node) = events.Restart node
event_view (Pass ipx wire operations) = events.Pass ipx wire (tree_of operations)
event_view (Alter wire operations) = events.Alter wire (map op_view operations)
event_view (Reported node document) = events.Reported node (tree_of document)
event_view (Start node peer offer) = events.StartWith node peer (offer_view offer)
event_view (Answer node wire offer) = events.AnswerTo node wire (offer_view offer)
event_view (Finish node wire) = events.FinishBy node wire
event_view (Terminate node id) = events.Terminate node id.value
event_view (Ended node wire) = events.EndBy node wire

-- ---- refusals

abbrev pub refusal_view : Refusal → spec.Refusal
refusal_view refusals.Syntax = spec.Syntax
refusal_view refusals.Number = spec.OtherNumber
refusal_view (refusals.Event name) = spec.BadEvent name.now
refusal_view refusals.NodeUnknown = spec.NodeUnknown
refusal_view refusals.NodeExists = spec.NodeExists
refusal_view refusals.WireUnknown = spec.WireUnknown
refusal_view (refusals.Limit which) = spec.Beyond (limit_view which)
refusal_view refusals.KeysTwice = spec.KeysTwice
refusal_view refusals.ContextNotFound = spec.ContextNotFound
refusal_view (refusals.Message member) = spec.BadMessage (member_view member)
refusal_view refusals.Depth = spec.DeepBody
refusal_view (refusals.PolicyForm mapping) = spec.BadPolicy mapping
refusal_view refusals.ContextUsed = spec.ContextUsed
refusal_view (refusals.Form part) = spec.BadForm (part_name part)
refusal_view refusals.Report = spec.BadReport
refusal_view (refusals.Sending fault) = spec.OfSending (sending.refusal_view fault)
refusal_view (refusals.Receiving refused report) = spec.OfReceiving (refused_view refused) report
refusal_view (refusals.Journal number) = spec.OfOutside (outside.Journal number)
refusal_view refusals.Keeper = spec.OfOutside outside.Keeper
refusal_view refusals.Signer = spec.SignerFailed
refusal_view (refusals.Handshake refusal) = spec.OfHandshake (hands.refusal_view refusal)
