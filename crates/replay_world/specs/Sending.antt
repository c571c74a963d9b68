-- What a message is sent as, in the words of the definitions.
use Rattle.spec_exchange.specs.Calls as spec
use Rattle.replay_world.specs.declared.traffic.Outgoing.{Outgoing}
use Rattle.replay_world.specs.declared.traffic.Outgoing.TheVariants.{Asks, Replies}

abbrev pub outgoing_view : Outgoing → spec.Outgoing
outgoing_view Asks = spec.Asks
outgoing_view (Replies to) = spec.Replies to.value
