use Rattle.std.proofs.Common.{ap, ◌∙◌}
use Rattle.spec_exchange.specs.Accepting.{first_failed}
use Rattle.spec_exchange.specs.Untouched.{shipment}
use Rattle.spec_exchange.proofs.UntouchedLemmas.{protected-answered, id-fits}
use Rattle.spec_exchange.proofs.untouched.answered_message_is_delivered.Goals as goal

pub returns : goal.returns
returns c passes v there here node peer id o m s x k whole ordered shallow kind answers e is_open has_keys names are ready =
    let p = protected-answered there node id o m s x k e is_open has_keys in
    ap (first_failed passes v here peer) p.document
    ∙ c.sealed_message_is_delivered.ensures passes v (shipment x k o m s) peer here
    (record { whole = whole; ordered = ordered; shallow = shallow; kind = kind; limits = p.limits; mapped = p.mapped; fits = id-fits o s.seq p.fits answers })
    names are ready
