use Rattle.jws_flat.proofs.Payloads.{payload-read}
use Rattle.jws_flat.proofs.laws.read_payloads_are_objects.Goals as goal

pub returns : goal.returns
returns c t w e = payload-read t w e
