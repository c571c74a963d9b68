use Rattle.spec_messages.specs.Split.{cleared}
use Rattle.message_rebuilding.proofs.Fillings.{filled_back}
use Rattle.message_rebuilding.proofs.laws.split_is_rebuilt.Goals as goal

pub returns : goal.returns
returns c = λ pol k m meta j vs whole ordered low is e.
    let back = filled_back vs (cleared pol k m) m (c.split_is_undone.ensures.filled pol k m meta j vs whole low e) in
    (cleared pol k m, c.split_is_undone.ensures.clear pol k m meta j vs whole ordered low is e, back.0, back.1)
