use Rattle.policy_documents.proofs.SameLemmas.{grants_same}
use Rattle.policy_documents.proofs.same.are_equal.Goals as goal

pub returns : goal.returns
returns c = grants_same c.is_same.result c.args.one.now c.args.other.now c.is_same.ensures
