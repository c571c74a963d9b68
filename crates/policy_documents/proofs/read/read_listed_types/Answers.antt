use Rattle.std.proofs.lemmas.Result.{err_from_is_err_and}
use Rattle.spec_messages.specs.PolicyDocument.{in_order, listed_sorts}
use Rattle.policy_documents.proofs.Lists.{mapped_refused}
use Rattle.policy_documents.proofs.read.read_listed_types.Goals as goal

pub returns-in_err-listed : goal.returns-in_err-listed
returns-in_err-listed c =
    let p = err_from_is_err_and c.from_residual.result c.from_residual.ensures.1 in
    rw (p.1, p.2) (mapped_refused in_order (listed_sorts c.args.list.now) 0 c.in_err-listed.field-0.0 c.in_err-listed.ensures)
