use Rattle.std.proofs.Common.{Some}
use Rattle.std.proofs.lemmas.Result.{err_from_is_err_and}
use Rattle.spec_messages.specs.PolicyDocument.{chosen, sort_of}
use Rattle.n32_values.specs.View.{tree_of}
use Rattle.policy_documents.specs.Words.{sort_view}
use Rattle.policy_documents.proofs.Lists.{read_more_at, read_refused_at}
use Rattle.policy_documents.proofs.read.read_type_list.Goals as goal

pub loop-i-preserved : goal.loop-i-preserved
loop-i-preserved c =
    rw c.in_ok-push.ensures.ok (read_more_at sort_view (λ t. chosen sort_of (Some t)) 0 c.loop-i.types c.args.list.now c.loop-i.i (tree_of c.item.result.now) c.in_ok-read_type.field-0 _ c.item.ensures c.loop-i.invariant c.in_ok-read_type.ensures)

pub returns-in_err-read_type : goal.returns-in_err-read_type
returns-in_err-read_type c =
    let p = err_from_is_err_and c.from_residual.result c.from_residual.ensures.1 in
    rw (p.1, p.2) (read_refused_at sort_view (λ t. chosen sort_of (Some t)) 0 c.loop-i.types c.args.list.now c.loop-i.i (tree_of c.item.result.now) c.in_err-read_type.field-0.0 _ c.item.ensures c.loop-i.invariant c.in_err-read_type.ensures)
