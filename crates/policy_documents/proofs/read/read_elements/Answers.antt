use Rattle.std.proofs.lemmas.Result.{err_from_is_err_and}
use Rattle.spec_messages.specs.PolicyDocument.{element_of}
use Rattle.n32_values.specs.View.{tree_of}
use Rattle.policy_documents.specs.View.{element_view}
use Rattle.policy_documents.proofs.Lists.{each_more_at, each_refused_at}
use Rattle.policy_documents.proofs.read.read_elements.Goals as goal

pub loop-i-preserved : goal.loop-i-preserved
loop-i-preserved c =
    rw c.in_ok-push.ensures.ok (each_more_at element_view (element_of c.args.k) c.loop-i.elements c.args.list.now c.loop-i.i (tree_of c.item.result.now) c.in_ok-read_element.field-0 _ c.item.ensures c.loop-i.invariant c.in_ok-read_element.ensures)

pub returns-in_err-read_element : goal.returns-in_err-read_element
returns-in_err-read_element c =
    let p = err_from_is_err_and c.from_residual.result c.from_residual.ensures.1 in
    rw (p.1, p.2) (each_refused_at element_view (element_of c.args.k) c.loop-i.elements c.args.list.now c.loop-i.i (tree_of c.item.result.now) c.in_err-read_element.field-0.0 _ c.item.ensures c.loop-i.invariant c.in_err-read_element.ensures)
