use Rattle.std.proofs.lemmas.Result.{err_from_is_err_and}
use Rattle.n32_values.specs.View.{tree_of}
use Rattle.policy_documents.specs.View.{mapping_view}
use Rattle.policy_documents.proofs.Lists.{mappings_more_at, mappings_refused_at}
use Rattle.policy_documents.proofs.read.read_mappings.Goals as goal

pub loop-i-preserved : goal.loop-i-preserved
loop-i-preserved c =
    rw c.in_ok-push.ensures.ok (mappings_more_at mapping_view c.loop-i.mappings c.args.list.now c.loop-i.i (tree_of c.item.result.now) c.in_ok-read_mapping.field-0 _ c.item.ensures c.loop-i.invariant c.in_ok-read_mapping.ensures)

pub returns-in_err-read_mapping : goal.returns-in_err-read_mapping
returns-in_err-read_mapping c =
    let p = err_from_is_err_and c.from_residual.result c.from_residual.ensures.1 in
    rw (p.1, p.2) (mappings_refused_at mapping_view c.loop-i.mappings c.args.list.now c.loop-i.i (tree_of c.item.result.now) c.in_err-read_mapping.field-0.0 _ c.item.ensures c.loop-i.invariant c.in_err-read_mapping.ensures)
