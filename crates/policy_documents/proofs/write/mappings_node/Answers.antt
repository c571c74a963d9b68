use Rattle.std.proofs.Common.{ap, ◌∙◌, ◌≤◌, length, map, arith}
use Rattle.std.proofs.lemmas.List.{take_all}
use Rattle.spec_documents.specs.Tree.{items, trees}
use Rattle.spec_messages.specs.PolicyDocument.{mapping_tree}
use Rattle.n32_values.specs.View.{tree_of}
use Rattle.policy_documents.specs.View.{mapping_view}
use Rattle.policy_documents.proofs.PrintLemmas.{nodes_step}
use Rattle.policy_documents.proofs.write.mappings_node.Goals as goal

pub loop-i-preserved : goal.loop-i-preserved
loop-i-preserved c = nodes_step mapping_tree mapping_view c.args.mappings.now c.loop-i.i c.item.result.now c.loop-i.list _ (tree_of c.in_ok-mapping_doc.field-0) c.item.ensures c.loop-i.invariant c.in_ok-push.ensures.ok c.in_ok-mapping_doc.ensures

pub returns : goal.returns
returns c =
    let all : length c.args.mappings.now ≤ c.loop-i.i = omega arith in
    ap items (ap trees (c.loop-i.invariant ∙ ap (λ ys. map mapping_tree (map mapping_view ys)) (take_all c.loop-i.i c.args.mappings.now all)))
