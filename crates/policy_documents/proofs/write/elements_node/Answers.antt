use Rattle.std.proofs.Common.{ap, ◌∙◌, ◌≤◌, length, map, arith}
use Rattle.std.proofs.lemmas.List.{take_all}
use Rattle.spec_documents.specs.Tree.{items, trees}
use Rattle.spec_messages.specs.PolicyDocument.{element_tree}
use Rattle.n32_values.specs.View.{tree_of}
use Rattle.policy_documents.specs.View.{element_view}
use Rattle.policy_documents.proofs.PrintLemmas.{nodes_step}
use Rattle.policy_documents.proofs.write.elements_node.Goals as goal

pub loop-i-preserved : goal.loop-i-preserved
loop-i-preserved c = nodes_step element_tree element_view c.args.elements.now c.loop-i.i c.item.result.now c.loop-i.list _ (tree_of c.in_ok-element_node.field-0) c.item.ensures c.loop-i.invariant c.in_ok-push.ensures.ok c.in_ok-element_node.ensures

pub returns : goal.returns
returns c =
    let all : length c.args.elements.now ≤ c.loop-i.i = omega arith in
    ap items (ap trees (c.loop-i.invariant ∙ ap (λ ys. map element_tree (map element_view ys)) (take_all c.loop-i.i c.args.elements.now all)))
