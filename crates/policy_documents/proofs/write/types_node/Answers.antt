use Rattle.std.proofs.Common.{ap, ◌∙◌, ◌≤◌, length, map, arith}
use Rattle.std.proofs.lemmas.List.{take_all}
use Rattle.spec_documents.specs.Tree.{items, trees, words}
use Rattle.spec_messages.specs.PolicyDocument.{sort_tree}
use Rattle.policy_documents.specs.Words.{sort_view}
use Rattle.policy_documents.proofs.PrintLemmas.{nodes_step}
use Rattle.policy_documents.proofs.write.types_node.Goals as goal

pub loop-i-preserved : goal.loop-i-preserved
loop-i-preserved c = nodes_step sort_tree sort_view c.args.types.now c.loop-i.i c.item.result.now c.loop-i.list _ (words c.in_ok-word.word) c.item.ensures c.loop-i.invariant c.in_ok-push.ensures.ok (ap words (c.in_ok-word.ensures ∙ c.as_str.ensures))

pub returns : goal.returns
returns c =
    let all : length c.args.types.now ≤ c.loop-i.i = omega arith in
    ap items (ap trees (c.loop-i.invariant ∙ ap (λ ys. map sort_tree (map sort_view ys)) (take_all c.loop-i.i c.args.types.now all)))
