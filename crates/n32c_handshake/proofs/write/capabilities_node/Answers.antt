use Rattle.std.proofs.Common.{ap, ◌∙◌, ◌≤◌, length, map, arith}
use Rattle.std.proofs.lemmas.List.{take_all}
use Rattle.spec_documents.specs.Tree.{items, trees, words}
use Rattle.spec_handshake.specs.Documents.{capability_text}
use Rattle.policy_documents.proofs.PrintLemmas.{nodes_step}
use Rattle.n32c_handshake.specs.View.{capability_view}
use Rattle.n32c_handshake.proofs.write.capabilities_node.Goals as goal

pub loop-i-preserved : goal.loop-i-preserved
loop-i-preserved c = nodes_step (λ z. words (capability_text z)) capability_view c.args.capabilities.now c.loop-i.i c.item.result.now c.loop-i.list _ (words c.in_ok-word.word) c.item.ensures c.loop-i.invariant c.in_ok-push.ensures.ok (ap words (c.in_ok-word.ensures ∙ c.name.ensures))

pub returns : goal.returns
returns c =
    let all : length c.args.capabilities.now ≤ c.loop-i.i = omega arith in
    ap items (ap trees (c.loop-i.invariant ∙ ap (λ ys. map (λ z. words (capability_text z)) (map capability_view ys)) (take_all c.loop-i.i c.args.capabilities.now all)))
