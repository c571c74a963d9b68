use Rattle.std.proofs.Common.{ap, ◌∙◌, ◌≤◌, length, map, arith}
use Rattle.std.proofs.lemmas.List.{take_all}
use Rattle.spec_documents.specs.Tree.{items, trees, words}
use Rattle.spec_sealing.specs.Suites.{suite_name}
use Rattle.policy_documents.proofs.PrintLemmas.{nodes_step}
use Rattle.jwe_flat.specs.View.{suite_view}
use Rattle.n32c_handshake.proofs.write.suites_node.Goals as goal

pub loop-i-preserved : goal.loop-i-preserved
loop-i-preserved c = nodes_step (λ z. words (suite_name z)) suite_view c.args.suites.now c.loop-i.i c.item.result.now c.loop-i.list _ (words c.in_ok-word.word) c.item.ensures c.loop-i.invariant c.in_ok-push.ensures.ok (ap words (c.in_ok-word.ensures ∙ c.name.ensures))

pub returns : goal.returns
returns c =
    let all : length c.args.suites.now ≤ c.loop-i.i = omega arith in
    ap items (ap trees (c.loop-i.invariant ∙ ap (λ ys. map (λ z. words (suite_name z)) (map suite_view ys)) (take_all c.loop-i.i c.args.suites.now all)))
