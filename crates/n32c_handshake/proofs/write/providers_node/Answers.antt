use Rattle.std.proofs.Common.{ap, ◌∙◌, ◌≤◌, length, map, take, arith}
use Rattle.std.proofs.lemmas.List.{take_all, map-id}
use Rattle.n32_values.specs.View.{tree_of}
use Rattle.spec_documents.specs.Tree.{items, trees}
use Rattle.spec_handshake.specs.Documents.{provider_tree}
use Rattle.policy_documents.proofs.PrintLemmas.{nodes_step}
use Rattle.n32c_handshake.proofs.write.providers_node.Goals as goal

pub loop-i-preserved : goal.loop-i-preserved
loop-i-preserved c = nodes_step provider_tree (λ s. s) c.args.identities.now c.loop-i.i c.item.result.now c.loop-i.list _ (tree_of c.in_ok-provider.provider) c.item.ensures c.loop-i.invariant c.in_ok-push.ensures.ok c.in_ok-provider.ensures

pub returns : goal.returns
returns c =
    let all : length c.args.identities.now ≤ c.loop-i.i = omega arith in
    ap items (ap trees (c.loop-i.invariant ∙ ap (map provider_tree) (map-id (take c.loop-i.i c.args.identities.now) ∙ take_all c.loop-i.i c.args.identities.now all)))
