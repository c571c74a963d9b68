use Rattle.std.proofs.Common.{ap, ◌∙◌, ◌≤◌, length, map, arith}
use Rattle.std.proofs.lemmas.List.{take_all}
use Rattle.spec_documents.specs.Tree.{items, trees, words}
use Rattle.context_records.proofs.Lists.{texts_step}
use Rattle.context_records.proofs.write.texts_node.Goals as goal

pub loop-i-preserved : goal.loop-i-preserved
loop-i-preserved c = texts_step c.args.texts.now c.loop-i.i c.item.result.now c.loop-i.list _ _ c.item.ensures c.loop-i.invariant c.in_ok-push.ensures.ok (ap words c.in_ok-copy.ensures)

pub returns : goal.returns
returns c =
    let all : length c.args.texts.now ≤ c.loop-i.i = omega arith in
    ap items (ap trees (c.loop-i.invariant ∙ ap (map words) (take_all c.loop-i.i c.args.texts.now all)))
