use Rattle.std.proofs.Common.{◌≡◌, true, sym, subst, ◌∙◌}
use Rattle.spec_documents.specs.Tree.{Tree, is_tree}
use Rattle.http_message.specs.Reading.{message_view}
use Rattle.block_patch.proofs.Results.{ordered_of, kept, moved}
use Rattle.block_patch.proofs.step.message_of.Goals as goal

pub returns-then-not-has_same_places : goal.returns-then-not-has_same_places
returns-then-not-has_same_places c =
    let w = c.args.reading.0 in
    let n = c.args.reading.1 in
    let ordered = ordered_of w (subst (λ (t : Tree). is_tree t ≡ true) c.doc.ensures.value c.node-known.ensures.tree) in
    let b = c.fault_decides.ensures.block w n ordered c.doc.ensures.right in
    moved n c.args.holes.now c.holes.result.now w b.0 ordered c.doc.ensures.right (c.block_has_one_message.ensures.computed w n b.0 b.1) c.holes.ensures (sym c.has_same_places.ensures ∙ c.if-not-has_same_places.true)

pub returns-in-Ok : goal.returns-in-Ok
returns-in-Ok c =
    let w = c.args.reading.0 in
    let n = c.args.reading.1 in
    kept n c.args.holes.now c.holes.result.now w (message_view c.in-Ok.message) (ordered_of w (subst (λ (t : Tree). is_tree t ≡ true) c.doc.ensures.value c.node-known.ensures.tree)) c.doc.ensures.right c.in-Ok.ensures c.holes.ensures (sym c.has_same_places.ensures ∙ c.if-not-has_same_places.false)
