use Rattle.std.proofs.Common.{◌≡◌, ap, sym, ◌∙◌}
use Rattle.spec_messages.specs.Block.{body_of}
use Rattle.block_forms.specs.Paths.{paths_of}
use Rattle.block_forms.specs.Kept.{items_with, payload_of}
use Rattle.block_forms.proofs.Grafting.{body_grafted}
use Rattle.block_forms.proofs.body.clear_body.Goals as goal

pub returns : goal.returns
returns c =
    let same : c.in-Some.items.now ≡ payload_of c.args.doc.now = c.in-Some.ensures ∙ ap payload_of c.node.ensures.value in
    body_grafted c.args.paths.now c.in-Some.items.now _ (c.requires.paths ∙ ap paths_of (sym same)) (λ e. c.if-len-eq0.false (c.len.ensures ∙ e)) (c.from_shallow.ensures ∙ c.in_ok-node.ensures)
    ∙ ap (λ ts. body_of (items_with c.args.paths.now ts)) same
