use Rattle.std.proofs.Common.{◌≡◌, ℕ, true, sym, ap, subst, ◌∙◌}
use Rattle.spec_documents.specs.Tree.{Tree, is_tree}
use Rattle.spec_documents.specs.Hole.{places}
use Rattle.http_message.specs.Reading.{message_view}
use Rattle.spec_messages.specs.Block.{IsBlock, clear_message}
use Rattle.block_patch.proofs.Results.{ordered_of}
use Rattle.block_patch.proofs.entry.opened.Goals as goal

pub returns-in-Ok-clause-value : goal.returns-in-Ok-clause-value
returns-in-Ok-clause-value c = c.into_doc-doc.ensures ∙ c.in-Ok.ensures.block ∙ ap (λ (r : Tree × ℕ). r.0) c.in_ok-reading.ensures

pub returns-in-Ok-clause-holes : goal.returns-in-Ok-clause-holes
returns-in-Ok-clause-holes c =
    let same : c.into_doc-doc.result ≡ c.args.block.now = c.into_doc-doc.ensures ∙ c.in-Ok.ensures.block ∙ ap (λ (r : Tree × ℕ). r.0) c.in_ok-reading.ensures in
    ap (λ (t : Tree). places t c.args.count) same ∙ ap (λ (r : Tree × ℕ). places r.0 r.1) (sym c.in_ok-reading.ensures) ∙ c.in-Ok.ensures.holes

pub returns-in-Ok-clause-block : goal.returns-in-Ok-clause-block
returns-in-Ok-clause-block c =
    let j = c.args.block.now in
    let m = message_view c.in-Ok.all.message in
    let same : c.into_doc-doc.result ≡ j = c.into_doc-doc.ensures ∙ c.in-Ok.ensures.block ∙ ap (λ (r : Tree × ℕ). r.0) c.in_ok-reading.ensures in
    let stands = ap (λ (r : Tree × ℕ). clear_message r.0) (sym c.in_ok-reading.ensures) ∙ c.in-Ok.ensures.message in
    subst (λ t. IsBlock t c.args.count m) (sym same)
    (c.block_has_one_message.ensures.back j c.args.count m (ordered_of j (subst (λ (t : Tree). is_tree t ≡ true) c.doc.ensures c.node-known.ensures.tree)) c.requires stands)
