use Rattle.std.proofs.Common.{◌≡◌, ap, ◌∙◌, ◌∷◌, []}
use Rattle.std.specs.Prelude.{codes}
use Rattle.spec_documents.specs.Tree.{items, trees, object, put_member}
use Rattle.prins_document.proofs.WrittenValues.{written_back}
use Rattle.prins_document.proofs.values.values_text.Goals as goal

pub returns-clause-reads_back : goal.returns-clause-reads_back
returns-clause-reads_back c h =
    let built : c.put.new.map ≡ object ((codes "dataToEncrypt", items (trees c.args.values)) ∷ []) =
    c.in_ok-put.ensures.ok ∙ ap (put_member (codes "dataToEncrypt") (items (trees c.args.values))) c.new-object.ensures in
    written_back c.in_ok-text.text c.args.values c.put.new.map built h c.in_ok-text.ensures.reads_back (c.documents_are_read.ensures.there c.in_ok-text.text)
