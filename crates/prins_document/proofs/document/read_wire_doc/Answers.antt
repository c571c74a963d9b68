use Rattle.jwe_flat.specs.View.{jwe_view}
use Rattle.prins_document.specs.View.{parts_view}
use Rattle.prins_document.proofs.DocumentRead.{document_read}
use Rattle.prins_document.proofs.document.read_wire_doc.Goals as goal

pub returns : goal.returns
returns c =
    let form = rw c.node.ensures.value at c.in_ok-map.ensures in
    let block = rw c.as_str.ensures at c.in_ok-block.ensures.block in
    document_read c.args.doc.now c.in_ok-map.map.now c.in_ok-data.data.now (jwe_view c.in_ok-jwe.jwe) c.in_ok-block.block.doc (λ entries. parts_view entries c.whole_of.result)
    form c.in_ok-data.ensures c.in_ok-jwe.ensures block c.in_ok-check_entries.ensures c.whole_of.ensures
