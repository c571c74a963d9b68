use Rattle.std.specs.Prelude.{option_and_then}
use Rattle.std.proofs.lemmas.Result.{err_from_is_err_and}
use Rattle.spec_documents.specs.Base64url.{bytes_of}
use Rattle.spec_documents.specs.Reading.{document_of}
use Rattle.block_forms.specs.Metadata.{meta_view}
use Rattle.prins_document.specs.View.{part_told}
use Rattle.prins_document.proofs.BlockRead.{block_refused, block_read, meta_read, in_grammar}
use Rattle.prins_document.proofs.block.read_block.Goals as goal

pub returns-in_err-meta-clause-block : goal.returns-in_err-meta-clause-block
returns-in_err-meta-clause-block c =
    let p = err_from_is_err_and c.from_residual-in_err-meta.result c.from_residual-in_err-meta.ensures.1 in
    rw (p.1, p.2) (block_refused (option_and_then document_of (bytes_of c.args.aad.now)) c.in_ok-doc.doc c.in_ok-doc.ensures (part_told c.in_err-meta.field-0.0) c.in_err-meta.ensures)

pub returns-clause-block : goal.returns-clause-block
returns-clause-block c = block_read (option_and_then document_of (bytes_of c.args.aad.now)) c.in_ok-doc.doc c.in_ok-doc.ensures (meta_view c.in_ok-meta.meta) c.in_ok-meta.ensures

pub returns-clause-meta : goal.returns-clause-meta
returns-clause-meta c = meta_read (option_and_then document_of (bytes_of c.args.aad.now)) c.in_ok-doc.doc c.in_ok-doc.ensures (meta_view c.in_ok-meta.meta) c.in_ok-meta.ensures

pub returns-clause-grammar : goal.returns-clause-grammar
returns-clause-grammar c = in_grammar (option_and_then document_of (bytes_of c.args.aad.now)) c.in_ok-doc.doc c.in_ok-doc.ensures (meta_view c.in_ok-meta.meta) c.in_ok-meta.ensures
