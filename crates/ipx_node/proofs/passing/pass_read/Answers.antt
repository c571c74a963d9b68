use Rattle.n32_values.specs.View.{tree_of}
use Rattle.prins_document.specs.View.{wire_view}
use Rattle.ipx_node.proofs.Passed.{passed_on}
use Rattle.ipx_node.proofs.passing.pass_read.Goals as goal

pub returns-clause-passes : goal.returns-clause-passes
returns-clause-passes g c =
    passed_on (g.G.Signer.meaning c.args.signer.now) (g.G.Signer.algorithm c.args.signer.now) c.args.config.now.identity c.args.config.now.operations c.args.doc.now (wire_view c.args.doc.now c.args.wire)
    (tree_of c.in_ok-entry.entry) c.in_ok-with_entry.field-0 c.requires.room c.in_ok-entry.ensures.entry c.in_ok-with_entry.ensures.whole
