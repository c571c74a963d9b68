use Rattle.n32_values.specs.View.{tree_of}
use Rattle.jwe_flat.specs.View.{jwe_view}
use Rattle.jwe_flat.proofs.Written.{read_back}
use Rattle.jwe_flat.proofs.write.jwe_doc.Goals as goal

pub returns-clause-back : goal.returns-clause-back
returns-clause-back c parts texts =
    read_back (jwe_view c.args.jwe.now) (tree_of c.in_ok-node.node) c.in_ok-node.ensures (c.written_jwe_is_read.ensures (jwe_view c.args.jwe.now) parts texts)
