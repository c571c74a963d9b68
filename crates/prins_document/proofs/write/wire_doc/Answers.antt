use Rattle.std.proofs.Common.{◌∙◌, ap}
use Rattle.spec_sealing.specs.Received.{received}
use Rattle.jwe_flat.specs.View.{jwe_view}
use Rattle.prins_document.proofs.write.wire_doc.Goals as goal

pub returns-clause-back : goal.returns-clause-back
returns-clause-back c block parts texts is = ap received c.in_ok-doc.ensures ∙ c.carried_jwe_is_received.ensures (jwe_view c.args.jwe.now) block parts texts is
