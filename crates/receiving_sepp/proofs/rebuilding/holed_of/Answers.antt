use Rattle.std.proofs.Common.{◌≡◌, true, subst}
use Rattle.spec_documents.specs.Tree.{Tree, is_tree}
use Rattle.http_message.specs.Reading.{message_view}
use Rattle.receiving_sepp.proofs.Filling.{ordered_of}
use Rattle.receiving_sepp.proofs.rebuilding.holed_of.Goals as goal

pub returns-in-Ok-clause-stands : goal.returns-in-Ok-clause-stands
returns-in-Ok-clause-stands c =
    let j = c.args.reading.0 in
    c.block_has_one_message.ensures.back j c.args._count (message_view c.in-Ok.all.message) (ordered_of j (subst (λ (t : Tree). is_tree t ≡ true) c.doc.ensures.value c.node-known.ensures.tree)) c.requires c.in-Ok.ensures.message
