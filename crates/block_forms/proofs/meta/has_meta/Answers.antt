use Rattle.std.proofs.Common.{◌∙◌, ◌&&◌, codes}
use Rattle.spec_documents.specs.Tree.{get_member}
use Rattle.spec_messages.specs.Block.{is_object, members_of}
use Rattle.spec_messages.specs.Fault.{is_meta_node, meta_of, or_null}
use Rattle.n32_values.specs.View.{tree_of}
use Rattle.block_forms.specs.Metadata.{texts_view}
use Rattle.block_forms.proofs.Exactly.{some_when}
use Rattle.block_forms.proofs.meta.has_meta.Goals as goal

pub returns : goal.returns
returns c =
    let j = tree_of c.args.node.now in
    let m = get_member (codes "metaData") (members_of j) in
    c.is_some.ensures ∙ some_when texts_view c.meta_texts.result (is_object j && is_meta_node m) (meta_of (members_of (or_null m))) c.meta_texts.ensures
