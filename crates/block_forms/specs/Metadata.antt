-- The metadata of a block, as the program reads it.
use Rattle.std.specs.Prelude.{◌≡◌, ⊤, Option, None, ◌&&◌, codes}
use Rattle.spec_documents.specs.Tree.{Tree, get_member}
use Rattle.spec_documents.specs.Text.{lower}
use Rattle.spec_messages.specs.Block as spec
use Rattle.spec_messages.specs.Block.{is_object, members_of}
use Rattle.spec_messages.specs.Fault.{is_meta_node, meta_of, or_null, when}
use Rattle.block_forms.specs.declared.meta.Meta.{Meta}
use Rattle.block_forms.specs.declared.meta.MetaTexts.{MetaTexts}
use Rattle.block_forms.specs.declared.meta.MetaRead.{MetaRead}
use Rattle.block_forms.specs.declared.meta.MetaRead.TheVariants.{Form, NoMemory}

abbrev pub meta_view : Meta → spec.Meta
meta_view m = record { context = m.context; message = m.message; ipx = m.ipx }

abbrev pub texts_view : MetaTexts → spec.Meta
texts_view m = record { context = m.context.now; message = m.message.now; ipx = m.ipx.now }

abbrev pub lower_ids : spec.Meta → spec.Meta
lower_ids m = record { context = lower m.context; message = lower m.message; ipx = m.ipx }

-- the metadata that a node is, if it is in the grammar
abbrev pub meta_node_in : Option Tree → Option spec.Meta
meta_node_in t = when (is_meta_node t) (meta_of (members_of (or_null t)))

-- the metadata of a document, if it has one in the grammar
abbrev pub meta_in : Tree → Option spec.Meta
meta_in j = when (is_object j && is_meta_node (get_member (codes "metaData") (members_of j))) (meta_of (members_of (or_null (get_member (codes "metaData") (members_of j)))))

abbrev pub RefusesMeta : MetaRead → Option spec.Meta → Type 0
RefusesMeta Form meta = meta ≡ None
RefusesMeta NoMemory meta = ⊤
