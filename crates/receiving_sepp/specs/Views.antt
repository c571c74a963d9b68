-- What the program's values are, in the words of the definitions.
use Rattle.std.specs.Prelude.{List, [], unwrap_or}
use Rattle.spec_documents.specs.Hole.{bad_hole, twice, missing}
use Rattle.spec_documents.specs.Tree.{Tree}
use Rattle.spec_messages.specs.Fault as block
use Rattle.spec_messages.specs.Rebuilt.{not_text, too_deep}
use Rattle.http_message.specs.Reading.{kind_view, message_view}
use Rattle.policy_tables.specs.View.{address_view}
use Rattle.enc_index.specs.Places.{place_view}
use Rattle.block_forms.specs.Faults.{limit_view}
use Rattle.block_forms.specs.declared.fault.BlockWhy.{BlockWhy}
use Rattle.block_forms.specs.declared.fault.BlockWhy.TheVariants as blocks
use Rattle.jwe_flat.specs.View.{misfit_view}
use Rattle.prins_document.specs.View.{entries_of}
use Rattle.context_records.specs.View.{context_view, key_set_view}
use Rattle.spec_exchange.specs.Rebuilding as rebuilding
use Rattle.spec_exchange.specs.ReceivingRefusals as receiving
use Rattle.spec_exchange.specs.AcceptRefusals as spec
use Rattle.spec_exchange.specs.AcceptRefusals.{Receiving}
use Rattle.spec_exchange.specs.Asked as asked
use Rattle.spec_exchange.specs.Stages as stages
use Rattle.entry_checks.specs.Views as entries
use Rattle.receiving_sepp.specs.declared.refused.RebuildWhy.{RebuildWhy}
use Rattle.receiving_sepp.specs.declared.refused.RebuildWhy.TheVariants.{Values, Block, NotText, Depth}
use Rattle.receiving_sepp.specs.declared.refused.Refused.{Refused}
use Rattle.receiving_sepp.specs.declared.refused.Refused.TheVariants as refused
use Rattle.receiving_sepp.specs.Groups as groups
use Rattle.receiving_sepp.specs.declared.opening.KeyedContext.{KeyedContext}
use Rattle.receiving_sepp.specs.declared.opening.Unsealed.{Unsealed}
use Rattle.receiving_sepp.specs.declared.mapping.MappedBy.{MappedBy}
use Rattle.receiving_sepp.specs.declared.mapping.MappedBy.TheVariants.{ItsHead, ItsRequest}
use Rattle.receiving_sepp.specs.declared.rebuilding.Rebuilt.{Rebuilt}
use Rattle.receiving_sepp.specs.declared.rebuilding.Revealed.{Revealed}
use Rattle.receiving_sepp.specs.declared.opened.Outline.{Outline}
use Rattle.receiving_sepp.specs.declared.opened.Opened.{Opened}

-- ---- refusals

abbrev pub fault_view : BlockWhy → block.BlockFault
fault_view (blocks.Member name) = block.bad_member name
fault_view (blocks.Limit which) = block.beyond (limit_view which)
fault_view (blocks.IePath k) = block.ie_path k
fault_view (blocks.Overlap k) = block.overlap k
fault_view (blocks.BadHole place) = block.bad_holes (bad_hole (place_view place))
fault_view (blocks.Twice n) = block.bad_holes (twice n)
fault_view (blocks.Missing n) = block.bad_holes (missing n)
fault_view blocks.Depth = block.deep

abbrev pub why_view : RebuildWhy → rebuilding.RebuildWhy
why_view Values = rebuilding.no_values
why_view (Block why) = rebuilding.no_block (fault_view why)
why_view (NotText n) = rebuilding.no_fill (not_text n)
why_view Depth = rebuilding.no_fill too_deep

abbrev pub refused_view : Refused → spec.Refusal
refused_view (refused.Form member) = Receiving (receiving.Form member)
refused_view refused.ContextNotFound = Receiving receiving.NoContext
refused_view refused.NoKeys = Receiving receiving.NoReceiveKeys
refused_view (refused.Cipher why) = Receiving (receiving.Cipher (misfit_view why))
refused_view refused.Integrity = Receiving receiving.Integrity
refused_view (refused.Replay number) = Receiving (receiving.Replay number)
refused_view refused.Unasked = spec.Unasked
refused_view (refused.Reconstruction why) = Receiving (receiving.Reconstruction (why_view why))
refused_view (refused.Policy address) = Receiving (receiving.InClear (address_view address))
refused_view (refused.Entry entry) = entries.refused_view entry
refused_view refused.Screen = spec.Screened
refused_view refused.Limit = Receiving receiving.NoRoom

-- ---- what the stages give

abbrev pub keyed_view : KeyedContext → stages.KeyedContext
keyed_view k = record { context = context_view k.context.now; key_set = key_set_view k.keys.now }

abbrev pub mapped_view : MappedBy → asked.MappedBy
mapped_view ItsHead = asked.ItsHead
mapped_view (ItsRequest mapping) = asked.ItsRequest mapping

abbrev pub unsealed_view : Unsealed → groups.Unsealed
unsealed_view u = record { context = context_view u.context.now; plain = u.plain; by = mapped_view u.by }

abbrev pub rebuilt_view : Rebuilt → groups.Rebuilt
rebuilt_view r = record { block = r.block; values = r.values; holed = message_view r.holed; content = message_view r.content }

-- what is compared with the policy
abbrev pub messages_view : Rebuilt → stages.Rebuilt
messages_view r = record { holed = message_view r.holed; content = message_view r.content }

abbrev pub revealed_view : Revealed → groups.Revealed
revealed_view r = record { rebuilt = rebuilt_view r.rebuilt; mapping = r.mapping }

-- what o says, with these entries
abbrev pub listed_view : List Tree → Outline → groups.Outline
listed_view entries o = record {
  tag = o.tag;
  authorized = o.authorized;
  context = o.context.value;
  kind = kind_view o.kind;
  message = o.message.value;
  entries = entries;
}

-- what o says of the document that it was read of
abbrev pub outline_view : Tree → Outline → groups.Outline
outline_view t o = listed_view (unwrap_or (entries_of t) []) o

abbrev pub opened_view : Tree → Opened → groups.Opened
opened_view t o = record { context = context_view o.context.now; outline = outline_view t o.outline; revealed = revealed_view o.revealed }
