use Rattle.std.proofs.Common.{sym, ◌∙◌}
use Rattle.http_message.specs.Reading.{request_line}
use Rattle.policy_documents.specs.View.{mapping_view}
use Rattle.policy_tables.proofs.MappingLemmas.{mapping_here, mapping_later}
use Rattle.policy_tables.proofs.mapping.mapping_of.Goals as goal

pub loop-i-preserved : goal.loop-i-preserved
loop-i-preserved c = mapping_later mapping_view c.mappings-mappings.result.now c.loop-i.i c.item.result.now (request_line c.args.request.now) _ c.item.ensures c.loop-i.invariant (sym c.fits.ensures ∙ c.if-fits.false)

pub returns-then-fits : goal.returns-then-fits
returns-then-fits c = mapping_here mapping_view c.mappings-mappings.result.now c.loop-i.i c.item.result.now (request_line c.args.request.now) _ c.item.ensures c.loop-i.invariant (sym c.fits.ensures ∙ c.if-fits.true)
