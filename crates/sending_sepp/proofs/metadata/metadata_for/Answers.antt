use Rattle.context_records.specs.View.{context_view}
use Rattle.sending_sepp.proofs.Metas.{metadata_fits}
use Rattle.sending_sepp.proofs.metadata.metadata_for.Goals as goal

pub returns-clause-form : goal.returns-clause-form
returns-clause-form c =
    rw (c.in_ok-text_of.ensures.text, c.in_ok-text_of-2.ensures.text, c.in_ok-authorized.ensures)
    (metadata_fits (context_view c.args.context.now) c.args.message.value c.requires c.text_of.ensures.range c.text_of-2.ensures.range)
