use Rattle.std.proofs.Common.{◌∙◌, ap, map, option_map}
use Rattle.spec_records.specs.Records as spec
use Rattle.context_records.specs.View.{context_view, record_view}
use Rattle.context_cache.specs.Mirror.{fact_of}
use Rattle.context_store.proofs.Held.{opening_now}
use Rattle.context_store.proofs.noting.fact_now.Goals as goal

pub returns : goal.returns
returns c = c.fact.ensures ∙ ap (λ o. fact_of o (record_view c.args.item.now))
    (opening_now c.args.caches.now (map record_view c.args.records.now) (option_map (λ x. context_view x.now) c.opened_at.result) c.opened.result c.as_str.result.now (spec.node_of (record_view c.args.item.now)) c.name_of.result.1.value (spec.context_of (record_view c.args.item.now))
    c.requires c.opened_at.ensures c.opened.ensures (c.as_str.ensures ∙ c.name_of.ensures.node) c.name_of.ensures.id)
