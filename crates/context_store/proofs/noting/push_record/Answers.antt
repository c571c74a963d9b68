use Rattle.std.proofs.Common.{◌∙◌, ◌∷◌, [], map, arith}
use Rattle.std.proofs.lemmas.List.{length-map, map-append}
use Rattle.context_records.specs.View.{record_view}
use Rattle.context_store.proofs.Held.{mirror_noted}
use Rattle.context_store.proofs.noting.push_record.Goals as goal

pub returns-clause-mirror : goal.returns-clause-mirror
returns-clause-mirror c =
    rw ((rw c.unwrap.ensures at c.push.ensures.items), map-append record_view c.args.records.now.items (c.args.item ∷ []))
    (mirror_noted c.args.caches.now c.note.new.self (map record_view c.args.records.now.items) (record_view c.args.item) c.as_str.result.now c.name_of.result.1.value c.len-number.result c.fact_now-fact.result
    c.requires.mirror (c.as_str.ensures ∙ c.name_of.ensures.node) c.name_of.ensures.id (omega (arith, length-map c.args.records.now.items record_view)) (rw c.as_slice.ensures.value at c.fact_now-fact.ensures) c.note.ensures)
