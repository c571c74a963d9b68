use Rattle.std.proofs.Common.{[], None, sym, ap, ◌∙◌}
use Rattle.std.proofs.lemmas.Map.Text.{btree_map_updates_str}
use Rattle.std.specs.Option.{option_map_or}
use Rattle.message_differences.proofs.NameLemmas.{items_after}
use Rattle.message_differences.proofs.named.taken.Goals as goal

pub returns-in-Some-clause-items : goal.returns-in-Some-clause-items
returns-in-Some-clause-items c = ap (λ o. option_map_or (λ g. g.items) o []) (sym c.in-Some.is ∙ c.remove.ensures.value)

pub returns-in-Some-clause-others : goal.returns-in-Some-clause-others
returns-in-Some-clause-others c = λ q. items_after c.args.name.now q c.args.groups.now c.remove.new.self None (btree_map_updates_str c.args.name.now c.args.groups.now c.remove.new.self None c.remove.ensures.updates q)

pub returns-in-None-clause-items : goal.returns-in-None-clause-items
returns-in-None-clause-items c = c.new.ensures.items ∙ ap (λ o. option_map_or (λ g. g.items) o []) (sym c.in-None.is ∙ c.remove.ensures.value)

pub returns-in-None-clause-others : goal.returns-in-None-clause-others
returns-in-None-clause-others c = λ q. items_after c.args.name.now q c.args.groups.now c.remove.new.self None (btree_map_updates_str c.args.name.now c.args.groups.now c.remove.new.self None c.remove.ensures.updates q)
