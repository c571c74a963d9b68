use Rattle.std.proofs.Common.{◌∷◌, [], ◌++◌, Some, ap, ◌∙◌}
use Rattle.std.proofs.lemmas.Map.Text.{btree_map_updates_str}
use Rattle.message_differences.proofs.NameLemmas.{items_after, group_grows}
use Rattle.message_differences.proofs.named.add.Goals as goal

pub returns : goal.returns
returns c = λ q.
    group_grows c.args.name.now q c.args.groups.now c.taken-group.new.groups c.insert.new.self c.push.new.self.items c.args.named
    (items_after c.args.name.now q c.taken-group.new.groups c.insert.new.self (Some c.push.new.self) (btree_map_updates_str c.args.name.now c.taken-group.new.groups c.insert.new.self (Some c.push.new.self) c.in_ok-insert.ensures.updates q))
    (c.taken-group.ensures.others q) (c.in_ok-push.ensures.items ∙ ap (λ g. g ++ c.args.named ∷ []) c.taken-group.ensures.items)
