use Rattle.std.proofs.Common.{◌∷◌, [], ◌++◌, filter, bytes_eq, ap, ◌∙◌, if◌then◌else◌}
use Rattle.message_differences.specs.Named.{items_of}
use Rattle.message_differences.proofs.FindLemmas.{get_at, take_end}
use Rattle.message_differences.proofs.NameLemmas.{group_view, filter_more}
use Rattle.message_differences.proofs.named.grouped.Goals as goal

pub loop-named-preserved : goal.loop-named-preserved
loop-named-preserved c = λ q.
    c.in_ok-add.ensures q
    ∙ ap (λ name. if bytes_eq q name then items_of q c.loop-named.groups ++ c.named-item.result ∷ [] else items_of q c.loop-named.groups) c.as_str.ensures
    ∙ filter_more (λ n. bytes_eq q n.name.now) c.args.list.now c.loop-named.named-index c.named-item.result (items_of q c.loop-named.groups) (get_at c.args.list.now c.loop-named.named-index c.named-item.result c.loop-named-test.true c.named-item.is) (c.loop-named.invariant q)

pub returns : goal.returns
returns c = λ q. group_view q _ c.args.list.now (c.loop-named.invariant q ∙ ap (filter (λ n. bytes_eq q n.name.now)) (take_end c.args.list.now c.loop-named.named-index c.loop-named-test.false))
