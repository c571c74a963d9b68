use Rattle.std.proofs.Common.{map, filter, ap, ◌∙◌}
use Rattle.message_differences.specs.Named.{named_view, stays}
use Rattle.message_differences.proofs.FindLemmas.{take_end}
use Rattle.message_differences.proofs.NameLemmas.{filter_view}
use Rattle.message_differences.proofs.names.unchanged.Goals as goal

pub returns : goal.returns
returns c =
    ap (map named_view) (c.loop-named.invariant ∙ ap (filter (λ n. stays c.args.verdicts.now n.name.now)) (take_end c.args.list.now c.loop-named.named-index c.loop-named-test.false))
    ∙ filter_view (λ a. stays c.args.verdicts.now a.0) named_view c.args.list.now
