use Rattle.std.proofs.Common.{rules}
use Rattle.std.proofs.lemmas.Fn.{always_returns_same}
use Rattle.std.proofs.lemmas.List.Sorted.{ranks_by}
use Rattle.std.specs.Ordering.{is_lt}
use Rattle.block_forms.specs.Paths.{path_cmp}
use Rattle.block_forms.proofs.Overlap.{path_order, in_order}
use Rattle.block_forms.proofs.overlaps.sort.Goals as goal

pub returns-clause-order : goal.returns-clause-order
returns-clause-order c =
    in_order _ (c.sort_unstable_by.ensures.sorted (λ x y. is_lt (path_cmp x.path.now y.path.now)) (ranks_by path_order (λ x. x.path.now)) (always_returns_same _ _ _ (λ a r f called. (search rules, search rules))))
