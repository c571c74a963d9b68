use Rattle.std.proofs.Common.{◌≡◌, ◌+◌, ◌++◌, List, map, drop, sym, subst, refl}
use Rattle.block_forms.specs.declared.overlaps.Numbered.{Numbered}
use Rattle.block_forms.specs.Numbered.{number_view, numbered}
use Rattle.block_forms.proofs.Overlap.{numbered_more}
use Rattle.block_forms.proofs.overlaps.with_numbers.Goals as goal

pub loop-i-preserved : goal.loop-i-preserved
loop-i-preserved c =
    let paths = c.args.paths.now in
    let i = c.loop-i.i in
    subst (λ (es : List Numbered). map number_view es ++ numbered (i + 1 + 1) (drop (i + 1) paths) ≡ numbered 1 paths) (sym {A = List Numbered} c.in_ok-push.ensures.items)
    (numbered_more paths c.loop-i.items.items i _ refl c.item.ensures c.loop-i.invariant)
