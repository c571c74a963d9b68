use Rattle.std.proofs.Common.{◌+◌, sym, ◌∙◌}
use Rattle.n32_values.specs.View.{tree_of}
use Rattle.block_forms.proofs.PathLists.{path_more, path_passed, pathless_met}
use Rattle.block_forms.proofs.paths.read_paths.Goals as goal

pub loop-i-preserved : goal.loop-i-preserved
loop-i-preserved c =
    let path = sym c.in_ok-path.ensures ∙ c.in-Some.is in record {
      paths = c.in_ok-push-in-Some.ensures.ok ∙ path_more c.args.list.now c.loop-i.i (tree_of c.item.result.now) c.in-Some.path c.loop-i.paths c.item.ensures path c.loop-i.invariant.paths;
      first = sym (path_passed c.args.list.now c.loop-i.i (c.loop-i.i + 1) (tree_of c.item.result.now) c.in-Some.path c.item.ensures path) ∙ c.loop-i.invariant.first;
    }

pub returns-in-None : goal.returns-in-None
returns-in-None c =
    sym c.loop-i.invariant.first ∙ pathless_met c.args.list.now c.loop-i.i (c.loop-i.i + 1) (tree_of c.item.result.now) c.item.ensures (sym c.in_ok-path.ensures ∙ c.in-None.is)
