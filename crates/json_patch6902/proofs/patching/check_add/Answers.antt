use Rattle.std.proofs.Common.{refl, sym, ◌∙◌}
use Rattle.n32_values.specs.View.{tree_of}
use Rattle.json_patch6902.proofs.OpLaws.{deeper, no_deeper, added_deep}
use Rattle.json_patch6902.proofs.patching.check_add.Goals as goal

pub returns-then-is_too_deep : goal.returns-then-is_too_deep
returns-then-is_too_deep c =
    let h = c.in_ok-takes_at.ensures (tree_of c.args.value.now) in
    (added_deep c.args.path.now (tree_of c.args.value.now) (tree_of c.args.node.now) h.0 (deeper 127 _ (sym c.is_too_deep.ensures.deep ∙ c.if-is_too_deep.true)) h.1, refl)

pub returns : goal.returns
returns c =
    let h = c.in_ok-takes_at.ensures (tree_of c.args.value.now) in record {
      within = no_deeper 127 _ (sym c.is_too_deep.ensures.deep ∙ c.if-is_too_deep.false);
      result = h.0;
      there = h.1;
      value = c.is_too_deep.ensures.tree;
    }
