use Rattle.std.proofs.Common.{◌≡◌, None, Some, true, ap, sym, ◌∙◌}
use Rattle.std.proofs.lemmas.Bool.{and_parts}
use Rattle.spec_documents.specs.Tree.{is_ordered}
use Rattle.spec_documents.specs.Hole.{fill_all}
use Rattle.n32_values.specs.View.{tree_of}
use Rattle.enc_index.specs.Filling.{first_unfit}
use Rattle.enc_index.specs.Sites.{filled_at}
use Rattle.enc_index.specs.declared.site.Site.TheVariants.{Block}
use Rattle.enc_index.proofs.FitLemmas.{places-length, fits_fill, filling-filled, filling-deep}
use Rattle.enc_index.proofs.SiteLemmas.{block_filled}
use Rattle.enc_index.proofs.filling.fill.Goals as goal

pub unfit_value-requires : goal.unfit_value-requires
unfit_value-requires c = places-length c.args.block.now _ c.args.holes.now c.requires

pub returns-in-Ok-clause-outcome : goal.returns-in-Ok-clause-outcome
returns-in-Ok-clause-outcome c =
    let block = c.args.block.now in
    let values = c.args.values.now in
    let none : first_unfit 0 c.args.holes.now values ≡ None = sym c.unfit_value.ensures.value ∙ c.in_default.is in
    let ordered : is_ordered block ≡ true = (and_parts (is_ordered block) _ c.node.ensures.tree).0 in
    let filled : tree_of c.in_ok-filled.filled ≡ fill_all values block = c.in_ok-filled.ensures ∙ ap (filled_at Block values) c.node.ensures.value ∙ block_filled values block ordered in
    filling-filled c.args.holes.now values block c.in-Ok.doc (tree_of c.in_ok-filled.filled) none filled c.in-Ok.ensures.ok c.in-Ok.ensures.shallow

pub returns-in-Ok-clause-tree : goal.returns-in-Ok-clause-tree
returns-in-Ok-clause-tree c =
    let block = c.args.block.now in
    let values = c.args.values.now in
    let none : first_unfit 0 c.args.holes.now values ≡ None = sym c.unfit_value.ensures.value ∙ c.in_default.is in
    let ordered : is_ordered block ≡ true = (and_parts (is_ordered block) _ c.node.ensures.tree).0 in
    let filled : tree_of c.in_ok-filled.filled ≡ fill_all values block = c.in_ok-filled.ensures ∙ ap (filled_at Block values) c.node.ensures.value ∙ block_filled values block ordered in
    fits_fill block values c.args.holes.now c.requires none ∙ ap Some (sym (c.in-Ok.ensures.ok ∙ filled))

pub returns-clause-outcome : goal.returns-clause-outcome
returns-clause-outcome c =
    let block = c.args.block.now in
    let values = c.args.values.now in
    let none : first_unfit 0 c.args.holes.now values ≡ None = sym c.unfit_value.ensures.value ∙ c.in_default.is in
    let ordered : is_ordered block ≡ true = (and_parts (is_ordered block) _ c.node.ensures.tree).0 in
    let filled : tree_of c.in_ok-filled.filled ≡ fill_all values block = c.in_ok-filled.ensures ∙ ap (filled_at Block values) c.node.ensures.value ∙ block_filled values block ordered in
    filling-deep c.args.holes.now values block (tree_of c.in_ok-filled.filled) none filled c.in-Err.ensures.deep.1
