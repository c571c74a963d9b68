use Rattle.std.proofs.Common.{List, Ok, slice_set, sym, ap, ◌∙◌}
use Rattle.spec_documents.specs.Tree.{Tree, items, trees}
use Rattle.n32_values.specs.View.{tree_of}
use Rattle.json_patch6902.proofs.NewPlaces.{item_child}
use Rattle.json_patch6902.proofs.EditSteps.{at_last, there_is, taken_item, replaced_item}
use Rattle.json_patch6902.proofs.change.change_item.Goals as goal

pub returns-in-Some-clause-edit : goal.returns-in-Some-clause-edit
returns-in-Some-clause-edit c =
    rw c.in-Take.is (taken_item c.args.token.now c.args.list.now c.in_ok-i-in-Take.i (tree_of c.in-Some.node) c.in_ok-i-in-Take.ensures (sym c.in-Some.ensures.taken) ∙ ap (λ (ts : List Tree). Ok (items (trees ts))) (sym c.in-Some.ensures.after))

pub returns-in-Some-clause-taken : goal.returns-in-Some-clause-taken
returns-in-Some-clause-taken c =
    rw c.in-Take.is (at_last c.args.token.now (items (trees c.args.list.now)) (tree_of c.in-Some.node) (item_child c.args.token.now c.args.list.now c.in_ok-i-in-Take.i (tree_of c.in-Some.node) c.in_ok-i-in-Take.ensures (sym c.in-Some.ensures.taken)))

pub returns-in-None-clause-edit : goal.returns-in-None-clause-edit
returns-in-None-clause-edit c = absurd (there_is c.args.list.now c.in_ok-i-in-Take.i c.in_ok-i-in-Take.ensures.within (sym c.in-None.ensures.taken))

pub returns-in-Some-get_mut-clause-edit : goal.returns-in-Some-get_mut-clause-edit
returns-in-Some-get_mut-clause-edit c =
    rw c.in-Replace.is (replaced_item c.args.token.now c.args.list.now c.in_ok-i-in-Replace.i (tree_of c.in-Some-get_mut.item.now) (tree_of c.in-Replace.value) c.in_ok-i-in-Replace.ensures (sym c.in-Some-get_mut.ensures.value)
    ∙ ap (λ n. Ok (items (trees (slice_set c.args.list.now c.in_ok-i-in-Replace.i (tree_of n))))) (sym c.replace.ensures.after))

pub returns-in-None-get_mut-clause-edit : goal.returns-in-None-get_mut-clause-edit
returns-in-None-get_mut-clause-edit c = absurd (there_is c.args.list.now c.in_ok-i-in-Replace.i c.in_ok-i-in-Replace.ensures.within (sym c.in-None-get_mut.ensures.value))
