use Rattle.std.proofs.Common.{◌≡◌, None, sym, ap, ◌∙◌}
use Rattle.spec_documents.specs.Tree.{members, get_member}
use Rattle.json_patch6902.proofs.EditSteps.{drop_none, taken_none}
use Rattle.json_patch6902.proofs.change.change_member.Goals as goal

pub returns-in-None-clause-edit : goal.returns-in-None-clause-edit
returns-in-None-clause-edit c =
    let none : get_member c.args.name.now c.args.map.now ≡ None = rw c.as_str.ensures at (sym c.in-None.ensures.taken) in
    (rw c.in-Take.is (taken_none c.args.name.now c.args.map.now none), ap members ((rw c.as_str.ensures at c.in-None.ensures.after) ∙ drop_none c.args.name.now c.args.map.now none))
