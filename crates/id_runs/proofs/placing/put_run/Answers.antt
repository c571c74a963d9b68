use Rattle.std.proofs.Common.{◌≡◌, ◌∙◌, ◌∷◌, ◌++◌, suc, take, drop, ap, arith}
use Rattle.std.proofs.lemmas.List.{set_split}
use Rattle.id_runs.proofs.Joined.{set_removed}
use Rattle.id_runs.proofs.placing.put_run.Goals as goal

pub returns-then-from-to-2 : goal.returns-then-from-to-2
returns-then-from-to-2 c =
    let next : suc c.args.from ≡ c.args.to = omega (arith, c.if-from-to-2.true) in
    set_split c.args.runs.now.items c.args.from c.args.run (omega arith)
    ∙ ap (λ n. take c.args.from c.args.runs.now.items ++ c.args.run ∷ drop n c.args.runs.now.items) next

pub returns-else-from-to-2 : goal.returns-else-from-to-2
returns-else-from-to-2 c = rw c.remove.ensures.items (set_removed c.args.runs.now.items c.args.from c.args.to c.args.run (omega arith) (omega arith))
