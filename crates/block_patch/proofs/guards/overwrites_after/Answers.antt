use Rattle.std.proofs.Common.{◌≡◌, IfOk, sym, ◌∙◌, subst}
use Rattle.spec_documents.specs.Patch.{removed}
use Rattle.block_patch.proofs.Overwriting.{after_there, after_nothing}
use Rattle.block_patch.proofs.guards.overwrites_after.Goals as goal

pub returns-in-Some : goal.returns-in-Some
returns-in-Some c =
    subst (λ x. IfOk c.overwrites_hole.result (λ b. b ≡ x))
    (after_there (removed c.args.from.now c.args.block.now) c.in-Some.doc c.args.path.now (sym c.in-Some.is ∙ c.in_ok-doc.ensures)) c.overwrites_hole.ensures

pub returns-in-None : goal.returns-in-None
returns-in-None c = after_nothing (removed c.args.from.now c.args.block.now) c.args.path.now (sym c.in-None.is ∙ c.in_ok-doc.ensures)
