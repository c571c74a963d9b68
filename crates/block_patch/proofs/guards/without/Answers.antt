use Rattle.std.proofs.Common.{◌≡◌, IfOk, ap, ◌∙◌, subst}
use Rattle.std.specs.Result.{result_ok}
use Rattle.spec_documents.specs.Patch.{patched}
use Rattle.block_patch.proofs.Overwriting.{removal_fits}
use Rattle.block_patch.proofs.guards.without.Goals as goal

pub returns-in-Ok : goal.returns-in-Ok
returns-in-Ok c =
    subst (λ x. IfOk c.made.result (λ d. d ≡ x))
    (ap (λ o. result_ok (patched c.args.block.now o)) c.in-Ok.ensures ∙ removal_fits c.args.from.now c.args.block.now c.node-known.ensures.shallow) c.made.ensures
