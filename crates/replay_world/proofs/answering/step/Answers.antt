use Rattle.message_screens.specs.Screening.{rule_of}
use Rattle.replay_world.specs.Outsiders.{outsiders, told}
use Rattle.replay_world.proofs.Held.{steps_told}
use Rattle.replay_world.proofs.answering.step.Goals as goal

pub returns-clause-steps : goal.returns-clause-steps
returns-clause-steps g c =
    steps_told (told (g.K.Keeper.held c.args.keeper.now) (g.K.Keeper.faults c.args.keeper.now) (outsiders (g.G.Signer.algorithm c.args.signer.now) (g.G.Signer.meaning c.args.signer.now) (g.G.Signer.faults c.args.signer.now) (g.V.Verifier.meaning c.args.verifier.now) (g.V.Verifier.faults c.args.verifier.now) (g.R.ScreenRule.passes (rule_of c.args.screen.now))))
    (told (g.K.Keeper.held c.text_of_answer.new.keeper) (g.K.Keeper.faults c.text_of_answer.new.keeper) (outsiders (g.G.Signer.algorithm c.text_of_answer.new.signer) (g.G.Signer.meaning c.text_of_answer.new.signer) (g.G.Signer.faults c.text_of_answer.new.signer) (g.V.Verifier.meaning c.text_of_answer.new.verifier) (g.V.Verifier.faults c.text_of_answer.new.verifier) (g.R.ScreenRule.passes (rule_of c.args.screen.now))))
    c.args.world.now c.text_of_answer.new.world c.args.number c.args.line.now c.text_of_answer.result c.text_of_answer.ensures.comes
