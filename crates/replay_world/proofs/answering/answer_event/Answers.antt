use Rattle.replay_world.proofs.Signing.{signed_on}
use Rattle.replay_world.proofs.Verified.{acted_any, acted_signing, acted_verifying, under_on}
use Rattle.replay_world.proofs.answering.answer_event.Goals as goal

pub returns-in-Node-clause-handles : goal.returns-in-Node-clause-handles
returns-in-Node-clause-handles g c = rw c.in-Node.is (acted_any _ _ _ λ x. c.add_node.ensures (g.K.Keeper.held c.args.keeper.now) (g.K.Keeper.faults c.args.keeper.now) c.requires.ready.consistent)

pub returns-in-Inject-clause-handles : goal.returns-in-Inject-clause-handles
returns-in-Inject-clause-handles g c = rw c.in-Inject.is (acted_any _ _ _ λ x. c.inject.ensures (g.K.Keeper.held c.args.keeper.now) (g.K.Keeper.faults c.args.keeper.now) c.requires.ready.consistent)

pub returns-in-Alter-clause-handles : goal.returns-in-Alter-clause-handles
returns-in-Alter-clause-handles g c = rw c.in-Alter.is (acted_any _ _ _ λ x. c.alter.ensures (g.K.Keeper.held c.args.keeper.now) (g.K.Keeper.faults c.args.keeper.now) c.requires.ready.consistent)

pub returns-in-Restart-clause-handles : goal.returns-in-Restart-clause-handles
returns-in-Restart-clause-handles g c = rw c.in-Restart.is (acted_any _ _ _ λ x. c.restart.ensures (g.K.Keeper.held c.args.keeper.now) (g.K.Keeper.faults c.args.keeper.now) c.requires.ready.consistent)

pub returns-in-Reported-clause-handles : goal.returns-in-Reported-clause-handles
returns-in-Reported-clause-handles g c = rw c.in-Reported.is (acted_any _ _ _ λ x. c.reported.ensures (g.K.Keeper.held c.args.keeper.now) (g.K.Keeper.faults c.args.keeper.now) c.requires.ready.consistent)

pub returns-in-Context-clause-handles : goal.returns-in-Context-clause-handles
returns-in-Context-clause-handles g c = rw c.in-Context.is (acted_any _ _ _ λ x. c.hand_in_context.ensures)

pub returns-in-Keys-clause-handles : goal.returns-in-Keys-clause-handles
returns-in-Keys-clause-handles g c = rw c.in-Keys.is (acted_any _ _ _ λ x. c.hand_in_keys.ensures)

pub returns-in-Send-clause-handles : goal.returns-in-Send-clause-handles
returns-in-Send-clause-handles g c = rw c.in-Send.is (acted_any _ _ _ λ x. c.send.ensures)

pub returns-in-Deliver-clause-handles : goal.returns-in-Deliver-clause-handles
returns-in-Deliver-clause-handles g c = rw c.in-Deliver.is (acted_verifying _ _ _ (under_on _ _ _ _ _ (λ v h x. h) c.deliver.ensures.handles))

pub returns-in-Pass-clause-handles : goal.returns-in-Pass-clause-handles
returns-in-Pass-clause-handles g c = rw c.in-Pass.is (acted_signing _ _ _ (signed_on _ _ _ _ (λ x h v. h (g.K.Keeper.held c.args.keeper.now) (g.K.Keeper.faults c.args.keeper.now) c.requires.ready.consistent) c.pass.ensures.handles))

pub returns-in-Start-clause-handles : goal.returns-in-Start-clause-handles
returns-in-Start-clause-handles g c = rw c.in-Start.is (acted_any _ _ _ λ x. c.start.ensures)

pub returns-in-Answer-clause-handles : goal.returns-in-Answer-clause-handles
returns-in-Answer-clause-handles g c = rw c.in-Answer.is (acted_any _ _ _ λ x. c.answer.ensures)

pub returns-in-Finish-clause-handles : goal.returns-in-Finish-clause-handles
returns-in-Finish-clause-handles g c = rw c.in-Finish.is (acted_any _ _ _ λ x. c.finish.ensures)

pub returns-in-Terminate-clause-handles : goal.returns-in-Terminate-clause-handles
returns-in-Terminate-clause-handles g c = rw c.in-Terminate.is (acted_any _ _ _ λ x. c.terminate.ensures)

pub returns-in-Ended-clause-handles : goal.returns-in-Ended-clause-handles
returns-in-Ended-clause-handles g c = rw c.in-Ended.is (acted_any _ _ _ λ x. c.ended.ensures)
