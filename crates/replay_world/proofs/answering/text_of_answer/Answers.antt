use Rattle.std.proofs.Common.{refl}
use Rattle.message_screens.specs.Screening.{rule_of}
use Rattle.replay_world.proofs.Printed.{printed_ok, printed_refusal}
use Rattle.replay_world.proofs.Verified.{acted_on}
use Rattle.replay_world.proofs.answering.text_of_answer.Goals as goal

pub returns-in-Ok-clause-comes : goal.returns-in-Ok-clause-comes
returns-in-Ok-clause-comes g c =
    acted_on _ _ _ _ (λ x h. printed_ok (g.R.ScreenRule.passes (rule_of c.args.screen.now)) x (g.K.Keeper.held c.args.keeper.now) (g.K.Keeper.held c.answer_line.new.keeper) (g.K.Keeper.faults c.args.keeper.now) (g.K.Keeper.faults c.answer_line.new.keeper) c.args.world.now c.answer_line.new.world c.args.number c.args.line.now c.in-Ok.text h.comes) c.in-Ok.ensures.handles

pub returns-in-Err-Refused-clause-comes : goal.returns-in-Err-Refused-clause-comes
returns-in-Err-Refused-clause-comes g c =
    acted_on _ _ _ _ (λ x h. printed_refusal (g.R.ScreenRule.passes (rule_of c.args.screen.now)) x (g.K.Keeper.held c.args.keeper.now) (g.K.Keeper.held c.answer_line.new.keeper) (g.K.Keeper.faults c.args.keeper.now) (g.K.Keeper.faults c.answer_line.new.keeper) c.args.world.now c.answer_line.new.world c.args.number c.args.line.now c.in-Err-Refused.refusal c.refused_text.result
    (record { sites = λ s f e is. c.refusal_changes_nothing.ensures.sites (g.R.ScreenRule.passes (rule_of c.args.screen.now)) s f c.args.line.now e is; wire = λ s f e is. c.refusal_changes_nothing.ensures.wire (g.R.ScreenRule.passes (rule_of c.args.screen.now)) s f c.args.line.now e is })
    c.refused_text.ensures (λ e. h.failed (rw (c.in-Err-Refused.field-0-is, e) refl)) (rw c.in-Err-Refused.field-0-is at h.comes))
    c.in-Err-Refused.ensures.handles
