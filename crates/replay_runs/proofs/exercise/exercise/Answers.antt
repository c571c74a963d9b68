use Rattle.std.proofs.Common.{Err, refl, ap, arith}
use Rattle.std.proofs.lemmas.Grind.{common_steps}
use Rattle.message_screens.specs.Screening.{rule_of}
use Rattle.replay_world.specs.Outsiders.{told, outsiders}
use Rattle.replay_runs.specs.Outsiders.{meanings_told}
use Rattle.replay_runs.proofs.Loaded.{told_any, bad_none, failed_bad, failed_complete}
use Rattle.replay_runs.proofs.Left.{same_counts}
use Rattle.replay_runs.proofs.ExerciseRuns.{exercise_told, exercise_failed, exercise_front, played_complete}
use Rattle.replay_runs.proofs.exercise.exercise.Goals as goal

-- the load failed
pub returns-in-Err-clause-summary : goal.returns-in-Err-clause-summary
returns-in-Err-clause-summary g c =
    told_any (meanings_told (g.G.Signer.algorithm c.args.signer.now) (g.G.Signer.meaning c.args.signer.now) (g.V.Verifier.meaning c.args.verifier.now) (g.R.ScreenRule.passes (rule_of c.args.screen.now))) _ λ means is.
    exercise_failed means c.args.messages (g.K.Keeper.held c.args.keeper.now) (g.K.Keeper.held c.begun_world.new.keeper) _ _ _ c.in-Err.fault _ c.from.ensures c.begun_world.ensures.same (record { keeper = c.begun_world.ensures.later; signer = omega arith; verifier = omega arith })

pub returns-in-Err-clause-front : goal.returns-in-Err-clause-front
returns-in-Err-clause-front g c = exercise_front _ _ _ _ _ _ _ _ _ (returns-in-Err-clause-summary g c)

pub returns-in-Err-clause-bad : goal.returns-in-Err-clause-bad
returns-in-Err-clause-bad g c = failed_bad (g.K.Keeper.held c.args.keeper.now) c.in-Err.fault _ _ c.from.ensures c.in-Err.ensures.journal (record { sink_stays = refl; held_stays = c.begun_world.ensures.same })

pub returns-in-Err-clause-complete : goal.returns-in-Err-clause-complete
returns-in-Err-clause-complete g c = failed_complete (g.K.Keeper.held c.args.keeper.now) _ _ _ c.in-Err.fault _ c.from.ensures c.in-Err.ensures.journal (λ e. c.in-Err.ensures.failed (ap (λ x. Err x) e))

-- the lent keeper ends as the machine left it
pub returns-clause-summary : goal.returns-clause-summary
returns-clause-summary g c =
    told_any (meanings_told (g.G.Signer.algorithm c.args.signer.now) (g.G.Signer.meaning c.args.signer.now) (g.V.Verifier.meaning c.args.verifier.now) (g.R.ScreenRule.passes (rule_of c.args.screen.now))) _ λ means is.
    exercise_told means (λ m. told (g.K.Keeper.held m.keeper.now) (g.K.Keeper.faults m.keeper.now) (outsiders (g.G.Signer.algorithm m.signer.now) (g.G.Signer.meaning m.signer.now) (g.G.Signer.faults m.signer.now) (g.V.Verifier.meaning m.verifier.now) (g.V.Verifier.faults m.verifier.now) (g.R.ScreenRule.passes (rule_of m.screen.now)))) (λ m. m.world.now) _ c.args.messages (g.K.Keeper.held c.args.keeper.now) _ _ c.run.new.machine _ _ _ _ _ _
    is c.in-Ok.ensures.begun (λ a b n line h. h) c.begun_world.ensures.same (record { keeper = c.begun_world.ensures.later; signer = omega arith; verifier = omega arith }) (grind (arith, common_steps)) (same_counts (grind (arith, common_steps)) (grind (arith, common_steps)) (grind (arith, common_steps))) c.from-2.ensures c.run.ensures.ends

pub returns-clause-front : goal.returns-clause-front
returns-clause-front g c = exercise_front _ _ _ _ _ _ _ _ _ (returns-clause-summary g c)

pub returns-clause-bad : goal.returns-clause-bad
returns-clause-bad g c = bad_none (g.K.Keeper.held c.args.keeper.now) (g.K.Keeper.held c.begun_world.new.keeper) _ c.begun_world.ensures.same c.in-Ok.ensures.sound

pub returns-clause-complete : goal.returns-clause-complete
returns-clause-complete g c = played_complete _ _ c.args.messages _ _ _ _ (g.K.Keeper.held c.args.keeper.now) _ _ c.run.result c.from-2.result c.from-2.ensures c.run.ensures.write_fault c.run.ensures.ends
