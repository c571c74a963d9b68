use Rattle.replay_runs.proofs.laws.opened_contexts_agree.Goals as goal

pub returns : goal.returns
returns c m lines answers last answered by = c.opened_contexts_agree.ensures m 1 lines answers last answered by
