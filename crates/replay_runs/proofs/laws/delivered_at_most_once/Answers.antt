use Rattle.spec_script.specs.Output.{begin}
use Rattle.replay_runs.proofs.laws.delivered_at_most_once.Goals as goal

pub returns-clause-once : goal.returns-clause-once
returns-clause-once c m records lines answers last answered node id kind message =
    c.delivered_at_most_once.ensures.once m (begin records) 1 lines answers last answered node id kind message

pub returns-clause-held : goal.returns-clause-held
returns-clause-held c m records lines answers last answered node id kind message e =
    c.delivered_at_most_once.ensures.held m (begin records) 1 lines answers last answered node id kind message e
