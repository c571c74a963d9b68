use Rattle.spec_isolation.proofs.AloneLemmas.{run_alone, runs_alike}
use Rattle.spec_isolation.proofs.isolation.own_events_decide.Goals as goal

pub returns-clause-alone : goal.returns-clause-alone
returns-clause-alone c = run_alone

pub returns-clause-alike : goal.returns-clause-alike
returns-clause-alike c = runs_alike
