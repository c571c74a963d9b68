use Rattle.spec_messages.proofs.OutcomeLemmas.{outcome-made, outcome-allowed, outcome-refused, outcome-cause}
use Rattle.spec_messages.proofs.outcomes.operation_outcome_decides.Goals as goal

pub returns : goal.returns
returns c = record {
  made = λ g op r e. outcome-made g.policy g.mapping g.ipx g.holes g.tree g.clear op r e;
  allowed = λ g op r a. outcome-allowed g.policy g.mapping g.ipx g.holes g.tree g.clear op r g.block a;
  refused = λ g op why e. outcome-refused g.policy g.mapping g.ipx g.holes g.tree g.clear op why g.block e;
  cause = λ g op why h. outcome-cause g.policy g.mapping g.ipx g.holes g.tree g.clear op why g.block h;
}
