use Rattle.std.proofs.Common.{ap}
use Rattle.spec_messages.specs.Message.{wanted}
use Rattle.policy_documents.proofs.TemplateLemmas.{no_slash}
use Rattle.policy_documents.proofs.template.read_patterns.Goals as goal

pub returns-in-None : goal.returns-in-None
unfolding lib.Utf8.encode
returns-in-None c = ap (λ o. wanted o c.args.k) (no_slash c.args.path.now c.in-None.ensures.cases)
