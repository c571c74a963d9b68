use Rattle.policy_documents.proofs.TemplateLemmas.{no_brace}
use Rattle.policy_documents.proofs.template.read_pattern.Goals as goal

pub returns-in-None : goal.returns-in-None
unfolding lib.Utf8.encode
returns-in-None c = rw (no_brace c.args.text.now c.in-None.ensures.cases) c.read_fixed.ensures
