use Rattle.spec_exchange.proofs.IsolationLemmas.{document_apart, message_apart}
use Rattle.spec_exchange.proofs.runs.own_records_decide.Goals as goal

pub returns-clause-document : goal.returns-clause-document
returns-clause-document c = λ passes v records node id t named other. document_apart passes v records node id t named (λ full. other)

pub returns-clause-message : goal.returns-clause-message
returns-clause-message c = λ records node id o m other. message_apart records node id o m (λ full. other)
