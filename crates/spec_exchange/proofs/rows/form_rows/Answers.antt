use Rattle.std.proofs.Common.{refl}
use Rattle.spec_documents.specs.Chain as chain
use Rattle.spec_exchange.proofs.rows.form_rows.Goals as goal

pub returns : goal.returns
unfolding chain.◌>>=◌
returns c = refl
