use Rattle.std.proofs.Common.{refl}
use Rattle.json.specs.Print as print
use Rattle.base64.specs.Rfc4648 as rfc
use Rattle.spec_documents.specs.Ids as ids
use Rattle.spec_exchange.proofs.rows.sealing_rows.Goals as goal

pub returns-clause-first : goal.returns-clause-first
unfolding rfc.encode_symbols
returns-clause-first c = refl

pub returns-clause-last : goal.returns-clause-last
unfolding rfc.encode_symbols
returns-clause-last c = refl

pub returns-clause-block : goal.returns-clause-block
unfolding print.escape_byte ids.id_text
returns-clause-block c = refl

pub returns-clause-values : goal.returns-clause-values
returns-clause-values c = refl
