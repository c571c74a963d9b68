use Rattle.std.proofs.Common.{refl}
use Rattle.base64.specs.Rfc4648 as rfc
use Rattle.spec_documents.proofs.rows.text_rows.Goals as goal

pub returns-clause-one : goal.returns-clause-one
unfolding rfc.encode_symbols
returns-clause-one c = refl

pub returns-clause-left_over : goal.returns-clause-left_over
unfolding rfc.encode_symbols
returns-clause-left_over c = refl

pub returns-clause-empty : goal.returns-clause-empty
unfolding rfc.encode_symbols
returns-clause-empty c = refl

pub returns-clause-padded : goal.returns-clause-padded
unfolding rfc.encode_symbols
returns-clause-padded c = refl

pub returns-clause-single : goal.returns-clause-single
unfolding rfc.encode_symbols
returns-clause-single c = refl

pub returns-clause-last : goal.returns-clause-last
unfolding rfc.encode_symbols
returns-clause-last c = refl
