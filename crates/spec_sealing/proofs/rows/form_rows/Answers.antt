use Rattle.std.proofs.Common.{refl}
use Rattle.spec_documents.specs.Chain as chain
use Rattle.spec_sealing.proofs.rows.form_rows.Goals as goal

pub returns-clause-document : goal.returns-clause-document
unfolding chain.◌>>=◌
returns-clause-document c = refl

pub returns-clause-absent : goal.returns-clause-absent
unfolding chain.◌>>=◌
returns-clause-absent c = refl

pub returns-clause-text : goal.returns-clause-text
unfolding chain.◌>>=◌
returns-clause-text c = refl

pub returns-clause-jwe : goal.returns-clause-jwe
unfolding chain.◌>>=◌
returns-clause-jwe c = refl

pub returns-clause-three : goal.returns-clause-three
returns-clause-three c = refl

pub returns-clause-two : goal.returns-clause-two
returns-clause-two c = refl

pub returns-clause-no_list : goal.returns-clause-no_list
returns-clause-no_list c = refl

pub returns-clause-null_list : goal.returns-clause-null_list
returns-clause-null_list c = refl

pub returns-clause-metadata : goal.returns-clause-metadata
returns-clause-metadata c = refl

pub returns-clause-no_metadata : goal.returns-clause-no_metadata
returns-clause-no_metadata c = refl
