use Rattle.spec_handshake.proofs.PolicyLemmas.{same_policies}
use Rattle.spec_handshake.proofs.DifferenceLemmas.{no_difference, differ_at_mapping, differ_in_types}
use Rattle.spec_handshake.proofs.documents.first_difference_is_told.Goals as goal

pub returns-clause-equal : goal.returns-clause-equal
returns-clause-equal c = same_policies

pub returns-clause-none : goal.returns-clause-none
returns-clause-none c = no_difference

pub returns-clause-mapping : goal.returns-clause-mapping
returns-clause-mapping c = differ_at_mapping

pub returns-clause-types : goal.returns-clause-types
returns-clause-types c = differ_in_types
