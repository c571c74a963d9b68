use Rattle.std.proofs.Common.{ap}
use Rattle.spec_documents.specs.Tree.{members}
use Rattle.spec_documents.specs.Compact.{compact_text}
use Rattle.spec_documents.proofs.Decoding.{document_of-reads}
use Rattle.spec_documents.proofs.RoundTrip.{reads_back}
use Rattle.spec_exercise.specs.Summary.{has_member}
use Rattle.spec_exercise.proofs.laws.answers_have_their_members.Goals as goal

pub returns : goal.returns
returns c name ms document shallow =
    ap (has_member name) (document_of-reads (compact_text (members ms)) (members ms) (reads_back (members ms) document shallow))
