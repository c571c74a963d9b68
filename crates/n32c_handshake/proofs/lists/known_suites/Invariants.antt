use Rattle.std.proofs.Common.{◌≡◌, map, drop}
use Rattle.jwe_flat.specs.View.{suite_view}
use Rattle.spec_records.specs.RecordDocument.{suite_of}
use Rattle.n32c_handshake.specs.Reading.{known_words}
use Rattle.n32c_handshake.proofs.Words.{with_front}
use Rattle.n32c_handshake.proofs.lists.known_suites.Given as goal

abbrev pub invariant-loop-i : goal.invariant-loop-i
invariant-loop-i l = with_front (map suite_view l.suites) (known_words suite_of (drop l.i l.list)) ≡ known_words suite_of l.list
