use Rattle.std.proofs.Common.{◌≡◌, map, drop}
use Rattle.spec_messages.specs.Policy.{fits_segments}
use Rattle.http_message.specs.Reading.{part_view}
use Rattle.policy_documents.specs.View.{pattern_view}
use Rattle.policy_tables.proofs.mapping.fits_segments.Given as goal

abbrev pub invariant-loop-i : goal.invariant-loop-i
invariant-loop-i l = fits_segments (map pattern_view (drop l.i l.patterns)) (map part_view (drop l.i l.parts)) ≡ fits_segments (map pattern_view l.patterns) (map part_view l.parts)
