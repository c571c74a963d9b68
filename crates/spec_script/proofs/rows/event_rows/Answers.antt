use Rattle.std.proofs.Common.{refl}
use Rattle.hex.specs.Hex.{decode_pairs}
use Rattle.spec_script.proofs.rows.event_rows.Goals as goal

pub returns-clause-short_key : goal.returns-clause-short_key
unfolding decode_pairs
returns-clause-short_key c = refl

pub returns-clause-large_first : goal.returns-clause-large_first
unfolding decode_pairs
returns-clause-large_first c = refl

pub returns-clause-keys : goal.returns-clause-keys
unfolding decode_pairs
returns-clause-keys c = refl

pub returns-clause-from_zero : goal.returns-clause-from_zero
unfolding decode_pairs
returns-clause-from_zero c = refl
