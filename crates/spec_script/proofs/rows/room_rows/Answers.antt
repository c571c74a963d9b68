use Rattle.std.proofs.Common.{length, refl}
use Rattle.std.proofs.lemmas.Bool.{le-leb, lt-leb}
use Rattle.json.specs.Print.{escape_byte}
use Rattle.std.specs.Fmt.{digits}
use Rattle.spec_records.specs.Records.{record_limit}
use Rattle.spec_exchange.specs.Chain as chain
use Rattle.spec_script.proofs.rows.room_rows.Goals as goal

pub returns-clause-new_context : goal.returns-clause-new_context
unfolding chain.◌>>=◌
returns-clause-new_context c records fresh le = rw (fresh, le-leb record_limit (length records) le) refl

pub returns-clause-used_id : goal.returns-clause-used_id
unfolding chain.◌>>=◌
returns-clause-used_id c records before le = rw before refl

pub returns-clause-new_keys : goal.returns-clause-new_keys
unfolding chain.◌>>=◌
returns-clause-new_keys c records is_open none le = rw (is_open, none, le-leb record_limit (length records) le) refl

pub returns-clause-kept : goal.returns-clause-kept
unfolding chain.◌>>=◌
returns-clause-kept c records fresh lt = rw (fresh, lt-leb record_limit (length records) lt) refl

pub returns-clause-text : goal.returns-clause-text
unfolding escape_byte digits
returns-clause-text c = refl
