use Rattle.std.proofs.Common.{refl}
use Rattle.std.specs.Fmt.{digits}
use Rattle.json.specs.Print.{escape_byte}
use Rattle.spec_documents.specs.Ids as ids
use Rattle.spec_exchange.specs.Chain as chain
use Rattle.spec_script.proofs.rows.report_rows.Goals as goal

pub returns-clause-reported : goal.returns-clause-reported
unfolding chain.◌>>=◌ escape_byte digits ids.id_text
returns-clause-reported c = refl

pub returns-clause-none : goal.returns-clause-none
unfolding chain.◌>>=◌ escape_byte digits ids.id_text
returns-clause-none c = refl

pub returns-clause-node_first : goal.returns-clause-node_first
unfolding chain.◌>>=◌ escape_byte digits ids.id_text
returns-clause-node_first c = refl

pub returns-clause-made : goal.returns-clause-made
unfolding chain.◌>>=◌ escape_byte digits ids.id_text
returns-clause-made c t parts e k m = rw (e, k, m) refl

pub returns-clause-room : goal.returns-clause-room
unfolding chain.◌>>=◌ escape_byte digits ids.id_text
returns-clause-room c t parts e = rw e refl

pub returns-clause-first : goal.returns-clause-first
unfolding chain.◌>>=◌ escape_byte digits ids.id_text
returns-clause-first c t e f parts x h k m es form who = rw (h, k, m, es, form, who) refl

pub returns-clause-second : goal.returns-clause-second
unfolding chain.◌>>=◌ escape_byte digits ids.id_text
returns-clause-second c t e f parts x h k m es form who = rw (h, k, m, es, form, who) refl

pub returns-clause-formless : goal.returns-clause-formless
unfolding chain.◌>>=◌ escape_byte digits ids.id_text
returns-clause-formless c t parts h k m = rw (h, k, m) refl

pub returns-clause-verifier : goal.returns-clause-verifier
unfolding chain.◌>>=◌ escape_byte digits ids.id_text
returns-clause-verifier c t parts h = rw h refl

pub returns-clause-text : goal.returns-clause-text
unfolding chain.◌>>=◌ escape_byte digits ids.id_text
returns-clause-text c = refl

pub returns-clause-entry : goal.returns-clause-entry
unfolding chain.◌>>=◌ escape_byte digits ids.id_text
returns-clause-entry c = refl

pub returns-clause-refused : goal.returns-clause-refused
unfolding chain.◌>>=◌ escape_byte digits ids.id_text
returns-clause-refused c = refl
