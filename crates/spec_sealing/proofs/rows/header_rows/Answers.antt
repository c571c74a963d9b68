use Rattle.std.proofs.Common.{refl}
use Rattle.json.specs.Print as print
use Rattle.base64.specs.Rfc4648 as rfc
use Rattle.spec_sealing.proofs.rows.header_rows.Goals as goal

pub returns-clause-short : goal.returns-clause-short
unfolding rfc.encode_symbols print.escape_byte
returns-clause-short c = refl

pub returns-clause-long : goal.returns-clause-long
unfolding rfc.encode_symbols print.escape_byte
returns-clause-long c = refl
