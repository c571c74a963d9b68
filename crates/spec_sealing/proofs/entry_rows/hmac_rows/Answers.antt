use Rattle.std.proofs.Common.{refl}
use Rattle.sha2.specs.Sha256 as sha
use Rattle.spec_sealing.proofs.entry_rows.hmac_rows.Goals as goal

pub returns : goal.returns
unfolding sha.sha256 sha.first_words sha.schedule sha.rounds sha.compress sha.hash_after sha.digest_bytes
returns c = refl
