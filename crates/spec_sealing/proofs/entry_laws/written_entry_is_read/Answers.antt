use Rattle.spec_sealing.proofs.EntryWritten.{written-entry-read}
use Rattle.spec_sealing.proofs.entry_laws.written_entry_is_read.Goals as goal

pub returns : goal.returns
returns c a identity operations tag signature ops can = written-entry-read identity operations tag signature ops can a
