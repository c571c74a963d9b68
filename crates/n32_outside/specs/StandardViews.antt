-- What is seen of a source over a reader and a sink over a writer.
use Rattle.std.specs.Prelude.{ℕ}
use Rattle.n32_outside.specs.declared.standard.StdSource.{StdSource}
use Rattle.n32_outside.specs.declared.standard.StdSink.{StdSink}

-- the reader
abbrev pub source_reader : {R : Type 0} → StdSource R → R
source_reader s = s.reader

-- how often the reader has failed
abbrev pub reader_faults : {R : Type 0} → StdSource R → ℕ
reader_faults s = s.faults

-- the writer
abbrev pub sink_writer : {W : Type 0} → StdSink W → W
sink_writer s = s.writer

-- how often the writer has failed, or taken nothing of a piece
abbrev pub writer_faults : {W : Type 0} → StdSink W → ℕ
writer_faults s = s.faults
