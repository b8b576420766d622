-- What clauses see of a source over a reader and of a sink over a writer.
use Rattle.std.specs.Prelude.{Bool, ℕ}
use Rattle.ami_text.specs.declared.std_source.StdSource.{StdSource}
use Rattle.ami_text.specs.declared.std_sink.StdSink.{StdSink}

-- the reader of a source
abbrev pub source_reader : {R : Type 0} → StdSource R → R
source_reader s = s.reader

-- whether the source has ended
abbrev pub source_ended : {R : Type 0} → StdSource R → Bool
source_ended s = s.ended

-- whether the source has failed
abbrev pub source_failed : {R : Type 0} → StdSource R → Bool
source_failed s = s.failed

-- the writer of a sink
abbrev pub sink_writer : {W : Type 0} → StdSink W → W
sink_writer s = s.writer

-- whether the sink has failed
abbrev pub sink_failed : {W : Type 0} → StdSink W → Bool
sink_failed s = s.failed

-- how often one write may wait for as long as its writer lets it
abbrev pub sink_waits : {W : Type 0} → StdSink W → ℕ
sink_waits s = s.waits
