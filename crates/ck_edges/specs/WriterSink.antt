use Rattle.std.specs.Prelude.{ℕ}
use Rattle.ck_edges.specs.declared.writer_sink.WriterSink.{WriterSink}

-- how many writes failed
abbrev pub sink_faults : {W : Type 0} → WriterSink W → ℕ
sink_faults sink = sink.faults
