use Rattle.std.specs.Prelude.{ℕ}
use Rattle.ck_edges.specs.declared.sure.SureSink.{SureSink}

-- how many bytes the sink has taken
abbrev pub bytes_taken : SureSink → ℕ
bytes_taken sink = sink.taken
