use Rattle.std.specs.Prelude.{ℕ, List}
use Rattle.ck_edges.specs.declared.memory_sink.MemSink.{MemSink}

-- the bytes that the sink has taken
abbrev pub sink_bytes : MemSink → List ℕ
sink_bytes sink = sink.bytes.items

-- how many more bytes it has room for
abbrev pub sink_room : MemSink → ℕ
sink_room sink = sink.room

-- the calls that are to fail, each with the bytes that it takes at most
abbrev pub failing_writes : MemSink → List (ℕ × ℕ)
failing_writes sink = sink.fails.items

-- how many calls there were
abbrev pub writes_made : MemSink → ℕ
writes_made sink = sink.calls

-- how many of them failed
abbrev pub writes_failed : MemSink → ℕ
writes_failed sink = sink.faults
