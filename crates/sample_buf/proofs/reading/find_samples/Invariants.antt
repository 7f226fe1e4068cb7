use Rattle.std.proofs.Common.{length}
use Rattle.sample_buf.proofs.Readings.{ReadTo}
use Rattle.sample_buf.proofs.reading.find_samples.Given as goal

abbrev pub invariant-loop-head : goal.invariant-loop-head
invariant-loop-head l = ReadTo l.file l.rest l.format

abbrev pub decreases-loop-head : goal.decreases-loop-head
decreases-loop-head l = length l.rest
