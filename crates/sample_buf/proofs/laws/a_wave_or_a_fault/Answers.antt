use Rattle.sample_buf.proofs.Readings.{samples_or_fault}
use Rattle.sample_buf.proofs.laws.a_wave_or_a_fault.Goals as goal

pub returns : goal.returns
returns c file wave at w = samples_or_fault file w.bytes w.format at w.samples
