use Rattle.sample_buf.proofs.Readings.{one_wave}
use Rattle.sample_buf.proofs.laws.one_wave.Goals as goal

pub returns : goal.returns
returns c = one_wave
