use Rattle.sample_buf.proofs.Readings.{one_fault}
use Rattle.sample_buf.proofs.laws.one_fault.Goals as goal

pub returns : goal.returns
returns c = one_fault
