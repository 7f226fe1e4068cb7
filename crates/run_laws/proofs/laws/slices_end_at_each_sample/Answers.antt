use Rattle.run_laws.proofs.Settles.{settles_at}
use Rattle.run_laws.proofs.laws.slices_end_at_each_sample.Goals as goal

pub returns : goal.returns
returns c = settles_at
