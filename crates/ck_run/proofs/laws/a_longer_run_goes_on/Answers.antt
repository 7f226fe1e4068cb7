use Rattle.ck_run.proofs.Growing.{run_goes_on}
use Rattle.ck_run.proofs.laws.a_longer_run_goes_on.Goals as goal

pub returns : goal.returns
returns g c = λ runner mains statics n more. run_goes_on runner mains statics n more
