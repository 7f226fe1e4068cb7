use Rattle.run_laws.proofs.Numbers.{run_rises}
use Rattle.run_laws.proofs.laws.the_next_number_never_falls.Goals as goal

pub returns : goal.returns
returns c = run_rises
