use Rattle.run_laws.proofs.Counted.{slice_numbers}
use Rattle.run_laws.proofs.laws.sporks_take_the_next_numbers.Goals as goal

pub returns : goal.returns
returns c = slice_numbers
