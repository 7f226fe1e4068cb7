use Rattle.fixed_point.proofs.Clamps.{sum_of-monotone}
use Rattle.fixed_point.proofs.laws.addition_is_monotone.Goals as goal

pub returns : goal.returns
returns c = sum_of-monotone
