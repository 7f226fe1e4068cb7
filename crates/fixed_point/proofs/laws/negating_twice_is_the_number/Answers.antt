use Rattle.fixed_point.proofs.Clamps.{negation_of-twice}
use Rattle.fixed_point.proofs.laws.negating_twice_is_the_number.Goals as goal

pub returns : goal.returns
returns c = negation_of-twice
