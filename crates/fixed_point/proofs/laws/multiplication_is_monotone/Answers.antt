use Rattle.fixed_point.proofs.Clamps.{product_of-monotone}
use Rattle.fixed_point.proofs.laws.multiplication_is_monotone.Goals as goal

pub returns : goal.returns
returns c = product_of-monotone
