use Rattle.fixed_point.proofs.Floors.{floor_div-unique}
use Rattle.fixed_point.proofs.laws.floors_are_unique.Goals as goal

pub returns : goal.returns
returns c = floor_div-unique
