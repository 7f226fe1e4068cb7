use Rattle.fixed_point.proofs.Floors.{floor_div-IsFloorOf}
use Rattle.fixed_point.proofs.laws.quotients_are_floors.Goals as goal

pub returns : goal.returns
returns c = floor_div-IsFloorOf
