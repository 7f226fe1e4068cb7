use Rattle.ugen_kinds.proofs.Turns.{tick_below}
use Rattle.ugen_kinds.proofs.laws.phases_stay_within_a_turn.Goals as goal

pub returns : goal.returns
returns c = tick_below
