use Rattle.ugen_kinds.proofs.Tables.{made_has_state}
use Rattle.ugen_kinds.proofs.laws.what_is_made_has_a_state.Goals as goal

pub returns : goal.returns
returns c = made_has_state
