use Rattle.std.proofs.Common.{refl}
use Rattle.type_rules.specs.Calls.{calls}
use Rattle.type_rules.proofs.laws.calls_are_named_by_their_rows.Goals as goal

pub returns : goal.returns
unfolding calls
returns c = refl
