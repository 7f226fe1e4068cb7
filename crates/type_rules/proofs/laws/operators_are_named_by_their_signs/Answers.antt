use Rattle.std.proofs.Common.{refl}
use Rattle.type_rules.proofs.laws.operators_are_named_by_their_signs.Goals as goal

pub returns : goal.returns
returns c = refl
