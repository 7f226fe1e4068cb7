use Rattle.std.proofs.Common.{refl}
use Rattle.ugen_names.specs.Table.{common}
use Rattle.ugen_names.proofs.look_up.common.Goals as goal

pub returns : goal.returns
unfolding common
returns c = refl
