use Rattle.std.proofs.Common.{refl}
use Rattle.ugen_names.specs.Table.{rows}
use Rattle.ugen_names.proofs.look_up.rows.Goals as goal

pub returns : goal.returns
unfolding rows
returns c = refl
