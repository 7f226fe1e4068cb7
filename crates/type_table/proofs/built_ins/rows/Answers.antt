use Rattle.std.proofs.Common.{refl}
use Rattle.type_table.specs.Names.{built_in_names}
use Rattle.type_table.proofs.built_ins.rows.Goals as goal

pub returns : goal.returns
unfolding built_in_names
returns c = refl
