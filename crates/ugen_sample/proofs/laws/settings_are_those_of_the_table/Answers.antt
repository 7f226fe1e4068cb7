use Rattle.ugen_sample.proofs.Tables.{unit_sets}
use Rattle.ugen_sample.proofs.laws.settings_are_those_of_the_table.Goals as goal

pub returns : goal.returns
returns c = unit_sets
