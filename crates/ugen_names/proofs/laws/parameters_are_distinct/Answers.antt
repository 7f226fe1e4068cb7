use Rattle.ugen_names.proofs.Named.{all_distinct}
use Rattle.ugen_names.proofs.laws.parameters_are_distinct.Goals as goal

pub returns : goal.returns
returns c = all_distinct
