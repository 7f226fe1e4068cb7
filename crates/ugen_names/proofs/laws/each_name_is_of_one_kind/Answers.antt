use Rattle.ugen_names.proofs.Named.{name_is_of_one}
use Rattle.ugen_names.proofs.laws.each_name_is_of_one_kind.Goals as goal

pub returns : goal.returns
returns c = name_is_of_one
