use Rattle.type_rules.specs.Fitting.{is_below}
use Rattle.type_rules.proofs.fitting.is_below.Goals as goal

pub returns : goal.returns
unfolding is_below
returns c = c.is_within.ensures
