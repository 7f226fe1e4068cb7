use Rattle.ugen_sample.proofs.Origins.{origins_sampled, origin_set}
use Rattle.ugen_sample.proofs.laws.the_origin_stays.Goals as goal

pub returns-clause-sampled : goal.returns-clause-sampled
returns-clause-sampled c = origins_sampled

pub returns-clause-set : goal.returns-clause-set
returns-clause-set c = origin_set
