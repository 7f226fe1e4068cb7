use Rattle.ck_run.proofs.Growing.{blocks_join}
use Rattle.ck_run.proofs.laws.blocks_join.Goals as goal

pub returns : goal.returns
returns g c = λ runner mains statics start first next. blocks_join runner mains statics start first next
