use Rattle.ck_run.proofs.Sounds.{same_run}
use Rattle.ck_run.proofs.laws.sounds_that_agree_are_one.Goals as goal

pub returns : goal.returns
returns g c = λ runner sound mains statics n agree. same_run runner sound mains statics n agree
