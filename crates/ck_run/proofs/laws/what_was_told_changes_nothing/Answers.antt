use Rattle.ck_run.proofs.Frame.{told-settled}
use Rattle.ck_run.proofs.laws.what_was_told_changes_nothing.Goals as goal

pub returns-clause-settled : goal.returns-clause-settled
returns-clause-settled g c = λ runner samples text wakes begun bound run. told-settled runner samples text wakes
    begun bound run
