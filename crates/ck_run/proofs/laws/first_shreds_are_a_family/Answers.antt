use Rattle.ck_run.proofs.Children.{first_family}
use Rattle.ck_run.proofs.laws.first_shreds_are_a_family.Goals as goal

pub returns : goal.returns
returns c = λ start runner mains. first_family runner mains
