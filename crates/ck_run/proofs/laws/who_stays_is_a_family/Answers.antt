use Rattle.ck_run.proofs.Family.{family_stays}
use Rattle.ck_run.proofs.laws.who_stays_is_a_family.Goals as goal

pub returns : goal.returns
returns c = λ start next number shreds family. family_stays number next shreds family
