use Rattle.run_laws.proofs.Settles.{family_at}
use Rattle.run_laws.proofs.laws.live_shreds_are_a_family.Goals as goal

pub returns : goal.returns
returns c = family_at
