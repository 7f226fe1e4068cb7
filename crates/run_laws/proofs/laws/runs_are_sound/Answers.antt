use Rattle.run_laws.proofs.Lawful.{stands}
use Rattle.run_laws.proofs.laws.runs_are_sound.Goals as goal

pub returns : goal.returns
returns c = λ code verified sample few le. (stands code verified few sample le).sound
