use Rattle.ck_parser.proofs.Highest.{highest}
use Rattle.ck_parser.proofs.laws.greatest_height_is_reached.Goals as goal

pub returns : goal.returns
returns c = highest
