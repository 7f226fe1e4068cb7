use Rattle.ck_parser.proofs.Size.{same_depths}
use Rattle.ck_parser.proofs.laws.one_depth.Goals as goal

pub returns : goal.returns
returns c = same_depths
