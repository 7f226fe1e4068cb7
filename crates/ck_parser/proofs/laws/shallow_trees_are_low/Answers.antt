use Rattle.ck_parser.proofs.LowStmts.{file_low}
use Rattle.ck_parser.proofs.laws.shallow_trees_are_low.Goals as goal

pub returns : goal.returns
returns c = file_low
