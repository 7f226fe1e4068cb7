use Rattle.ck_parser.proofs.Size.{size-file}
use Rattle.ck_parser.proofs.laws.size_of_a_tree.Goals as goal

pub returns : goal.returns
returns c = size-file
