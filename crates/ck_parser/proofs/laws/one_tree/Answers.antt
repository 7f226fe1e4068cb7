use Rattle.ck_parser.proofs.PassesFile as passes
use Rattle.ck_parser.proofs.laws.one_tree.Goals as goal

pub returns : goal.returns
returns c = passes.one_tree
