use Rattle.ck_parser.proofs.Faults.{verdict}
use Rattle.ck_parser.proofs.laws.tree_or_fault.Goals as goal

pub returns : goal.returns
returns c = verdict
