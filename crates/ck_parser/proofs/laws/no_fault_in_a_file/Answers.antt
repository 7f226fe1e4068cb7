use Rattle.ck_parser.proofs.Faults.{no_fault}
use Rattle.ck_parser.proofs.laws.no_fault_in_a_file.Goals as goal

pub returns : goal.returns
returns c = no_fault
