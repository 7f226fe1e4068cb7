use Rattle.ck_lexer.proofs.Readings.{one_fault}
use Rattle.ck_lexer.proofs.laws.one_fault.Goals as goal

pub returns : goal.returns
returns c = one_fault
