use Rattle.ck_lexer.proofs.Readings.{not_both}
use Rattle.ck_lexer.proofs.laws.tokens_or_a_fault.Goals as goal

pub returns : goal.returns
returns c = not_both
