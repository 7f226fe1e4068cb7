use Rattle.ck_lexer.proofs.Readings.{one_list}
use Rattle.ck_lexer.proofs.laws.one_list_of_tokens.Goals as goal

pub returns : goal.returns
returns c = one_list
