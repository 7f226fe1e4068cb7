use Rattle.chuck_driver.proofs.Clauses.{one_answer}
use Rattle.chuck_driver.proofs.laws.words_have_one_answer.Goals as goal

pub returns : goal.returns
returns c = one_answer
