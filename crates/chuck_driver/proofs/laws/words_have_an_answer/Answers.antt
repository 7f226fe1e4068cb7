use Rattle.chuck_driver.proofs.Clauses.{an_answer}
use Rattle.chuck_driver.proofs.laws.words_have_an_answer.Goals as goal

pub returns : goal.returns
returns c = an_answer
