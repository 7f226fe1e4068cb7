use Rattle.step_counts.proofs.Steps.{few_a_token}
use Rattle.step_counts.proofs.laws.steps_are_few_a_token.Goals as goal

pub returns : goal.returns
returns c = few_a_token
