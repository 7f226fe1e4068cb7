use Rattle.step_counts.proofs.Steps.{fit_32_bits}
use Rattle.step_counts.proofs.laws.places_fit_32_bits.Goals as goal

pub returns : goal.returns
returns c = fit_32_bits
