use Rattle.type_rules.proofs.Rows.{references, shreds}
use Rattle.type_rules.proofs.laws.comparisons_are_named_by_their_signs.Goals as goal

pub returns : goal.returns
returns c = record { references = references; shreds = shreds }
