use Rattle.type_rules.proofs.Rows.{each_code}
use Rattle.type_rules.proofs.laws.operators_have_a_row_each.Goals as goal

pub returns : goal.returns
returns c = each_code
