use Rattle.type_rules.proofs.Rows.{each_call}
use Rattle.type_rules.proofs.laws.calls_have_a_row_each.Goals as goal

pub returns : goal.returns
returns c = each_call
