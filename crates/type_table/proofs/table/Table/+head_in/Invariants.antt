use Rattle.type_table.proofs.table.Table.+head_in.Given as goal

abbrev pub decreases-head_in : goal.decreases-head_in
decreases-head_in l = l.line.steps
