use Rattle.type_table.proofs.table.Table.+construct_in.Given as goal

abbrev pub decreases-construct_in : goal.decreases-construct_in
decreases-construct_in l = l.line.steps
