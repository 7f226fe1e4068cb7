use Rattle.type_table.proofs.table.Table.+layout.Given as goal

abbrev pub decreases-layout : goal.decreases-layout
decreases-layout l = l.line.steps
