use Rattle.type_table.proofs.table.Table.+line_has.Given as goal

abbrev pub decreases-line_has : goal.decreases-line_has
decreases-line_has l = l.line.steps
