use Rattle.type_table.proofs.table.Table.+line_has_other.Given as goal

abbrev pub decreases-line_has_other : goal.decreases-line_has_other
decreases-line_has_other l = l.line.steps
