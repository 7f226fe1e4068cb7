use Rattle.type_table.proofs.table.Table.+count_fields.Given as goal

abbrev pub decreases-count_fields : goal.decreases-count_fields
decreases-count_fields l = l.line.steps
