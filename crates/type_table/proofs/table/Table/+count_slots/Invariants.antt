use Rattle.type_table.proofs.table.Table.+count_slots.Given as goal

abbrev pub decreases-count_slots : goal.decreases-count_slots
decreases-count_slots l = l.line.steps
