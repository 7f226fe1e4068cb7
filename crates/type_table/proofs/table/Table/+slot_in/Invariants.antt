use Rattle.type_table.proofs.table.Table.+slot_in.Given as goal

abbrev pub decreases-slot_in : goal.decreases-slot_in
decreases-slot_in l = l.line.steps
