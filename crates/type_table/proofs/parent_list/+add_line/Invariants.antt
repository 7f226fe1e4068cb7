use Rattle.type_table.proofs.parent_list.+add_line.Given as goal

abbrev pub decreases-add_line : goal.decreases-add_line
decreases-add_line l = l.line.steps
