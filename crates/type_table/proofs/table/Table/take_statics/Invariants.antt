use Rattle.std.proofs.Common.{◌≡◌}
use Rattle.type_table.proofs.Given.{given_first}
use Rattle.type_table.proofs.table.Table.take_statics.Given as goal

abbrev pub invariant-loop-i : goal.invariant-loop-i
invariant-loop-i l = l.statics.items ≡ given_first l.i l.initial.statics.items
