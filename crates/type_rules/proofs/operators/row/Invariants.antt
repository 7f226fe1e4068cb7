use Rattle.std.proofs.Common.{◌≡◌, drop}
use Rattle.type_rules.specs.Operators.{rows, first_row}
use Rattle.type_rules.proofs.operators.row.Given as goal

abbrev pub invariant-loop-o : goal.invariant-loop-o
invariant-loop-o l = first_row l.operator l.left l.right rows ≡ first_row l.operator l.left l.right (drop l.o-index rows)
