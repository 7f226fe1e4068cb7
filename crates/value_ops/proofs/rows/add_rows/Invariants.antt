use Rattle.value_ops.proofs.Makes.{Adding}
use Rattle.value_ops.proofs.rows.add_rows.Given as goal

abbrev pub invariant-loop : goal.invariant-loop
invariant-loop l = Adding l.fn.heap l.heap l.grid l.rows l.elem l.columns l.counter
