use Rattle.value_ops.proofs.Changes.{Clearing}
use Rattle.value_ops.proofs.edits.clear.Given as goal

abbrev pub invariant-loop : goal.invariant-loop
invariant-loop l = Clearing l.fn.heap l.heap l.at l.n l.counter
