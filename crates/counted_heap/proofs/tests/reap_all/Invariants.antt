use Rattle.counted_heap.specs.Counted.{SameHolds, live}
use Rattle.counted_heap.proofs.tests.reap_all.Given as goal

abbrev pub invariant-loop : goal.invariant-loop
invariant-loop l = SameHolds l.fn.heap l.heap

abbrev pub decreases-loop : goal.decreases-loop
decreases-loop l = live l.heap
