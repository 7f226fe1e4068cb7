use Rattle.std.proofs.Common.{◌<◌}
use Rattle.counted_heap.specs.Counted.{outside}
use Rattle.counted_heap.proofs.tests.chain.Given as goal

abbrev pub invariant-loop : goal.invariant-loop
invariant-loop l = 0 < outside l.heap l.last
