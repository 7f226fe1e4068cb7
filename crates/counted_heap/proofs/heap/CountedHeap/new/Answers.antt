use Rattle.counted_heap.proofs.Making.{new_done}
use Rattle.counted_heap.proofs.heap.CountedHeap.new.Goals as goal

pub invariant_of-result : goal.invariant_of-result
invariant_of-result c = (new_done _ _ c.new.ensures.empty c.requires.some c.requires.room).0

pub returns-clause-holds : goal.returns-clause-holds
returns-clause-holds c = (new_done _ _ c.new.ensures.empty c.requires.some c.requires.room).1

pub returns-clause-stands : goal.returns-clause-stands
returns-clause-stands c = (new_done _ _ c.new.ensures.empty c.requires.some c.requires.room).2
