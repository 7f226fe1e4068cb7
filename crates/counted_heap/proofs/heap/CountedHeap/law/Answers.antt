use Rattle.counted_heap.proofs.Lawful.{lawful}
use Rattle.counted_heap.proofs.heap.CountedHeap.law.Goals as goal

pub returns : goal.returns
returns c = lawful _ _ _ c.self.view_is c.self.invariant.0
