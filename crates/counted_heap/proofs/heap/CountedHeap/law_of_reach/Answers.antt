use Rattle.counted_heap.proofs.Lawful.{lawful}
use Rattle.counted_heap.proofs.Reach.{live_reached, live_number}
use Rattle.counted_heap.proofs.Left.{left_are_live}
use Rattle.counted_heap.proofs.heap.CountedHeap.law_of_reach.Goals as goal

pub returns-clause-reached : goal.returns-clause-reached
returns-clause-reached c =
    live_reached _ (lawful _ _ _ c.self.view_is c.self.invariant.0) c.requires

pub returns-clause-number : goal.returns-clause-number
returns-clause-number c =
    live_number _ (lawful _ _ _ c.self.view_is c.self.invariant.0) c.requires

pub returns-clause-left : goal.returns-clause-left
returns-clause-left c = λ s stands is_held held_is refers refers_is ms once all.
    left_are_live _ s is_held refers held_is refers_is ms
    (live_number _ (lawful _ _ _ c.self.view_is c.self.invariant.0) c.requires) stands once all
