use Rattle.object_heap.proofs.Changed.{found, changed, shorter}
use Rattle.object_heap.proofs.heap.Heap.clear_one.Goals as goal

pub returns-clause-last : goal.returns-clause-last
returns-clause-last c =
    let slot = c.slot_of-slot.ensures in
    let read = c.index_mut.result.now in
    let is = found _ _ c.args.at _ read c.self.view_is slot.within slot.found c.index_mut.ensures.value in
    shorter c.clear_one.result c.args.self.now _ c.args.at read c.clear_one.new.self is c.clear_one.ensures.last
    (changed _ _ c.args.at _ _ _ c.self.view_is slot.slot c.clear_one.ensures.rest)
