use Rattle.object_heap.proofs.Changed.{found, changed}
use Rattle.object_heap.proofs.heap.Heap.set.Goals as goal

pub returns-clause-set : goal.returns-clause-set
returns-clause-set c =
    let slot = c.slot_of-slot.ensures in
    let is = found _ _ c.args.at _ _ c.self.view_is slot.within slot.found c.index_mut.ensures.value in
    rw is (changed _ _ c.args.at _ _ _ c.self.view_is slot.slot c.replace.ensures.set)

pub returns-clause-old : goal.returns-clause-old
returns-clause-old c =
    let slot = c.slot_of-slot.ensures in
    let is = found _ _ c.args.at _ _ c.self.view_is slot.within slot.found c.index_mut.ensures.value in
    rw is c.replace.ensures.old
