use Rattle.object_heap.specs.Objects.{IsArray}
use Rattle.counted_heap.proofs.Reading.{body_read}
use Rattle.counted_heap.proofs.Bodies.{clear_all}
use Rattle.counted_heap.proofs.heap.CountedHeap.clear_one.Goals as goal

pub clear_one-requires : goal.clear_one-requires
clear_one-requires c =
    let b = body_read _ _ _ c.args.at IsArray
    (record { view = c.self.view_is; live = c.requires }) in
    rw b.1.at b.2

pub invariant_of-self : goal.invariant_of-self
invariant_of-self c =
    (clear_all _ _ _ _ _ c.args.at c.self.view_is c.self.invariant c.clear_one.result c.requires
    c.clear_one.ensures.empty c.clear_one.ensures.last c.clear_one.ensures.none).0

pub returns-clause-empty : goal.returns-clause-empty
returns-clause-empty c =
    (clear_all _ _ _ _ _ c.args.at c.self.view_is c.self.invariant c.clear_one.result c.requires
    c.clear_one.ensures.empty c.clear_one.ensures.last c.clear_one.ensures.none).1.empty

pub returns-clause-last : goal.returns-clause-last
returns-clause-last c =
    (clear_all _ _ _ _ _ c.args.at c.self.view_is c.self.invariant c.clear_one.result c.requires
    c.clear_one.ensures.empty c.clear_one.ensures.last c.clear_one.ensures.none).1.last

pub returns-clause-holds : goal.returns-clause-holds
returns-clause-holds c =
    (clear_all _ _ _ _ _ c.args.at c.self.view_is c.self.invariant c.clear_one.result c.requires
    c.clear_one.ensures.empty c.clear_one.ensures.last c.clear_one.ensures.none).1.holds

pub returns-clause-none : goal.returns-clause-none
returns-clause-none c =
    (clear_all _ _ _ _ _ c.args.at c.self.view_is c.self.invariant c.clear_one.result c.requires
    c.clear_one.ensures.empty c.clear_one.ensures.last c.clear_one.ensures.none).1.none
