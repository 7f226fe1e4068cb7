use Rattle.object_heap.specs.Objects.{IsArray}
use Rattle.counted_heap.proofs.Reading.{body_read}
use Rattle.counted_heap.proofs.Bodies.{grow_all}
use Rattle.counted_heap.proofs.heap.CountedHeap.grow.Goals as goal

pub grow-requires : goal.grow-requires
grow-requires c =
    let b = body_read _ _ _ c.args.at IsArray
    (record { view = c.self.view_is; live = c.requires.array }) in
    rw b.1.at b.2

pub invariant_of-self : goal.invariant_of-self
invariant_of-self c =
    (grow_all _ _ _ _ _ c.args.at c.self.view_is c.self.invariant c.args.v c.grow.result
    c.requires.array c.requires.among c.grow.ensures.grown c.grow.ensures.same).0

pub returns-clause-grown : goal.returns-clause-grown
returns-clause-grown c =
    (grow_all _ _ _ _ _ c.args.at c.self.view_is c.self.invariant c.args.v c.grow.result
    c.requires.array c.requires.among c.grow.ensures.grown c.grow.ensures.same).1.grown

pub returns-clause-stands : goal.returns-clause-stands
returns-clause-stands c =
    (grow_all _ _ _ _ _ c.args.at c.self.view_is c.self.invariant c.args.v c.grow.result
    c.requires.array c.requires.among c.grow.ensures.grown c.grow.ensures.same).1.stands

pub returns-clause-holds : goal.returns-clause-holds
returns-clause-holds c =
    (grow_all _ _ _ _ _ c.args.at c.self.view_is c.self.invariant c.args.v c.grow.result
    c.requires.array c.requires.among c.grow.ensures.grown c.grow.ensures.same).1.holds

pub returns-clause-same : goal.returns-clause-same
returns-clause-same c =
    (grow_all _ _ _ _ _ c.args.at c.self.view_is c.self.invariant c.args.v c.grow.result
    c.requires.array c.requires.among c.grow.ensures.grown c.grow.ensures.same).1.same
