use Rattle.std.proofs.Common.{◌<◌, length}
use Rattle.object_heap.specs.declared.body.Body.{Body}
use Rattle.object_heap.specs.Objects.{values_of}
use Rattle.counted_heap.proofs.Reading.{body_read}
use Rattle.counted_heap.proofs.Bodies.{set_all}
use Rattle.counted_heap.proofs.heap.CountedHeap.set.Goals as goal

pub replace-requires : goal.replace-requires
replace-requires c =
    let b = body_read _ _ _ c.args.at (λ (body : Body). c.args.index < length (values_of body))
    (record { view = c.self.view_is; live = c.requires.within }) in
    rw b.1.at b.2

pub invariant_of-self : goal.invariant_of-self
invariant_of-self c =
    (set_all _ _ _ _ _ c.args.at c.self.view_is c.self.invariant c.args.index c.args.v _
    c.requires.within c.requires.among c.replace.ensures.set c.replace.ensures.old).0

pub returns-clause-set : goal.returns-clause-set
returns-clause-set c =
    (set_all _ _ _ _ _ c.args.at c.self.view_is c.self.invariant c.args.index c.args.v _
    c.requires.within c.requires.among c.replace.ensures.set c.replace.ensures.old).1.set

pub returns-clause-stands : goal.returns-clause-stands
returns-clause-stands c =
    (set_all _ _ _ _ _ c.args.at c.self.view_is c.self.invariant c.args.index c.args.v _
    c.requires.within c.requires.among c.replace.ensures.set c.replace.ensures.old).1.stands

pub returns-clause-old : goal.returns-clause-old
returns-clause-old c =
    (set_all _ _ _ _ _ c.args.at c.self.view_is c.self.invariant c.args.index c.args.v _
    c.requires.within c.requires.among c.replace.ensures.set c.replace.ensures.old).1.old

pub returns-clause-holds : goal.returns-clause-holds
returns-clause-holds c =
    (set_all _ _ _ _ _ c.args.at c.self.view_is c.self.invariant c.args.index c.args.v _
    c.requires.within c.requires.among c.replace.ensures.set c.replace.ensures.old).1.holds
