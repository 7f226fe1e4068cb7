use Rattle.std.proofs.Common.{refl, arith}
use Rattle.counted_heap.proofs.Writes.{Wrote-updates}
use Rattle.counted_heap.proofs.Making.{make_done}
use Rattle.counted_heap.proofs.heap.CountedHeap.make.Goals as goal

pub invariant_of-self : goal.invariant_of-self
invariant_of-self c =
    (make_done _ _ _ _ _ c.in-Ok.ensures.was_vacant (Wrote-updates _ _ _ _ c.in-Ok.ensures.updates)
    refl refl (omega (arith, c.if-serial-gt-MAX_OBJECTS.false)) c.self.invariant.0 _ _
    c.self.view_is c.requires c.self.invariant.1).0

pub returns-in-Ok-clause-made : goal.returns-in-Ok-clause-made
returns-in-Ok-clause-made c =
    (make_done _ _ _ _ _ c.in-Ok.ensures.was_vacant (Wrote-updates _ _ _ _ c.in-Ok.ensures.updates)
    refl refl (omega (arith, c.if-serial-gt-MAX_OBJECTS.false)) c.self.invariant.0 _ _
    c.self.view_is c.requires c.self.invariant.1).1

pub returns-in-Ok-clause-stands : goal.returns-in-Ok-clause-stands
returns-in-Ok-clause-stands c =
    (make_done _ _ _ _ _ c.in-Ok.ensures.was_vacant (Wrote-updates _ _ _ _ c.in-Ok.ensures.updates)
    refl refl (omega (arith, c.if-serial-gt-MAX_OBJECTS.false)) c.self.invariant.0 _ _
    c.self.view_is c.requires c.self.invariant.1).2
