use Rattle.std.proofs.Common.{ap, arith}
use Rattle.counted_heap.specs.Places.{places}
use Rattle.counted_heap.proofs.Holds.{among-hit}
use Rattle.counted_heap.proofs.Making.{made_held}
use Rattle.counted_heap.proofs.tests.chain.Goals as goal

pub loop-init : goal.loop-init
loop-init c =
    made_held _ _ _ _ c.in_ok-last.ensures
    (λ r. let none = ap (places r) c.no_values.ensures in omega arith)

pub instance-requires-in-loop : goal.instance-requires-in-loop
instance-requires-in-loop c = λ r.
    let one = ap (places r) c.in_ok-fields.ensures in
    omega (arith, among-hit c.loop.heap c.loop.last c.loop.invariant r)

pub loop-preserved : goal.loop-preserved
loop-preserved c =
    made_held _ _ _ _ c.in_ok-last-2.ensures
    (λ r.
    let one = ap (places r) c.in_ok-fields.ensures in
    omega (arith, among-hit c.loop.heap c.loop.last c.loop.invariant r))
