use Rattle.std.proofs.Common.{ap, refl, arith}
use Rattle.counted_heap.specs.Places.{places}
use Rattle.counted_heap.proofs.Counting.{hit-same}
use Rattle.counted_heap.proofs.tests.a_ring_stays.Goals as goal

pub release-requires : goal.release-requires
release-requires g c =
    let at = c.in_ok-first.first in
    let one = hit-same at at c.in_ok-first.ensures.some refl refl in
    let none = ap (places at) c.in_ok-fields.ensures in
    let itself = ap (places at) c.in_ok-fields-2.ensures in
    omega (
      arith,
      one,
      c.in_ok-first.ensures.moves at,
      c.in_ok-hold.ensures.holds at,
      c.in_ok-second.ensures.moves at,
      c.set-old.ensures.holds at,
    )
