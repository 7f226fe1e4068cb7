use Rattle.std.proofs.Common.{ap, refl, arith}
use Rattle.counted_heap.specs.Places.{hits, places}
use Rattle.counted_heap.proofs.Counting.{hit-same}
use Rattle.counted_heap.proofs.tests.an_object_in_two_items_goes_with_the_second.Goals as goal

pub release-requires : goal.release-requires
release-requires g c =
    let at = c.in_ok-old.old in
    let one = hit-same at at c.in_ok-old.ensures.some refl refl in
    let old = ap (hits at) c.in_ok-old.ensures.is in
    omega (arith, one, c.set.ensures.holds at)

pub release-requires-2 : goal.release-requires-2
release-requires-2 g c =
    let at = c.in_ok-both.both in
    let one = hit-same at at c.in_ok-both.ensures.some refl refl in
    let none = ap (places at) c.no_values.ensures in
    let items = ap (places at) c.in_ok-items.ensures in
    let old = ap (hits at) c.in_ok-old.ensures.is in
    omega (
      arith,
      one,
      c.in_ok-it.ensures.moves at,
      c.in_ok-hold.ensures.holds at,
      c.in_ok-both.ensures.moves at,
      c.set.ensures.holds at,
      c.release.ensures.holds at,
      c.reap_all.ensures at,
    )
