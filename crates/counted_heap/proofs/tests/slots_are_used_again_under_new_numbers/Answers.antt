use Rattle.std.proofs.Common.{ap, refl, arith}
use Rattle.counted_heap.specs.Places.{places}
use Rattle.counted_heap.proofs.Counting.{hit-same}
use Rattle.counted_heap.proofs.tests.slots_are_used_again_under_new_numbers.Goals as goal

pub release-requires : goal.release-requires
release-requires g c =
    let at = c.in_ok-five.five in
    let one = hit-same at at c.in_ok-five.ensures.some refl refl in
    let none = ap (places at) c.no_values.ensures in
    let none_2 = ap (places at) c.no_values-2.ensures in
    omega (arith, one, c.in_ok-five.ensures.moves at, c.in_ok-six.ensures.moves at)

pub release-requires-2 : goal.release-requires-2
release-requires-2 g c =
    let at = c.in_ok-six.six in
    let one = hit-same at at c.in_ok-six.ensures.some refl refl in
    let none = ap (places at) c.no_values.ensures in
    let none_2 = ap (places at) c.no_values-2.ensures in
    let none_3 = ap (places at) c.no_values-3.ensures in
    let none_4 = ap (places at) c.no_values-4.ensures in
    omega (
      arith,
      one,
      c.new-heap.ensures.holds at,
      c.in_ok-five.ensures.moves at,
      c.in_ok-six.ensures.moves at,
      c.release.ensures.holds at,
      c.in_ok-seven.ensures.moves at,
      c.reap-gone.ensures.holds at,
      c.in_ok-eight.ensures.moves at,
    )

pub release-requires-3 : goal.release-requires-3
release-requires-3 g c =
    let at = c.in_ok-eight.eight in
    let one = hit-same at at c.in_ok-eight.ensures.some refl refl in
    let none = ap (places at) c.no_values.ensures in
    let none_2 = ap (places at) c.no_values-2.ensures in
    let none_3 = ap (places at) c.no_values-3.ensures in
    let none_4 = ap (places at) c.no_values-4.ensures in
    omega (
      arith,
      one,
      c.new-heap.ensures.holds at,
      c.in_ok-five.ensures.moves at,
      c.in_ok-six.ensures.moves at,
      c.release.ensures.holds at,
      c.in_ok-seven.ensures.moves at,
      c.reap-gone.ensures.holds at,
      c.in_ok-eight.ensures.moves at,
      c.release-2.ensures.holds at,
    )
