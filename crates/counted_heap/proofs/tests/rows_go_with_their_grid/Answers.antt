use Rattle.std.proofs.Common.{ap, refl, arith}
use Rattle.counted_heap.specs.Places.{places}
use Rattle.counted_heap.proofs.Counting.{hit-same}
use Rattle.counted_heap.proofs.tests.rows_go_with_their_grid.Goals as goal

pub release-requires : goal.release-requires
release-requires g c =
    let at = c.in_ok-grid.grid in
    let one = hit-same at at c.in_ok-grid.ensures.some refl refl in
    let none = ap (places at) c.in_ok-items.ensures in
    let empty = ap (places at) c.no_values.ensures in
    let rows = ap (places at) c.in_ok-items-2.ensures in
    omega (
      arith,
      one,
      c.in_ok-first.ensures.moves at,
      c.in_ok-second.ensures.moves at,
      c.in_ok-hold.ensures.holds at,
      c.in_ok-grid.ensures.moves at,
    )

pub release-requires-2 : goal.release-requires-2
release-requires-2 g c =
    let at = c.in_ok-second.second in
    let one = hit-same at at c.in_ok-second.ensures.some refl refl in
    let none = ap (places at) c.in_ok-items.ensures in
    let empty = ap (places at) c.no_values.ensures in
    let rows = ap (places at) c.in_ok-items-2.ensures in
    omega (
      arith,
      one,
      c.in_ok-first.ensures.moves at,
      c.in_ok-second.ensures.moves at,
      c.in_ok-hold.ensures.holds at,
      c.in_ok-grid.ensures.moves at,
      c.release.ensures.holds at,
      c.reap_all.ensures at,
    )
