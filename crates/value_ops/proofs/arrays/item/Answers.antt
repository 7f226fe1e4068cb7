use Rattle.std.proofs.Common.{refl, sym, ◌∙◌, w64}
use Rattle.std.proofs.lemmas.Int.{to_z-of_z}
use Rattle.std.proofs.lemmas.Option.{slice_get_read}
use Rattle.value_ops.proofs.Items.{item_here}
use Rattle.value_ops.proofs.arrays.item.Goals as goal

pub returns-in-Some : goal.returns-in-Some
returns-in-Some c =
    let items = c.in_ok-items.items.now in
    let place = c.in-Some.ensures.place in
    item_here c.args.heap.now c.args.at items c.args.index c.in-Some.i _ c.requires.first
    c.in_ok-items.ensures.found (sym (to_z-of_z w64 c.args.index c.ranges.index) ∙ place.0)
    (slice_get_read items _ c.in-Some.i _ refl place.1 c.index-items-i.is)
