use Rattle.std.proofs.Common.{◌≡◌, ◌+◌, ◌∙◌, sym, ap, rules, drop, slice_get, Some}
use Rattle.type_table.specs.Lines.{above_of}
use Rattle.type_table.specs.Finished.{with_all}
use Rattle.type_table.proofs.Slots.{next_slot}
use Rattle.type_table.proofs.table.Table.add_slots_of.Goals as goal

pub loop-i-preserved : goal.loop-i-preserved
loop-i-preserved c =
    let at : slice_get c.args.class.now.members c.loop-i.i ≡ Some (c.in-Some.name.now, c.in-Some.own.now) = search rules in
    c.loop-i.invariant ∙ next_slot c.args.self.now (above_of c.args.self.now c.args.above) c.loop-i.slots c.args.class.now.members c.loop-i.i (c.in-Some.name.now, c.in-Some.own.now) at
    ∙ ap (λ s. with_all c.args.self.now (above_of c.args.self.now c.args.above) s (drop (c.loop-i.i + 1) c.args.class.now.members)) (sym c.in_ok-add_own_slot.ensures)
