use Rattle.std.proofs.Common.{◌≡◌, drop}
use Rattle.type_table.specs.Lines.{above_of}
use Rattle.type_table.specs.Finished.{with_all}
use Rattle.type_table.proofs.table.Table.add_slots_of.Given as goal

abbrev pub invariant-loop-i : goal.invariant-loop-i
invariant-loop-i l = with_all l.self (above_of l.self l.above) l.fn.slots l.class.members ≡ with_all l.self (above_of l.self l.above) l.slots (drop l.i l.class.members)
