use Rattle.std.proofs.Common.{◌≡◌, drop}
use Rattle.std.specs.List.{list_any}
use Rattle.type_table.specs.NameClash.{takes_below}
use Rattle.type_table.proofs.table.Table.some_takes_below.Given as goal

abbrev pub invariant-loop-below : goal.invariant-loop-below
invariant-loop-below l =
    list_any (takes_below l.self l.class l.name l.beside_fun) l.classes ≡ list_any (takes_below l.self l.class l.name l.beside_fun) (drop l.below-index l.classes)
