use Rattle.std.proofs.Common.{◌≡◌, map}
use Rattle.type_table.specs.Finished.{finished_class, numbers}
use Rattle.type_table.specs.Layouts.{AreFound}
use Rattle.type_table.proofs.table.Table.finished_classes.Given as goal

abbrev pub invariant-loop-class : goal.invariant-loop-class
invariant-loop-class l = (l.classes.items ≡ map (finished_class l.self) (numbers l.class)) × AreFound l.self l.found
