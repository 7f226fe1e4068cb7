use Rattle.std.proofs.Common.{◌+◌, ◌≤◌, drop}
use Rattle.type_table.specs.Answer.{gives}
use Rattle.type_table.proofs.Walks.{Ran, on}
use Rattle.type_table.proofs.Weights as weights
use Rattle.type_table.proofs.Weights.{weight}
use Rattle.first_walk.specs.Room.{entries}
use Rattle.first_walk.proofs.ItemWalks.{name_item}
use Rattle.first_walk.proofs.classes.enter_classes.Given as goal

abbrev pub invariant-loop-item : goal.invariant-loop-item
invariant-loop-item l =
    record {
      so_far : Ran (on (name_item l.file)) (gives l.fn.table) l.items l.item-index (gives l.table);
      left :
          entries l.table + weight weights.one_item (drop l.item-index l.items)
          ≤ entries l.fn.table + weight weights.one_item l.items;
    }
