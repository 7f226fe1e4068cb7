use Rattle.std.proofs.Common.{◌+◌, ◌≤◌, drop}
use Rattle.type_table.specs.Answer.{gives}
use Rattle.type_table.proofs.Walks.{Ran, on}
use Rattle.type_table.proofs.Weights as weights
use Rattle.type_table.proofs.Weights.{weight}
use Rattle.first_walk.specs.Room.{AreNumbered}
use Rattle.first_walk.proofs.ItemWalks.{check_item}
use Rattle.first_walk.proofs.parents.check_parents.Given as goal

abbrev pub invariant-loop-item : goal.invariant-loop-item
invariant-loop-item l =
    record {
      so_far : Ran (on (check_item l.file)) (gives l.table) l.items l.item-index (gives l.table);
      numbered : AreNumbered l.table l.file l.class (drop l.item-index l.items);
      few :
          l.class + weight weights.one_item (drop l.item-index l.items)
          ≤ l.first + weight weights.one_item l.items;
    }
