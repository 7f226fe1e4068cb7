use Rattle.std.proofs.Common.{◌+◌, ◌≤◌, drop}
use Rattle.type_table.proofs.Walks.{Ran}
use Rattle.type_table.proofs.Weights as weights
use Rattle.type_table.proofs.Weights.{weight}
use Rattle.first_walk.specs.Room.{AreNumbered}
use Rattle.first_walk.proofs.ItemWalks.{head_item}
use Rattle.first_walk.proofs.heads.enter_heads.Given as goal

abbrev pub invariant-loop-item : goal.invariant-loop-item
invariant-loop-item l =
    record {
      so_far : Ran (head_item l.file) l.fn.table l.items l.item-index l.table;
      numbered : AreNumbered l.table l.file l.class (drop l.item-index l.items);
      few :
          l.class + weight weights.one_item (drop l.item-index l.items)
          ≤ l.first + weight weights.one_item l.items;
    }
