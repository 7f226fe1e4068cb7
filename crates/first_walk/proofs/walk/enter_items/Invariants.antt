use Rattle.std.proofs.Common.{ℕ, ◌+◌, ◌≤◌, drop}
use Rattle.type_table.specs.Answer.{gives}
use Rattle.type_table.proofs.Walks.{Ran, on}
use Rattle.type_table.proofs.Weights as weights
use Rattle.type_table.proofs.Weights.{weight}
use Rattle.first_walk.specs.Room.{entries, declared, AreNumbered}
use Rattle.first_walk.proofs.DeclaredFrame.{Keeps}
use Rattle.first_walk.proofs.ItemWalks.{one_item}
use Rattle.first_walk.proofs.walk.enter_items.Given as goal

abbrev pub invariant-loop-item : goal.invariant-loop-item
invariant-loop-item l =
    record {
      so_far : Ran (on (one_item l.file)) (gives l.fn.table) l.items l.item-index (gives l.table);
      left :
          entries l.table + weight weights.one_item (drop l.item-index l.items)
          ≤ entries l.fn.table + weight weights.one_item l.items;
      keeps : Keeps l.file l.fn.table l.table;
      numbered : AreNumbered l.table l.file l.class (drop l.item-index l.items);
      few :
          l.class + weight weights.one_item (drop l.item-index l.items)
          ≤ l.first + weight weights.one_item l.items;
      own :
          (d : ℕ)
          → declared d l.table + weight weights.one_item (drop l.item-index l.items)
          ≤ declared d l.fn.table + weight weights.one_item l.items;
    }
