use Rattle.std.proofs.Common.{◌+◌, ◌≤◌, length, drop, None, []}
use Rattle.type_table.specs.Answer.{gives}
use Rattle.type_table.proofs.Walks.{Ran, on}
use Rattle.type_table.proofs.Weights.{weight}
use Rattle.check_scope.specs.Scope.{new_scope}
use Rattle.first_walk.specs.Room.{AreNumbered}
use Rattle.program_laws.specs.Programs.{begun}
use Rattle.check_decls.specs.ProgramView.{view_walked}
use Rattle.check_decls.proofs.DeclWalks.{one_item}
use Rattle.type_table.proofs.Weights as weights
use Rattle.check_decls.proofs.walk.items_typed.Given as goal

abbrev pub invariant-loop-item : goal.invariant-loop-item
invariant-loop-item l =
    record {
      so_far :
          Ran (on (one_item l.table l.file)) (gives (begun (new_scope l.file None None []))) l.items
          l.item-index (gives (view_walked l.walked));
      left :
          length l.walked.scope.value.locals + weight weights.one_item (drop l.item-index l.items)
          ≤ weight weights.one_item l.items;
      more :
          length l.walked.funs.items + weight weights.one_item (drop l.item-index l.items)
          ≤ weight weights.one_item l.items;
      numbered : AreNumbered l.table l.file l.class (drop l.item-index l.items);
      few :
          l.class + weight weights.one_item (drop l.item-index l.items)
          ≤ l.first + weight weights.one_item l.items;
    }
