use Rattle.std.proofs.Common.{◌+◌, ◌*◌, ◌≤◌, max, length, drop}
use Rattle.ck_syntax.specs.declared.stmt.Stmt.{size-Stmt}
use Rattle.type_table.specs.Answer.{gives}
use Rattle.type_table.proofs.Walks.{Ran, on}
use Rattle.type_table.proofs.Weights.{weight}
use Rattle.program_laws.specs.Statements.{none_stated}
use Rattle.check_decls.specs.View.{all_stated}
use Rattle.check_decls.proofs.StatementWalks.{one_statement}
use Rattle.check_decls.proofs.Weights.{one_stmt}
use Rattle.check_decls.proofs.statements.+statements.Given as goal

abbrev pub invariant-statements-loop-s : goal.invariant-statements-loop-s
invariant-statements-loop-s l =
    record {
      so_far :
          Ran (on (one_statement l.table l.around)) (gives (none_stated l.initial.scope)) l.all
          l.s-index (gives (all_stated l.statements.items l.scope));
      left :
          length l.scope.locals + weight one_stmt (drop l.s-index l.all)
          ≤ length l.initial.scope.locals + weight one_stmt l.all;
    }

abbrev pub decreases-statement : goal.decreases-statement
decreases-statement l = 4 * size-Stmt l.s.now

abbrev pub decreases-statements : goal.decreases-statements
decreases-statements l = 4 * goal.size-statements l + 1

abbrev pub decreases-block : goal.decreases-block
decreases-block l = 4 * goal.size-block l + 2

abbrev pub decreases-if_then : goal.decreases-if_then
decreases-if_then l = 4 * size-Stmt l.then.now + 2

abbrev pub decreases-if_else : goal.decreases-if_else
decreases-if_else l = 4 * max (size-Stmt l.then.now) (size-Stmt l.otherwise.now) + 2

abbrev pub decreases-while_do : goal.decreases-while_do
decreases-while_do l = 4 * size-Stmt l.body.now + 2

abbrev pub decreases-do_while : goal.decreases-do_while
decreases-do_while l = 4 * size-Stmt l.body.now + 2

abbrev pub decreases-for_do : goal.decreases-for_do
decreases-for_do l = 4 * max (size-Stmt l.start.now) (size-Stmt l.body.now) + 2

abbrev pub decreases-for_each : goal.decreases-for_each
decreases-for_each l = 4 * size-Stmt l.body.now + 2

abbrev pub decreases-repeat : goal.decreases-repeat
decreases-repeat l = 4 * size-Stmt l.body.now + 2

abbrev pub decreases-in_block : goal.decreases-in_block
decreases-in_block l = 4 * size-Stmt l.body.now + 1
