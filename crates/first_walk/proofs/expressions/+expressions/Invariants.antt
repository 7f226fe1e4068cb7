use Rattle.std.proofs.Common.{◌+◌, ◌*◌, ◌≤◌, max, drop}
use Rattle.ck_syntax.specs.declared.expr.Expr.{size-Expr}
use Rattle.type_table.specs.Answer.{gives}
use Rattle.first_walk.specs.Steps.{bracket_entered}
use Rattle.type_table.proofs.Walks.{Ran, on}
use Rattle.type_table.proofs.Weights.{weight, one_expr, one_bracket}
use Rattle.first_walk.specs.Room.{entries, declared_by}
use Rattle.first_walk.proofs.ExprWalks as steps
use Rattle.first_walk.proofs.expressions.+expressions.Given as goal

abbrev pub invariant-enter_exprs-loop-e : goal.invariant-enter_exprs-loop-e
invariant-enter_exprs-loop-e l =
    record {
      so_far : Ran (on (steps.one_expr l.file l.owner)) (gives l.fn.table) l.all l.e-index (gives l.table);
      left : entries l.table + weight one_expr (drop l.e-index l.all) ≤ entries l.fn.table + weight one_expr l.all;
      own :
          declared_by l.owner l.table + weight one_expr (drop l.e-index l.all)
          ≤ declared_by l.owner l.fn.table + weight one_expr l.all;
    }

abbrev pub invariant-enter_brackets-loop-bracket : goal.invariant-enter_brackets-loop-bracket
invariant-enter_brackets-loop-bracket l =
    record {
      so_far :
          Ran (on (bracket_entered l.file l.owner)) (gives l.fn.table) l.all l.bracket-index (gives l.table);
      left :
          entries l.table + weight one_bracket (drop l.bracket-index l.all)
          ≤ entries l.fn.table + weight one_bracket l.all;
      own :
          declared_by l.owner l.table + weight one_bracket (drop l.bracket-index l.all)
          ≤ declared_by l.owner l.fn.table + weight one_bracket l.all;
    }

abbrev pub decreases-enter_expr : goal.decreases-enter_expr
decreases-enter_expr l = 4 * size-Expr l.e.now

abbrev pub decreases-enter_both : goal.decreases-enter_both
decreases-enter_both l = 4 * max (size-Expr l.first.now) (size-Expr l.second.now) + 1

abbrev pub decreases-enter_call : goal.decreases-enter_call
decreases-enter_call l = 4 * max (goal.size-enter_call l) (size-Expr l.callee.now) + 3

abbrev pub decreases-enter_declaration : goal.decreases-enter_declaration
decreases-enter_declaration l = 4 * goal.size-enter_declaration l + 4

abbrev pub decreases-enter_behind : goal.decreases-enter_behind
decreases-enter_behind l = 4 * goal.size-enter_behind l + 3

abbrev pub decreases-enter_exprs : goal.decreases-enter_exprs
decreases-enter_exprs l = 4 * goal.size-enter_exprs l + 2

abbrev pub decreases-enter_bracket : goal.decreases-enter_bracket
decreases-enter_bracket l = 4 * goal.size-enter_bracket l + 1

abbrev pub decreases-enter_brackets : goal.decreases-enter_brackets
decreases-enter_brackets l = 4 * goal.size-enter_brackets l + 2
