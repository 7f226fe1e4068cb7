-- What the views of trees with lists are.
use Rattle.ck_syntax.specs.declared.expr.Bracket.TheViews as exprs
use Rattle.ck_syntax.specs.declared.stmt.StmtKind.TheViews as stmts
use Rattle.ck_syntax.proofs.Views.{view-Array, view-Call, view-New, view-NewWith, view-Brackets, view-Arguments, view-Declare, view-Block}

pub ruleset expr_rows = (
  exprs.the_lemmas,
  view-Array,
  view-Call,
  view-New,
  view-NewWith,
  view-Brackets,
  view-Arguments,
  view-Declare,
)

pub ruleset stmt_rows = (stmts.the_lemmas, view-Block)
