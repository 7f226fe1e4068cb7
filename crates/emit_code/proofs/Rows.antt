-- The rows of the forms: what a tree's view is.
use Rattle.std.proofs.Common.{◌≡◌, suc, List, [], ◌∷◌, length, refl, ap}
use Rattle.ck_typed.specs.View.{exprs_of}
use Rattle.ck_typed.specs.declared.expr.TypedExpr.{TypedExpr}
use Rattle.ck_typed.specs.declared.expr.TypedExpr.TheViews as exprs
use Rattle.ck_typed.specs.declared.stmt.TypedStmt.TheViews as stmts
use Rattle.ck_scheme.specs.Scheme.{count_of}
use Rattle.ck_typed.proofs.Views.{view_exprs-row, view_stmts-row}

-- as many as the list has
pub counts : (es : List TypedExpr) → count_of (exprs_of es) ≡ length es
counts [] = refl
counts (e ∷ es) = ap suc (counts es)

pub ruleset expr_rows = (exprs.the_lemmas, view_exprs-row)

pub ruleset stmt_rows = (stmts.the_lemmas, view_exprs-row, view_stmts-row)
