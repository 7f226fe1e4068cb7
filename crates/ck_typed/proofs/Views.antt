-- The views of trees that hold lists, at the lists that the program made them of.
use Rattle.std.proofs.Common.{◌≡◌, refl, ap}
use Rattle.ck_typed.specs.Tree.{more_exprs, more_stmts}
use Rattle.ck_typed.specs.View.{view_expr, view_exprs, exprs_of, view_stmt, view_stmts, stmts_of}
use Rattle.ck_typed.specs.declared.expr.TypedExpr as raw
use Rattle.ck_typed.specs.declared.stmt.TypedStmt as raw_stmt

pub view_exprs-row : (n : _) (es : raw.Row_of-TypedExpr n) → view_exprs es ≡ exprs_of (raw.items-the_row-TypedExpr n es)
view_exprs-row _ raw.end_of-TypedExpr = refl
view_exprs-row _ (raw.more_of-TypedExpr e es) = ap (more_exprs (view_expr e)) (view_exprs-row _ es)

pub view_stmts-row : (n : _) (ss : raw_stmt.Row_of-TypedStmt n) → view_stmts ss ≡ stmts_of (raw_stmt.items-the_row-TypedStmt n ss)
view_stmts-row _ raw_stmt.end_of-TypedStmt = refl
view_stmts-row _ (raw_stmt.more_of-TypedStmt s ss) = ap (more_stmts (view_stmt s)) (view_stmts-row _ ss)
