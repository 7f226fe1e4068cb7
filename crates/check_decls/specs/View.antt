-- What the code's values stand for.
use Rattle.std.specs.Prelude.{List, map, Option, Some, None}
use Rattle.std.specs.Global.{Box}
use Rattle.ck_typed.specs.declared.expr.TypedExpr.{TypedExpr}
use Rattle.ck_typed.specs.declared.stmt.TypedStmt.{TypedStmt}
use Rattle.ck_typed.specs.Tree.{Expr}
use Rattle.ck_typed.specs.View.{view_expr, view_stmt}
use Rattle.check_scope.specs.Scope.{Scope}
use Rattle.program_laws.specs.Statements.{Stated, AllStated, Tested}

-- a statement, and the scope behind it
abbrev pub stated_as : TypedStmt → Scope → Stated
stated_as x s = record { stmt = view_stmt x; scope = s }

abbrev pub all_stated : List TypedStmt → Scope → AllStated
all_stated xs s = record { stmts = map view_stmt xs; scope = s }

-- the test of a `for`, which may be missing
abbrev pub view_test : Option (Box TypedExpr) → Option Expr
view_test None = None
view_test (Some e) = Some (view_expr e.value)

abbrev pub tested_as : Option (Box TypedExpr) → Scope → Tested
tested_as e s = record { test = view_test e; scope = s }
