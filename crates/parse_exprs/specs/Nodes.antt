-- The nodes of an expression whose line is that of their first part.
use Rattle.std.specs.Prelude.{◌≡◌, Result, IfOk}
use Rattle.std.specs.Global.{Box}
use Rattle.parse_exprs.specs.Operands.{tree_of}
use Rattle.ck_syntax.specs.Tree as t
use Rattle.ck_syntax.specs.Tree.{Name, Expr, Exprs, expr_line}
use Rattle.ck_syntax.specs.declared.declaration.TypeName.{TypeName}
use Rattle.ck_syntax.specs.declared.expr.Expr.{Expr as Node}
use Rattle.ck_syntax.specs.declared.operator.BinaryOp.{BinaryOp}
use Rattle.ck_syntax.specs.declared.operator.ChuckOp.{ChuckOp}
use Rattle.ck_syntax.specs.declared.operator.PostfixOp.{PostfixOp}

-- this expression, in a box
abbrev pub Makes : {E : Type 0} → Expr → Result (Box Node) E → Type 0
Makes e r = IfOk r (λ b. tree_of b ≡ e)

abbrev pub call : Expr → Exprs → Expr
call e es = t.call (expr_line e) e es

abbrev pub index : Expr → Expr → Expr
index e i = t.index (expr_line e) e i

abbrev pub member : Expr → Name → Expr
member e n = t.member (expr_line e) e n

abbrev pub postfix : Expr → PostfixOp → Expr
postfix e o = t.postfix (expr_line e) e o

abbrev pub dur : Expr → Expr → Expr
dur e u = t.dur (expr_line e) e u

abbrev pub cast : Expr → TypeName → Expr
cast e k = t.cast (expr_line e) e k

abbrev pub binary : Expr → BinaryOp → Expr → Expr
binary e o g = t.binary (expr_line e) e o g

abbrev pub choice : Expr → Expr → Expr → Expr
choice c e g = t.choice (expr_line c) c e g

abbrev pub chuck : Expr → ChuckOp → Expr → Expr
chuck e o g = t.chuck (expr_line e) e o g
