-- The first operand of an expression.
use Rattle.std.specs.Prelude.{Option, Some, None}
use Rattle.ck_syntax.specs.Tree as tree
use Rattle.ck_syntax.specs.Tree.{Expr}

-- the operand that an expression begins with, where its first token is that of an operand
abbrev pub first_operand : Expr → Option Expr
first_operand (tree.call l e es) = Some e
first_operand (tree.index l e i) = Some e
first_operand (tree.member l e n) = Some e
first_operand (tree.postfix l e o) = Some e
first_operand (tree.dur l e u) = Some e
first_operand (tree.prefix l o e) = Some e
first_operand (tree.cast l e t) = Some e
first_operand (tree.binary l e o f) = Some e
first_operand (tree.choice l c e f) = Some c
first_operand (tree.chuck l e o f) = Some e
first_operand _ = None
