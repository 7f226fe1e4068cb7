-- What the functions returned that read a part of an expression.
use Rattle.std.specs.Prelude.{ℕ, List, Result}
use Rattle.std.specs.Global.{Box}
use Rattle.ck_lexer.specs.declared.token.Token.{Token}
use Rattle.parse_exprs.specs.declared.fault.Fault.{Fault}
use Rattle.parse_exprs.specs.declared.operand.Operand.{Operand}
use Rattle.parse_exprs.specs.Machine.{State, calls}
use Rattle.parse_exprs.specs.Operands.{Behind, operand_from, operand_next, tree_of}
use Rattle.parse_exprs.specs.Reads.{Slice, Reads, ReadsPart}
use Rattle.ck_syntax.specs.Tree.{Expr, Exprs, no_exprs}
use Rattle.ck_syntax.specs.View.{exprs_of}
use Rattle.ck_syntax.specs.declared.expr.Expr.{Expr as Node}

-- an expression
abbrev pub ReadsExpr : ((Expr → State) → State)
    → List Token → Result (Box Node × Slice) Fault → Type 0
ReadsExpr S ts r = ReadsPart S tree_of ts r

abbrev pub ReadsExprs : ((Exprs → State) → State)
    → List Token → Result (List Node × Slice) Fault → Type 0
ReadsExprs S ts r = ReadsPart S (λ es. exprs_of no_exprs es) ts r

-- an expression, and the depth behind it
abbrev pub ReadsTo : ((Expr → ℕ → State) → State)
    → List Token → Result (Box Node × Slice × ℕ) Fault → Type 0
ReadsTo S ts r =
    Reads (λ (k : Expr → ℕ → State). S k) (λ x k. k (tree_of x.0) x.2) (λ x. x.1.now) ts r

-- an expression, to which what goes on with a Postfix is still to come at that depth
abbrev pub ReadsOpen : ((Expr → ℕ → State) → State)
    → ℕ → List Token → Result (Box Node × Slice) Fault → Type 0
ReadsOpen S d ts r =
    Reads (λ (k : Expr → ℕ → State). S k) (λ x k. calls d (tree_of x.0) k) (λ x. x.1.now) ts r

abbrev pub ReadsOperand : ℕ → List Token → Result (Operand × Slice) Fault → Type 0
ReadsOperand d ts r =
    Reads (λ (h : Behind). operand_from d h) (λ x h. operand_next x.0 h) (λ x. x.1.now) ts r
