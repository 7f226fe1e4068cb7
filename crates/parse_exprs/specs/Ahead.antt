-- What the functions returned that look at what comes next, and go past its first token.
use Rattle.std.specs.Prelude.{◌≡◌, ℕ, suc, ◌<◌, ◌≤◌, List, length, Bool, false, Option, MatchOption}
use Rattle.std.specs.Prelude.{IfSome}
use Rattle.std.specs.Prelude.{Result, Err, MatchResult, IfOk}
use Rattle.std.specs.Global.{Box}
use Rattle.fixed_point.specs.Wanting.{out_of_memory}
use Rattle.ck_base.specs.declared.limits.TheConstants.{MAX_NESTING}
use Rattle.ck_lexer.specs.declared.mark.Mark.{Mark as AMark}
use Rattle.ck_lexer.specs.declared.token.Token.{Token}
use Rattle.ck_lexer.specs.declared.token.TokenKind.TheVariants.{Mark}
use Rattle.parse_exprs.specs.declared.fault.Fault.{Fault}
use Rattle.parse_exprs.specs.declared.fault.Fault.TheVariants.{Memory}
use Rattle.parse_exprs.specs.declared.follow.Suffix.{Suffix}
use Rattle.parse_exprs.specs.declared.opening.Lead.{Lead}
use Rattle.parse_exprs.specs.declared.opening.Start.{Start}
use Rattle.parse_exprs.specs.Machine.{State, a_cond, calls, chucks, joins, postfix, unary}
use Rattle.parse_exprs.specs.Operands.{Behind, operand_from, either_way, declared_from, named_from}
use Rattle.parse_exprs.specs.Operands.{a_dur, a_level, led, started, suffixed}
use Rattle.parse_exprs.specs.Reads.{Slice, Reads, Looks, Atoms, Deepens}
use Rattle.parse_exprs.specs.Tokens.{Then, opening, a_mark, has}
use Rattle.ck_syntax.specs.Tree.{Expr, Name, expr_line, binary, chuck}
use Rattle.ck_syntax.specs.View.{view_option}
use Rattle.ck_syntax.specs.declared.declaration.Base.{Base}
use Rattle.ck_syntax.specs.declared.declaration.DeclHead.{DeclHead}
use Rattle.ck_syntax.specs.declared.expr.Expr.{Expr as Node}
use Rattle.ck_syntax.specs.declared.operator.BinaryOp.{BinaryOp}
use Rattle.ck_syntax.specs.declared.operator.ChuckOp.{ChuckOp}

-- the expression that this token is by itself, if it is one
abbrev pub GivesAtom : Token → Result (Option (Box Node)) Fault → Type 0
GivesAtom x r = MatchResult r
    (λ e. Atoms (opening x.line x.kind) x.line (view_option e))
    (λ f. f ≡ Memory out_of_memory)

-- the depth behind this mark, and what stands there; or the mark does not come next, or stands too
-- deep
abbrev pub Enters : ℕ → AMark → List Token → Result (Option (ℕ × Slice)) Fault → Type 0
Enters d j ts r = MatchResult r
    (λ o. MatchOption o (has (a_mark j) ts ≡ false)
    (λ x. (x.0 ≡ suc d) × (x.0 ≤ MAX_NESTING) × Then (Mark j) ts x.1.now))
    (λ e. (rest : List Token) × Then (Mark j) ts rest × Deepens d ts (Err e))

-- the depth within the limit, and fewer tokens than these
abbrev pub Fits : {A : Type 0} → List Token → Result (Option (A × ℕ × Slice)) Fault → Type 0
Fits ts r = IfOk r (λ o. IfSome o (λ x. (x.1 ≤ MAX_NESTING) × (length x.2.now < length ts)))

-- what goes on with a Postfix, of whatever expression, and the depth behind its first token
abbrev pub LooksForSuffix : ℕ → List Token → Result (Option (Suffix × ℕ × Slice)) Fault → Type 0
LooksForSuffix d ts r = (e : Expr) → Looks
    (λ (k : Expr → ℕ → State). calls d e k)
    (λ k. k e d)
    (λ x k. suffixed x.0 x.1 e k)
    (λ x. x.2.now) ts r

-- what begins a Unary that is no Dur, its line, and the depth behind its first token
abbrev pub LooksForLead : ℕ → List Token → Result (Option (Lead × ℕ × ℕ × Slice)) Fault → Type 0
LooksForLead d ts r = Looks
    (λ (k : Expr → ℕ → State). unary d k)
    (λ k. a_dur d k)
    (λ x k. led x.0 x.2 x.1 k)
    (λ x. x.3.now) ts r

-- what begins a Primary, and its line
abbrev pub ReadsStart : ℕ → List Token → Result (Start × ℕ × Slice) Fault → Type 0
ReadsStart d ts r = Reads
    (λ (k : Expr → ℕ → State). postfix d k)
    (λ x k. started d x.1 x.0 k)
    (λ x. x.2.now) ts r

-- the operator of that level behind whatever expression, and the depth behind it
abbrev pub LooksForOperator : ℕ → ℕ → List Token
    → Result (Option (BinaryOp × ℕ × Slice)) Fault → Type 0
LooksForOperator n d ts r = (e : Expr) → Looks
    (λ (k : Expr → ℕ → State). joins n d e k)
    (λ k. k e d)
    (λ x k. a_level n x.1 (λ g c. joins n c (binary (expr_line e) e x.0 g) k))
    (λ x. x.2.now) ts r

-- the same of a chuck operator
abbrev pub LooksForChuck : ℕ → List Token → Result (Option (ChuckOp × ℕ × Slice)) Fault → Type 0
LooksForChuck d ts r = (e : Expr) → Looks
    (λ (k : Expr → State). chucks d e k)
    (λ k. k e)
    (λ x k. operand_from x.1 (either_way x.1 (λ g c. chucks c (chuck (expr_line e) e x.0 g) k)))
    (λ x. x.2.now) ts r

-- the base of a declaration or `auto`, its line, and whether it is static
abbrev pub LooksForBase : ℕ → List Token
    → Result (Option (ℕ × Bool × Option Base × Slice)) Fault → Type 0
LooksForBase d ts r = Looks
    (λ (h : Behind). operand_from d h)
    (λ h. a_cond d h.value)
    (λ x h. declared_from d x.0 x.1 x.2 h)
    (λ x. x.3.now) ts r

-- the head of a declaration, its line, and its name
abbrev pub LooksForDeclaration : ℕ → List Token
    → Result (Option (ℕ × DeclHead × Name × Slice)) Fault → Type 0
LooksForDeclaration d ts r = Looks
    (λ (h : Behind). operand_from d h)
    (λ h. a_cond d h.value)
    (λ x h. named_from d x.0 x.1 x.2 h)
    (λ x. x.3.now) ts r
