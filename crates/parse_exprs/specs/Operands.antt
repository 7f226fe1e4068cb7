-- What is to come behind an operand that may be a declaration.
use Rattle.std.specs.Prelude.{ℕ, ◌≤◌, Bool, Option, Some, None}
use Rattle.std.specs.Global.{Box}
use Rattle.ck_base.specs.declared.limits.TheConstants.{MAX_NESTING}
use Rattle.ck_lexer.specs.declared.mark.Mark.TheVariants as m
use Rattle.parse_exprs.specs.declared.follow.Follow.{Follow}
use Rattle.parse_exprs.specs.declared.follow.Follow.TheVariants as f
use Rattle.parse_exprs.specs.declared.follow.Suffix.{Suffix}
use Rattle.parse_exprs.specs.declared.follow.Suffix.TheVariants as s
use Rattle.parse_exprs.specs.declared.opening.Lead.{Lead}
use Rattle.parse_exprs.specs.declared.opening.Lead.TheVariants as lead
use Rattle.parse_exprs.specs.declared.opening.Start.{Start}
use Rattle.parse_exprs.specs.declared.opening.Start.TheVariants as start
use Rattle.parse_exprs.specs.declared.operand.Operand.{Operand}
use Rattle.parse_exprs.specs.declared.operand.Operand.TheVariants.{Declaration, Value}
use Rattle.parse_exprs.specs.Machine.{State, a_base, a_declared, a_name, an_expr, arguments, calls}
use Rattle.parse_exprs.specs.Machine.{declared, declr_rest, durs, joined, may, operand, postfix, sign}
use Rattle.parse_exprs.specs.Machine.{some_exprs, unary, new_rest}
use Rattle.parse_exprs.specs.Tokens.{Sign, a_mark}
use Rattle.ck_syntax.specs.Tree as t
use Rattle.ck_syntax.specs.Tree.{Expr, Exprs, Brackets, Declr, Name, expr_line, and_empty}
use Rattle.ck_syntax.specs.Tree.{and_size}
use Rattle.ck_syntax.specs.View.{view_expr, view_declr}
use Rattle.ck_syntax.specs.declared.declaration.Base.{Base}
use Rattle.ck_syntax.specs.declared.declaration.DeclHead.{DeclHead}
use Rattle.ck_syntax.specs.declared.expr.Expr.{Expr as Node}

-- the tree in a box
abbrev pub tree_of : Box Node → Expr
tree_of e = view_expr e.value

-- what is to come behind a declaration, and behind a value
pub record Behind : Type 0 where
  pub declaration : ℕ → DeclHead → Declr → State
  pub value : Expr → ℕ → State

abbrev pub operand_from : ℕ → Behind → State
operand_from d h = operand d h.declaration h.value

abbrev pub declared_from : ℕ → ℕ → Bool → Option Base → Behind → State
declared_from d l s b h = declared d (a_declared d l s b h.declaration)

abbrev pub operand_next : Operand → Behind → State
operand_next (Declaration l head x) h = h.declaration l head (view_declr x)
operand_next (Value e d) h = h.value (view_expr e.value) d

-- what is to come behind an operand that serves as an expression, where a declaration stands at
-- this depth
abbrev pub either_way : ℕ → (Expr → ℕ → State) → Behind
either_way d k = record { declaration = λ l h x. k (t.declare l h x) d; value = k }

abbrev pub IsShallow : Operand → Type 0
IsShallow (Declaration l head x) = Unit {0}
IsShallow (Value e d) = d ≤ MAX_NESTING

-- what is to come behind the name of a declaration
abbrev pub named_from : ℕ → ℕ → DeclHead → Name → Behind → State
named_from d l head n h = declr_rest d n (h.declaration l head)

-- the pairs of brackets, and one more, with a size or none
abbrev pub bracketed : Brackets → Option Expr → Brackets
bracketed bs None = and_empty bs
bracketed bs (Some e) = and_size bs e

-- Expr, and this behind it
abbrev pub closed : ℕ → Sign → (Expr → State) → State
closed d j k = an_expr d (λ e. sign d j (k e))

-- Expr (',' Expr)*, and this behind them
abbrev pub all_closed : ℕ → Sign → (Exprs → State) → State
all_closed d j k = some_exprs d (λ es. sign d j (k es))

-- Expr?, and this behind it
abbrev pub optional : ℕ → Sign → (Option Expr → State) → State
optional d j k = may d j (k None) (closed d j (λ e. k (Some e)))

-- Dur
abbrev pub a_dur : ℕ → (Expr → ℕ → State) → State
a_dur d k = postfix d (λ e c. durs c e k)

-- Cast, or what the levels below n join
abbrev pub a_level : ℕ → ℕ → (Expr → ℕ → State) → State
a_level n d k = unary d (λ e c. joined n c e k)

-- what is to come behind the first token of a Primary, of that line
abbrev pub started : ℕ → ℕ → Start → (Expr → ℕ → State) → State
started d l (start.Atom e) k = calls d (view_expr e.value) k
started d l (start.Paren c) k = closed c (a_mark m.RightParen) (λ e. calls d (t.paren l e) k)
started d l (start.Array c) k =
    all_closed c (a_mark m.RightBracket) (λ es. calls d (t.array l es) k)

abbrev pub IsShallowStart : Start → Type 0
IsShallowStart (start.Atom e) = Unit {0}
IsShallowStart (start.Paren c) = c ≤ MAX_NESTING
IsShallowStart (start.Array c) = c ≤ MAX_NESTING

-- what goes on with a Postfix
abbrev pub suffix_of : Follow → Option Suffix
suffix_of f.Call = Some s.Call
suffix_of f.Index = Some s.Index
suffix_of f.Member = Some s.Member
suffix_of (f.Postfix o) = Some (s.Postfix o)
suffix_of _ = None

-- what is to come behind a token that goes on with a Postfix
abbrev pub suffixed : Suffix → ℕ → Expr → (Expr → ℕ → State) → State
suffixed s.Call d e k = arguments d (λ es. calls d (t.call (expr_line e) e es) k)
suffixed s.Index d e k =
    closed d (a_mark m.RightBracket) (λ i. calls d (t.index (expr_line e) e i) k)
suffixed s.Member d e k = a_name d (λ n. calls d (t.member (expr_line e) e n) k)
suffixed (s.Postfix o) d e k = calls d (t.postfix (expr_line e) e o) k

-- the same behind what begins a Unary
abbrev pub led : Lead → ℕ → ℕ → (Expr → ℕ → State) → State
led (lead.Prefix o) d l k = unary d (λ e c. k (t.prefix l o e) c)
led lead.New d l k = a_base d (λ b. new_rest d l b (λ e. k e d))
led lead.Spork d l k = sign d (a_mark m.Tilde) (postfix d (λ e c. k (t.spork l e) c))
