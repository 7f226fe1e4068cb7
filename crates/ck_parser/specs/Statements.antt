-- What is to come in a statement, behind its first word or mark.
use Rattle.std.specs.Prelude.{◌≡◌, ℕ, suc, List, [], ◌∷◌, Bool, true, false, Option, Some, None}
use Rattle.std.specs.Prelude.{MatchOption, Result, IfOk}
use Rattle.std.specs.Global.{Box}
use Rattle.ck_lexer.specs.declared.mark.Mark.TheVariants as m
use Rattle.ck_lexer.specs.declared.token.Token.{Token}
use Rattle.ck_lexer.specs.declared.token.TokenKind.TheVariants.{Mark}
use Rattle.ck_lexer.specs.declared.word.Word.TheVariants as w
use Rattle.ck_parser.specs.declared.stmt_node.ForStart.{ForStart}
use Rattle.ck_parser.specs.declared.stmt_node.ForStart.TheVariants as start
use Rattle.ck_parser.specs.declared.stmt_node.LoopWord.{LoopWord}
use Rattle.ck_parser.specs.declared.stmt_node.LoopWord.TheVariants as loop_word
use Rattle.parse_exprs.specs.declared.fault.Fault.{Fault}
use Rattle.parse_exprs.specs.Machine.{State, sign, may, a_stmt, an_expr_stmt, stmts, chucks}
use Rattle.parse_exprs.specs.Machine.{more_declrs, a_declr, some_exprs, a_test, declares_or}
use Rattle.parse_exprs.specs.Machine.{simple_end, for_start, after_colon}
use Rattle.parse_exprs.specs.Operands.{Behind, optional, tree_of}
use Rattle.parse_exprs.specs.Reads.{Slice, Reads, ReadsPart}
use Rattle.parse_exprs.specs.Tokens.{Opening, opens_block, opens_if, opens_while, opens_until}
use Rattle.parse_exprs.specs.Tokens.{opens_do, opens_for, opens_repeat, opens_fun, opens_class}
use Rattle.parse_exprs.specs.Tokens.{opens_public, opens_nothing, opening, a_word, a_mark, has}
use Rattle.parse_exprs.specs.Tokens.{Then}
use Rattle.ck_syntax.specs.Tree as t
use Rattle.ck_syntax.specs.Tree.{Name, Expr, Exprs, Declr, Declrs, Stmt, Stmts, no_stmts, no_declrs}
use Rattle.ck_syntax.specs.Tree.{and_declr}
use Rattle.ck_syntax.specs.View.{view_option, view_stmt}
use Rattle.ck_syntax.specs.declared.declaration.DeclHead.{DeclHead}
use Rattle.ck_syntax.specs.declared.expr.Expr.{Expr as ExprNode}
use Rattle.ck_syntax.specs.declared.stmt.LoopItem.{LoopItem}
use Rattle.ck_syntax.specs.declared.stmt.Stmt.{Stmt as StmtNode}

-- ---- which tokens begin a statement

abbrev pub begins_stmt : Opening → Bool
begins_stmt opens_fun = false
begins_stmt opens_class = false
begins_stmt opens_public = false
begins_stmt opens_nothing = false
begins_stmt _ = true

-- whether a statement begins with the next token
abbrev pub has_stmt : List Token → Bool
has_stmt [] = false
has_stmt (x ∷ ts) = begins_stmt (opening x.line x.kind)

-- what begins with no other statement inside
abbrev pub is_plain : Opening → Bool
is_plain opens_block = false
is_plain opens_if = false
is_plain opens_while = false
is_plain opens_until = false
is_plain opens_repeat = false
is_plain opens_do = false
is_plain opens_for = false
is_plain _ = true

abbrev pub has_plain : List Token → Bool
has_plain [] = true
has_plain (x ∷ ts) = is_plain (opening x.line x.kind)

-- the line of the next token
abbrev pub next_line : List Token → ℕ
next_line [] = 0
next_line (x ∷ ts) = x.line

-- ---- statements with no other inside

abbrev pub ends : ℕ → State → State
ends d s = sign d (a_mark m.Semicolon) s

abbrev pub after_print : ℕ → ℕ → (Stmt → State) → State
after_print d l k = some_exprs d (λ es. sign d (a_mark m.PrintClose) (ends d (k (t.print l es))))

abbrev pub after_return : ℕ → ℕ → (Stmt → State) → State
after_return d l k = optional d (a_mark m.Semicolon) (λ e. k (t.return l e))

-- behind the operand that begins the statement
abbrev pub behind_first : ℕ → (Stmt → State) → Behind
behind_first d k =
    record { declaration = declares_or d k; value = λ e c. chucks c e (simple_end d k) }

-- behind the comma after a first declarator
abbrev pub other_declrs : ℕ → Declr → (Declrs → State) → State
other_declrs d x k = a_declr d (λ y. more_declrs d (and_declr (and_declr no_declrs x) y) k)

-- ---- statements with others inside

-- '(' Expr ')' Stmt
abbrev pub tested : ℕ → (Expr → Stmt → State) → State
tested d k = a_test d (λ e. a_stmt (suc d) (k e))

abbrev pub after_if : ℕ → ℕ → (Stmt → State) → State
after_if d l k = tested d (λ e s. may d (a_word w.Else)
    (a_stmt (suc d) (λ r. k (t.if_else l e s r))) (k (t.if_then l e s)))

abbrev pub loop_of : LoopWord → ℕ → Expr → Stmt → Stmt
loop_of loop_word.While l e s = t.while_do l e s
loop_of loop_word.Until l e s = t.until_do l e s
loop_of loop_word.Repeat l e s = t.repeat l e s

abbrev pub after_loop : LoopWord → ℕ → ℕ → (Stmt → State) → State
after_loop j d l k = tested d (λ e s. k (loop_of j l e s))

-- behind the body of a `do`
abbrev pub do_end : ℕ → ℕ → Stmt → (Stmt → State) → State
do_end d l s k = may d (a_word w.While)
    (a_test d (λ e. ends d (k (t.do_while l s e))))
    (sign d (a_word w.Until) (a_test d (λ e. ends d (k (t.do_until l s e)))))

abbrev pub after_do : ℕ → ℕ → (Stmt → State) → State
after_do d l k = a_stmt (suc d) (λ s. do_end d l s k)

-- what is to come behind each of the two beginnings of a `for`'s parentheses
pub record BehindStart : Type 0 where
  pub item : DeclHead → Name → ℕ → State
  pub stmt : Stmt → State

abbrev pub a_for_start : ℕ → BehindStart → State
a_for_start d h = for_start d h.item h.stmt

abbrev pub start_next : ForStart → BehindStart → State
start_next (start.Stmt s) h = h.stmt (view_stmt s.value)
start_next (start.Item x) h = h.item x.head x.name x.brackets

-- ExprStmt Expr? ')'
abbrev pub a_for_rest : ℕ → (Stmt → Option Expr → State) → State
a_for_rest d k = an_expr_stmt d (λ y. optional d (a_mark m.RightParen) (k y))

-- behind a first part of three
abbrev pub after_start : ℕ → ℕ → (Stmt → State) → Stmt → State
after_start d l k x =
    a_for_rest (suc d) (λ y e. a_stmt (suc d) (λ s. k (t.for_do l x y e s)))

abbrev pub behind_start : ℕ → ℕ → (Stmt → State) → BehindStart
behind_start d l k = record { item = after_colon d l k; stmt = after_start d l k }

abbrev pub after_for : ℕ → ℕ → (Stmt → State) → State
after_for d l k = sign (suc d) (a_mark m.LeftParen) (a_for_start (suc d) (behind_start d l k))

-- whether a ':' comes next where a declarator of so many pairs of brackets may be an item's
abbrev pub has_colon : Option ℕ → List Token → Bool
has_colon None ts = false
has_colon (Some q) ts = has (a_mark m.Colon) ts

-- the pairs, and what stands behind the ':'; or none comes that may
abbrev pub FindsColon : Option ℕ → List Token → Option (ℕ × Slice) → Type 0
FindsColon o ts r = MatchOption r (has_colon o ts ≡ false)
    (λ x. (o ≡ Some x.0) × Then (Mark m.Colon) ts x.1.now)

abbrev pub each_of : ℕ → LoopItem → Expr → Stmt → Stmt
each_of l x e s = t.for_each l x.head x.name x.brackets e s

abbrev pub after_block : ℕ → ℕ → (Stmt → State) → State
after_block d l k = stmts (suc d) no_stmts (λ ss. sign d (a_mark m.RightBrace) (k (t.block l ss)))

-- ---- what the functions that make and read statements returned

-- the tree in a box
abbrev pub stmt_of : Box StmtNode → Stmt
stmt_of s = view_stmt s.value

-- this statement, in a box
abbrev pub MakesStmt : {E : Type 0} → Stmt → Result (Box StmtNode) E → Type 0
MakesStmt s r = IfOk r (λ b. stmt_of b ≡ s)

abbrev pub ReadsStmt : ((Stmt → State) → State)
    → List Token → Result (Box StmtNode × Slice) Fault → Type 0
ReadsStmt S ts r = ReadsPart S stmt_of ts r

-- '(' Expr ')' Stmt
abbrev pub ReadsTested : ℕ → List Token → Result (Box ExprNode × Box StmtNode × Slice) Fault
    → Type 0
ReadsTested d ts r = Reads
    (λ (k : Expr → Stmt → State). tested d k)
    (λ x k. k (tree_of x.0) (stmt_of x.1))
    (λ x. x.2.now) ts r

-- what begins the parentheses of a `for`
abbrev pub ReadsStart : (BehindStart → State) → List Token → Result (ForStart × Slice) Fault
    → Type 0
ReadsStart S ts r = Reads S (λ x h. start_next x.0 h) (λ x. x.1.now) ts r

-- ExprStmt Expr? ')'
abbrev pub ReadsForRest : ℕ → List Token
    → Result (Box StmtNode × Option (Box ExprNode) × Slice) Fault → Type 0
ReadsForRest d ts r = Reads
    (λ (k : Stmt → Option Expr → State). a_for_rest d k)
    (λ x k. k (stmt_of x.0) (view_option x.1))
    (λ x. x.2.now) ts r
