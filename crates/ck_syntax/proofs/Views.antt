-- The views of trees that hold lists, at the lists that the program made them of.
use Rattle.std.proofs.Common.{◌≡◌, ℕ, List, [], ◌∷◌, ◌++◌, refl, rules, Box, Global}
use Rattle.ck_syntax.specs.Tree as t
use Rattle.ck_syntax.specs.View.{view_expr, view_kind, view_exprs, view_brackets, view_tail, with_bracket, view_stmt, view_stmt_kind, view_stmts, exprs_of, brackets_of, stmts_of, declrs_of, view_declr, params_of, members_of, view_member, items_of, view_item}
use Rattle.ck_syntax.specs.declared.declaration.Base.{Base}
use Rattle.ck_syntax.specs.declared.declaration.DeclHead.{DeclHead}
use Rattle.ck_syntax.specs.declared.expr.Bracket.{Bracket}
use Rattle.ck_syntax.specs.declared.expr.Declarator.{Declarator}
use Rattle.ck_syntax.specs.declared.expr.Expr.{Expr}
use Rattle.ck_syntax.specs.declared.expr.ExprKind as raw
use Rattle.ck_syntax.specs.declared.expr.Bracket.TheViews as expr_views
use Rattle.ck_syntax.specs.declared.expr.DeclaratorTail as tail
use Rattle.ck_syntax.specs.declared.expr.DeclaratorTail.{DeclaratorTail}
use Rattle.ck_syntax.specs.declared.file.Item.{Item}
use Rattle.ck_syntax.specs.declared.file.Member.{Member}
use Rattle.ck_syntax.specs.declared.file.Param.{Param}
use Rattle.ck_syntax.specs.declared.stmt.Stmt.{Stmt}
use Rattle.ck_syntax.specs.declared.stmt.StmtKind as raw_stmt
use Rattle.ck_syntax.specs.declared.stmt.StmtKind.TheViews as stmt_views

view_exprs-row : (n : _) (es : raw.Row_of-Expr n) (before : t.Exprs)
    → view_exprs before es ≡ exprs_of before (raw.items-the_row-Expr n es)
view_exprs-row _ raw.end_of-Expr before = refl
view_exprs-row _ (raw.more_of-Expr l k es) before = view_exprs-row _ es (t.and_expr before (view_kind l k))

view_brackets-row : (n : _) (bs : tail.Row_of-Bracket n) (before : t.Brackets)
    → view_brackets before bs ≡ brackets_of before (tail.items-the_row-Bracket n bs)
view_brackets-row _ tail.end_of-Bracket before = refl
view_brackets-row _ (tail.more_of-Bracket b bs) before = view_brackets-row _ bs (with_bracket before b)

view_stmts-row : (n : _) (ss : raw_stmt.Row_of-Stmt n) (before : t.Stmts)
    → view_stmts before ss ≡ stmts_of before (raw_stmt.items-the_row-Stmt n ss)
view_stmts-row _ raw_stmt.end_of-Stmt before = refl
view_stmts-row _ (raw_stmt.more_of-Stmt l k ss) before = view_stmts-row _ ss (t.and_stmt before (view_stmt_kind l k))

pub view-Array : (l : ℕ) (es : List Expr) → view_kind l (raw.Array es) ≡ t.array l (exprs_of t.no_exprs es)
view-Array l es = search (rules, expr_views.the_lemmas, view_exprs-row)

pub view-Call : (l : ℕ) (e : Box Expr Global) (es : List Expr)
    → view_kind l (raw.Call e es) ≡ t.call l (view_expr e.value) (exprs_of t.no_exprs es)
view-Call l e es = search (rules, expr_views.the_lemmas, view_exprs-row)

pub view-New : (l : ℕ) (b : Base) (es : List Expr) → view_kind l (raw.New b es) ≡ t.new l b (exprs_of t.no_exprs es)
view-New l b es = search (rules, expr_views.the_lemmas, view_exprs-row)

pub view-NewWith : (l : ℕ) (b : Base) (es : List Expr)
    → view_kind l (raw.NewWith b es) ≡ t.new_with l b (exprs_of t.no_exprs es)
view-NewWith l b es = search (rules, expr_views.the_lemmas, view_exprs-row)

pub view-Brackets : (n : t.Name) (bs : List Bracket)
    → view_tail n (tail.Brackets bs) ≡ t.declr n (brackets_of t.no_brackets bs)
view-Brackets n bs = search (rules, expr_views.the_lemmas, view_brackets-row)

pub view-Arguments : (n : t.Name) (es : List Expr)
    → view_tail n (tail.Arguments es) ≡ t.declr_with n (exprs_of t.no_exprs es)
view-Arguments n es = search (rules, expr_views.the_lemmas, view_exprs-row)

pub view-Declare : (l : ℕ) (h : DeclHead) (x : Box Declarator Global)
    → view_kind l (raw.Declare h x) ≡ t.declare l h (view_declr x.value)
view-Declare l h x = search (rules, expr_views.the_lemmas)

pub view-Block : (l : ℕ) (ss : List Stmt) → view_stmt_kind l (raw_stmt.Block ss) ≡ t.block l (stmts_of t.no_stmts ss)
view-Block l ss = search (rules, stmt_views.the_lemmas, view_stmts-row)

pub line_is : (l : ℕ) (k : raw.ExprKind) → t.expr_line (view_kind l k) ≡ l
line_is l (raw.Int v) = refl
line_is l _ = refl

-- ---- a list with one more

pub exprs_of-append : (before : t.Exprs) (es : List Expr) (e : Expr)
    → exprs_of before (es ++ e ∷ []) ≡ t.and_expr (exprs_of before es) (view_expr e)
exprs_of-append before [] e = refl
exprs_of-append before (x ∷ es) e = exprs_of-append (t.and_expr before (view_expr x)) es e

pub brackets_of-append : (before : t.Brackets) (bs : List Bracket) (b : Bracket)
    → brackets_of before (bs ++ b ∷ []) ≡ with_bracket (brackets_of before bs) b
brackets_of-append before [] b = refl
brackets_of-append before (x ∷ bs) b = brackets_of-append (with_bracket before x) bs b

pub declrs_of-append : (before : t.Declrs) (xs : List Declarator) (x : Declarator)
    → declrs_of before (xs ++ x ∷ []) ≡ t.and_declr (declrs_of before xs) (view_declr x)
declrs_of-append before [] x = refl
declrs_of-append before (y ∷ xs) x = declrs_of-append (t.and_declr before (view_declr y)) xs x

pub stmts_of-append : (before : t.Stmts) (ss : List Stmt) (s : Stmt)
    → stmts_of before (ss ++ s ∷ []) ≡ t.and_stmt (stmts_of before ss) (view_stmt s)
stmts_of-append before [] s = refl
stmts_of-append before (x ∷ ss) s = stmts_of-append (t.and_stmt before (view_stmt x)) ss s

pub params_of-append : (before : t.Params) (ps : List Param) (p : Param)
    → params_of before (ps ++ p ∷ []) ≡ t.and_param (params_of before ps) p
params_of-append before [] p = refl
params_of-append before (x ∷ ps) p = params_of-append (t.and_param before x) ps p

pub members_of-append : (before : t.Members) (ms : List Member) (m : Member)
    → members_of before (ms ++ m ∷ []) ≡ t.and_member (members_of before ms) (view_member m)
members_of-append before [] m = refl
members_of-append before (x ∷ ms) m = members_of-append (t.and_member before (view_member x)) ms m

pub items_of-append : (before : t.File) (is : List Item) (i : Item)
    → items_of before (is ++ i ∷ []) ≡ t.and_item (items_of before is) (view_item i)
items_of-append before [] i = refl
items_of-append before (x ∷ is) i = items_of-append (t.and_item before (view_item x)) is i
