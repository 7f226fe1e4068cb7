-- The walk that enters members, functions and variables: what each step keeps, it keeps.
use Rattle.std.proofs.Common.{ℕ, Option, Some, None}
use Rattle.ck_syntax.specs.declared.declaration.DeclHead.{DeclHead}
use Rattle.ck_syntax.specs.Tree as tree
use Rattle.ck_syntax.specs.Tree.{Expr, Exprs, no_exprs, and_expr, Brackets, no_brackets, and_empty, and_size, Declrs, no_declrs, and_declr, Declr, declr, declr_with, Stmt}
use Rattle.type_table.specs.Answer.{and_then}
use Rattle.type_table.specs.Table.{Table}
use Rattle.first_walk.specs.FirstWalk.{enter_declared, enter_expr, enter_exprs, enter_behind, enter_brackets, enter_declrs, enter_option, enter_stmt}
use Rattle.first_walk.proofs.SameNames.{GivesSuch, gives_then}

module _ (f : ℕ) (o : Option ℕ) (P : Table → Type 0)
    (keep : (t : Table) (l : ℕ) (h : DeclHead) (x : Declr) → P t → GivesSuch P (enter_declared t f l o h x)) where
  mutual
    pub expr_keeps : (t : Table) (e : Expr) → P t → GivesSuch P (enter_expr f o t e)
    expr_keeps t (tree.paren l e) p = expr_keeps t e p
    expr_keeps t (tree.array l es) p = exprs_keep t es p
    expr_keeps t (tree.call l e es) p = gives_then P P (enter_expr f o t e) (λ u. enter_exprs f o u es)
        (expr_keeps t e p) (λ u q. exprs_keep u es q)
    expr_keeps t (tree.index l e i) p = gives_then P P (enter_expr f o t e) (λ u. enter_expr f o u i) (expr_keeps t e p)
        (λ u q. expr_keeps u i q)
    expr_keeps t (tree.member l e n) p = expr_keeps t e p
    expr_keeps t (tree.postfix l e d) p = expr_keeps t e p
    expr_keeps t (tree.dur l e d) p = gives_then P P (enter_expr f o t e) (λ u. enter_expr f o u d) (expr_keeps t e p)
        (λ u q. expr_keeps u d q)
    expr_keeps t (tree.prefix l d e) p = expr_keeps t e p
    expr_keeps t (tree.new l b es) p = exprs_keep t es p
    expr_keeps t (tree.new_with l b es) p = exprs_keep t es p
    expr_keeps t (tree.spork l e) p = expr_keeps t e p
    expr_keeps t (tree.cast l e k) p = expr_keeps t e p
    expr_keeps t (tree.binary l a d b) p = gives_then P P (enter_expr f o t a) (λ u. enter_expr f o u b)
        (expr_keeps t a p) (λ u q. expr_keeps u b q)
    expr_keeps t (tree.choice l c a b) p =
        gives_then P P (enter_expr f o t c) (λ u. and_then (enter_expr f o u a) (λ v. enter_expr f o v b))
        (expr_keeps t c p)
        (λ u q. gives_then P P (enter_expr f o u a) (λ v. enter_expr f o v b) (expr_keeps u a q)
        (λ v r. expr_keeps v b r))
    expr_keeps t (tree.declare l h x) p = gives_then P P (enter_behind f o t x) (λ u. enter_declared u f l o h x)
        (behind_keeps t x p) (λ u q. keep u l h x q)
    expr_keeps t (tree.chuck l a d b) p = gives_then P P (enter_expr f o t a) (λ u. enter_expr f o u b)
        (expr_keeps t a p) (λ u q. expr_keeps u b q)
    expr_keeps t _ p = p

    pub exprs_keep : (t : Table) (es : Exprs) → P t → GivesSuch P (enter_exprs f o t es)
    exprs_keep t no_exprs p = p
    exprs_keep t (and_expr es e) p = gives_then P P (enter_exprs f o t es) (λ u. enter_expr f o u e) (exprs_keep t es p)
        (λ u q. expr_keeps u e q)

    pub behind_keeps : (t : Table) (x : Declr) → P t → GivesSuch P (enter_behind f o t x)
    behind_keeps t (declr n bs) p = brackets_keep t bs p
    behind_keeps t (declr_with n es) p = exprs_keep t es p

    pub brackets_keep : (t : Table) (bs : Brackets) → P t → GivesSuch P (enter_brackets f o t bs)
    brackets_keep t no_brackets p = p
    brackets_keep t (and_empty bs) p = brackets_keep t bs p
    brackets_keep t (and_size bs e) p = gives_then P P (enter_brackets f o t bs) (λ u. enter_expr f o u e)
        (brackets_keep t bs p) (λ u q. expr_keeps u e q)

  declrs_keep : (l : ℕ) (h : DeclHead) (t : Table) (ds : Declrs) → P t → GivesSuch P (enter_declrs f l o h t ds)
  declrs_keep l h t no_declrs p = p
  declrs_keep l h t (and_declr ds x) p =
      gives_then P P (enter_declrs f l o h t ds)
      (λ u. and_then (enter_behind f o u x) (λ v. enter_declared v f l o h x)) (declrs_keep l h t ds p)
      (λ u q. gives_then P P (enter_behind f o u x) (λ v. enter_declared v f l o h x) (behind_keeps u x q)
      (λ v r. keep v l h x r))

  option_keeps : (t : Table) (e : Option Expr) → P t → GivesSuch P (enter_option f o t e)
  option_keeps t None p = p
  option_keeps t (Some e) p = expr_keeps t e p

  pub stmt_keeps : (t : Table) (s : Stmt) → P t → GivesSuch P (enter_stmt f o t s)
  stmt_keeps t (tree.simple l e) p = expr_keeps t e p
  stmt_keeps t (tree.declares l h ds) p = declrs_keep l h t ds p
  stmt_keeps t (tree.print l es) p = exprs_keep t es p
  stmt_keeps t (tree.if_then l e s) p = expr_keeps t e p
  stmt_keeps t (tree.if_else l e s r) p = expr_keeps t e p
  stmt_keeps t (tree.while_do l e s) p = expr_keeps t e p
  stmt_keeps t (tree.until_do l e s) p = expr_keeps t e p
  stmt_keeps t (tree.do_while l s e) p = expr_keeps t e p
  stmt_keeps t (tree.do_until l s e) p = expr_keeps t e p
  stmt_keeps t (tree.repeat l e s) p = expr_keeps t e p
  stmt_keeps t (tree.return l e) p = option_keeps t e p
  stmt_keeps t _ p = p
