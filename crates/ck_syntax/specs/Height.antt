-- How many constructs of a tree stand in one another: each is one higher than the highest of its
-- parts, and a list is as high as its highest item.
use Rattle.std.specs.Prelude.{ℕ, suc, max, Option, Some, None}
use Rattle.ck_syntax.specs.Tree.{Expr, paren, array, call, index, member, postfix, dur, prefix, new}
use Rattle.ck_syntax.specs.Tree.{new_with, spork, cast, binary, choice, declare, chuck, Exprs, no_exprs}
use Rattle.ck_syntax.specs.Tree.{and_expr, Brackets, no_brackets, and_empty, and_size, Declr, declr}
use Rattle.ck_syntax.specs.Tree.{declr_with, Declrs, no_declrs, and_declr, Stmt, block, simple}
use Rattle.ck_syntax.specs.Tree.{declares, print, if_then, if_else, while_do, until_do, do_while}
use Rattle.ck_syntax.specs.Tree.{do_until, for_do, for_each, repeat, return, Stmts, no_stmts, and_stmt}
use Rattle.ck_syntax.specs.Tree.{Fun, fun, constructor, Members, no_members, and_member, Member}
use Rattle.ck_syntax.specs.Tree.{fun_member, stmt_member, Class, class, Item, class_item, fun_item}
use Rattle.ck_syntax.specs.Tree.{stmt_item, File, no_items, and_item}

abbrev mutual
  pub expr_height : Expr → ℕ
  expr_height (paren l e) = suc (expr_height e)
  expr_height (array l es) = suc (exprs_height es)
  expr_height (call l e es) = suc (max (expr_height e) (exprs_height es))
  expr_height (index l e i) = suc (max (expr_height e) (expr_height i))
  expr_height (member l e n) = suc (expr_height e)
  expr_height (postfix l e o) = suc (expr_height e)
  expr_height (dur l e u) = suc (max (expr_height e) (expr_height u))
  expr_height (prefix l o e) = suc (expr_height e)
  expr_height (new l b es) = suc (exprs_height es)
  expr_height (new_with l b es) = suc (exprs_height es)
  expr_height (spork l e) = suc (expr_height e)
  expr_height (cast l e k) = suc (expr_height e)
  expr_height (binary l e o g) = suc (max (expr_height e) (expr_height g))
  expr_height (choice l c e g) = suc (max (expr_height c) (max (expr_height e) (expr_height g)))
  expr_height (declare l h x) = suc (declr_height x)
  expr_height (chuck l e o g) = suc (max (expr_height e) (expr_height g))
  expr_height _ = 1

  pub exprs_height : Exprs → ℕ
  exprs_height no_exprs = 0
  exprs_height (and_expr es e) = max (exprs_height es) (expr_height e)

  pub brackets_height : Brackets → ℕ
  brackets_height no_brackets = 0
  brackets_height (and_empty bs) = brackets_height bs
  brackets_height (and_size bs e) = max (brackets_height bs) (expr_height e)

  pub declr_height : Declr → ℕ
  declr_height (declr n bs) = brackets_height bs
  declr_height (declr_with n es) = exprs_height es

abbrev pub declrs_height : Declrs → ℕ
declrs_height no_declrs = 0
declrs_height (and_declr xs x) = max (declrs_height xs) (declr_height x)

abbrev pub option_height : Option Expr → ℕ
option_height None = 0
option_height (Some e) = expr_height e

abbrev mutual
  pub stmt_height : Stmt → ℕ
  stmt_height (block l ss) = suc (stmts_height ss)
  stmt_height (simple l e) = suc (expr_height e)
  stmt_height (declares l h xs) = suc (declrs_height xs)
  stmt_height (print l es) = suc (exprs_height es)
  stmt_height (if_then l e s) = suc (max (expr_height e) (stmt_height s))
  stmt_height (if_else l e s r) = suc (max (expr_height e) (max (stmt_height s) (stmt_height r)))
  stmt_height (while_do l e s) = suc (max (expr_height e) (stmt_height s))
  stmt_height (until_do l e s) = suc (max (expr_height e) (stmt_height s))
  stmt_height (do_while l s e) = suc (max (stmt_height s) (expr_height e))
  stmt_height (do_until l s e) = suc (max (stmt_height s) (expr_height e))
  stmt_height (for_do l x y e s) =
      suc (max (max (stmt_height x) (stmt_height y)) (max (option_height e) (stmt_height s)))
  stmt_height (for_each l h n q e s) = suc (max (expr_height e) (stmt_height s))
  stmt_height (repeat l e s) = suc (max (expr_height e) (stmt_height s))
  stmt_height (return l e) = suc (option_height e)
  stmt_height _ = 1

  pub stmts_height : Stmts → ℕ
  stmts_height no_stmts = 0
  stmts_height (and_stmt ss s) = max (stmts_height ss) (stmt_height s)

abbrev pub fun_height : Fun → ℕ
fun_height (fun l s k n ps ss) = suc (stmts_height ss)
fun_height (constructor l ps ss) = suc (stmts_height ss)

abbrev pub member_height : Member → ℕ
member_height (fun_member x) = fun_height x
member_height (stmt_member s) = stmt_height s

abbrev pub members_height : Members → ℕ
members_height no_members = 0
members_height (and_member xs x) = max (members_height xs) (member_height x)

abbrev pub class_height : Class → ℕ
class_height (class l p n parent xs) = suc (members_height xs)

abbrev pub item_height : Item → ℕ
item_height (class_item x) = class_height x
item_height (fun_item x) = fun_height x
item_height (stmt_item s) = stmt_height s

abbrev pub file_height : File → ℕ
file_height no_items = 0
file_height (and_item xs x) = max (file_height xs) (item_height x)

-- The greatest height of a tree in which no token stands too deep: of a statement with an
-- expression of height 129 + 128 + .. + 1.
abbrev pub MAX_HEIGHT : ℕ
MAX_HEIGHT = 8386
