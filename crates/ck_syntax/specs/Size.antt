-- The size of a tree: of how many tokens the grammar makes it.
use Rattle.std.specs.Prelude.{ℕ, ◌+◌, ◌*◌, Bool, true, false, Option, Some, None}
use Rattle.ck_syntax.specs.Tree.{Name, Expr, int, float, text, name, constant, time_unit, paren, array}
use Rattle.ck_syntax.specs.Tree.{call, index, member, postfix, dur, prefix, new, new_with, spork, cast}
use Rattle.ck_syntax.specs.Tree.{binary, choice, declare, chuck, Exprs, no_exprs, and_expr, Brackets}
use Rattle.ck_syntax.specs.Tree.{no_brackets, and_empty, and_size, Declr, declr, declr_with, Declrs}
use Rattle.ck_syntax.specs.Tree.{no_declrs, and_declr, Stmt, block, empty, simple, declares, print}
use Rattle.ck_syntax.specs.Tree.{if_then, if_else, while_do, until_do, do_while, do_until, for_do}
use Rattle.ck_syntax.specs.Tree.{for_each, repeat, break, continue, return, Stmts, no_stmts, and_stmt}
use Rattle.ck_syntax.specs.Tree.{Params, no_params, and_param, Fun, fun, constructor, Members}
use Rattle.ck_syntax.specs.Tree.{no_members, and_member, Member, fun_member, stmt_member, Class, class}
use Rattle.ck_syntax.specs.Tree.{Item, class_item, fun_item, stmt_item, File, no_items, and_item}
use Rattle.ck_syntax.specs.declared.declaration.DeclHead.{DeclHead}
use Rattle.ck_syntax.specs.declared.declaration.TypeName.{TypeName}
use Rattle.ck_syntax.specs.declared.file.Param.{Param}

-- one token where it is there
abbrev pub one_if : Bool → ℕ
one_if false = 0
one_if true = 1

-- a base, and two brackets a pair
abbrev pub type_size : TypeName → ℕ
type_size t = 1 + 2 * t.brackets

-- `static`, a base or `auto`, `@`
abbrev pub head_size : DeclHead → ℕ
head_size h = one_if h.is_static + 1 + one_if h.is_reference

abbrev mutual
  pub expr_size : Expr → ℕ
  expr_size (int l v) = 1
  expr_size (float l v) = 1
  expr_size (text l v) = 1
  expr_size (name l n) = 1
  expr_size (constant l c) = 1
  expr_size (time_unit l u) = 1
  expr_size (paren l e) = expr_size e + 2
  expr_size (array l es) = exprs_size es + 2
  expr_size (call l e es) = expr_size e + exprs_size es + 2
  expr_size (index l e i) = expr_size e + expr_size i + 2
  expr_size (member l e n) = expr_size e + 2
  expr_size (postfix l e o) = expr_size e + 1
  expr_size (dur l e u) = expr_size e + expr_size u + 1
  expr_size (prefix l o e) = expr_size e + 1
  expr_size (new l b es) = bracketed_size es + 2
  expr_size (new_with l b es) = exprs_size es + 4
  expr_size (spork l e) = expr_size e + 2
  expr_size (cast l e t) = expr_size e + type_size t + 1
  expr_size (binary l e o f) = expr_size e + expr_size f + 1
  expr_size (choice l c e f) = expr_size c + expr_size e + expr_size f + 2
  expr_size (declare l h x) = head_size h + declr_size x
  expr_size (chuck l e o f) = expr_size e + expr_size f + 1

  -- expressions with a comma between each two
  pub exprs_size : Exprs → ℕ
  exprs_size no_exprs = 0
  exprs_size (and_expr es e) = before_comma es + expr_size e

  -- expressions with a comma behind each
  pub before_comma : Exprs → ℕ
  before_comma no_exprs = 0
  before_comma (and_expr es e) = before_comma es + expr_size e + 1

  -- expressions in brackets each
  pub bracketed_size : Exprs → ℕ
  bracketed_size no_exprs = 0
  bracketed_size (and_expr es e) = bracketed_size es + expr_size e + 2

  pub brackets_size : Brackets → ℕ
  brackets_size no_brackets = 0
  brackets_size (and_empty bs) = brackets_size bs + 2
  brackets_size (and_size bs e) = brackets_size bs + expr_size e + 2

  pub declr_size : Declr → ℕ
  declr_size (declr n bs) = brackets_size bs + 1
  declr_size (declr_with n es) = exprs_size es + 3

abbrev mutual
  -- declarators with a comma between each two
  pub declrs_size : Declrs → ℕ
  declrs_size no_declrs = 0
  declrs_size (and_declr xs x) = declrs_before_comma xs + declr_size x

  pub declrs_before_comma : Declrs → ℕ
  declrs_before_comma no_declrs = 0
  declrs_before_comma (and_declr xs x) = declrs_before_comma xs + declr_size x + 1

-- the size of an expression that may be missing
abbrev pub option_size : Option Expr → ℕ
option_size None = 0
option_size (Some e) = expr_size e

abbrev mutual
  pub stmt_size : Stmt → ℕ
  stmt_size (block l ss) = stmts_size ss + 2
  stmt_size (empty l) = 1
  stmt_size (simple l e) = expr_size e + 1
  stmt_size (declares l h xs) = head_size h + declrs_size xs + 1
  stmt_size (print l es) = exprs_size es + 3
  stmt_size (if_then l e s) = expr_size e + stmt_size s + 3
  stmt_size (if_else l e s r) = expr_size e + stmt_size s + stmt_size r + 4
  stmt_size (while_do l e s) = expr_size e + stmt_size s + 3
  stmt_size (until_do l e s) = expr_size e + stmt_size s + 3
  stmt_size (do_while l s e) = stmt_size s + expr_size e + 5
  stmt_size (do_until l s e) = stmt_size s + expr_size e + 5
  stmt_size (for_do l a b e s) = stmt_size a + stmt_size b + option_size e + stmt_size s + 3
  stmt_size (for_each l h n q e s) = head_size h + 2 * q + expr_size e + stmt_size s + 5
  stmt_size (repeat l e s) = expr_size e + stmt_size s + 3
  stmt_size (break l) = 2
  stmt_size (continue l) = 2
  stmt_size (return l e) = option_size e + 2

  pub stmts_size : Stmts → ℕ
  stmts_size no_stmts = 0
  stmts_size (and_stmt ss s) = stmts_size ss + stmt_size s

-- a type, a name, and two brackets a pair
abbrev pub param_size : Param → ℕ
param_size p = type_size p.kind + 1 + 2 * p.brackets

abbrev mutual
  -- parameters with a comma between each two
  pub params_size : Params → ℕ
  params_size no_params = 0
  params_size (and_param ps p) = params_before_comma ps + param_size p

  pub params_before_comma : Params → ℕ
  params_before_comma no_params = 0
  params_before_comma (and_param ps p) = params_before_comma ps + param_size p + 1

-- `fun`, `static`, a type, a name, parameters in parentheses, a block; or `@` and `construct`
abbrev pub fun_size : Fun → ℕ
fun_size (fun l s t n ps ss) = one_if s + type_size t + params_size ps + stmts_size ss + 6
fun_size (constructor l ps ss) = params_size ps + stmts_size ss + 7

abbrev pub member_size : Member → ℕ
member_size (fun_member f) = fun_size f
member_size (stmt_member s) = stmt_size s

abbrev pub members_size : Members → ℕ
members_size no_members = 0
members_size (and_member ms m) = members_size ms + member_size m

-- `extends` and a name, where there is a parent
abbrev pub parent_size : Option Name → ℕ
parent_size None = 0
parent_size (Some n) = 2

-- `public`, `class`, a name, its parent, members in braces
abbrev pub class_size : Class → ℕ
class_size (class l p n parent ms) = one_if p + parent_size parent + members_size ms + 4

abbrev pub item_size : Item → ℕ
item_size (class_item c) = class_size c
item_size (fun_item f) = fun_size f
item_size (stmt_item s) = stmt_size s

abbrev pub items_size : File → ℕ
items_size no_items = 0
items_size (and_item is i) = items_size is + item_size i

-- the items and the end
abbrev pub file_size : File → ℕ
file_size f = items_size f + 1
