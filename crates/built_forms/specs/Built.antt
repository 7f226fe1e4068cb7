-- Which files have no form that is typed and not run yet: no `for` over the items of an array, no
-- `auto`, no constructor, and no arguments behind a declared name or of `new`.
use Rattle.std.specs.Prelude.{Bool, true, false, ◌&&◌, is_some, Option, Some, None}
use Rattle.ck_syntax.specs.declared.expr.Bracket.{Bracket, Empty, Size'}
use Rattle.ck_syntax.specs.View.{view_kind}
use Rattle.ck_syntax.specs.Tree as tree
use Rattle.ck_syntax.specs.Tree.{Expr, Exprs, no_exprs, and_expr, Brackets, no_brackets, and_empty, and_size, Declr, declr, declr_with, Declrs, no_declrs, and_declr, Stmt, Stmts, no_stmts, and_stmt, Fun, fun, constructor, Member, fun_member, stmt_member, Members, no_members, and_member, Item, class_item, fun_item, stmt_item, File, no_items, and_item}

abbrev mutual
  -- each form of an expression is run
  pub expr_built : Expr → Bool
  expr_built (tree.paren l e) = expr_built e
  expr_built (tree.array l es) = exprs_built es
  expr_built (tree.call l e es) = expr_built e && exprs_built es
  expr_built (tree.index l e i) = expr_built e && expr_built i
  expr_built (tree.member l e n) = expr_built e
  expr_built (tree.postfix l e p) = expr_built e
  expr_built (tree.dur l e d) = expr_built e && expr_built d
  expr_built (tree.prefix l p e) = expr_built e
  expr_built (tree.new l b es) = exprs_built es
  expr_built (tree.new_with l b es) = false
  expr_built (tree.spork l e) = expr_built e
  expr_built (tree.cast l e k) = expr_built e
  expr_built (tree.binary l a p b) = expr_built a && expr_built b
  expr_built (tree.choice l c a b) = expr_built c && (expr_built a && expr_built b)
  expr_built (tree.declare l h x) = is_some h.base && declr_built x
  expr_built (tree.chuck l a p b) = expr_built a && expr_built b
  expr_built _ = true

  pub exprs_built : Exprs → Bool
  exprs_built no_exprs = true
  exprs_built (and_expr es e) = exprs_built es && expr_built e

  pub brackets_built : Brackets → Bool
  brackets_built no_brackets = true
  brackets_built (and_empty bs) = brackets_built bs
  brackets_built (and_size bs e) = brackets_built bs && expr_built e

  pub declr_built : Declr → Bool
  declr_built (declr n bs) = brackets_built bs
  declr_built (declr_with n es) = false

abbrev pub bracket_built : Bracket → Bool
bracket_built Empty = true
bracket_built (Size' l k) = expr_built (view_kind l k)

abbrev pub declrs_built : Declrs → Bool
declrs_built no_declrs = true
declrs_built (and_declr ds x) = declrs_built ds && declr_built x

abbrev pub option_built : Option Expr → Bool
option_built None = true
option_built (Some e) = expr_built e

abbrev mutual
  -- of a statement
  pub stmt_built : Stmt → Bool
  stmt_built (tree.block l ss) = stmts_built ss
  stmt_built (tree.simple l e) = expr_built e
  stmt_built (tree.declares l h ds) = is_some h.base && declrs_built ds
  stmt_built (tree.print l es) = exprs_built es
  stmt_built (tree.if_then l e s) = expr_built e && stmt_built s
  stmt_built (tree.if_else l e s r) = expr_built e && (stmt_built s && stmt_built r)
  stmt_built (tree.while_do l e s) = expr_built e && stmt_built s
  stmt_built (tree.until_do l e s) = expr_built e && stmt_built s
  stmt_built (tree.do_while l s e) = expr_built e && stmt_built s
  stmt_built (tree.do_until l s e) = expr_built e && stmt_built s
  stmt_built (tree.for_do l a c e s) = stmt_built a && (stmt_built c && (option_built e && stmt_built s))
  stmt_built (tree.for_each l h n q e s) = false
  stmt_built (tree.repeat l e s) = expr_built e && stmt_built s
  stmt_built (tree.return l e) = option_built e
  stmt_built _ = true

  pub stmts_built : Stmts → Bool
  stmts_built no_stmts = true
  stmts_built (and_stmt ss s) = stmts_built ss && stmt_built s

abbrev pub fun_built : Fun → Bool
fun_built (fun l s result n ps ss) = stmts_built ss
fun_built (constructor l ps ss) = false

abbrev pub member_built : Member → Bool
member_built (fun_member f) = fun_built f
member_built (stmt_member s) = stmt_built s

abbrev pub members_built : Members → Bool
members_built no_members = true
members_built (and_member ms m) = members_built ms && member_built m

abbrev pub item_built : Item → Bool
item_built (class_item (tree.class l is_public n parent ms)) = members_built ms
item_built (fun_item f) = fun_built f
item_built (stmt_item s) = stmt_built s

-- and of a file
abbrev pub is_built : File → Bool
is_built no_items = true
is_built (and_item xs x) = is_built xs && item_built x
