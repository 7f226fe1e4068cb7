-- How deep each token of a tree stands. Each function puts the depths of its tokens before
-- those that follow.
use Rattle.std.specs.Prelude.{ℕ, zero, suc, List, [], ◌∷◌, Bool, true, false, Option, Some, None}
use Rattle.ck_syntax.specs.Tree.{Name, Expr, int, float, text, name, constant, time_unit, paren}
use Rattle.ck_syntax.specs.Tree.{array, call, index, member, postfix, dur, prefix, new, new_with}
use Rattle.ck_syntax.specs.Tree.{spork, cast}
use Rattle.ck_syntax.specs.Tree.{binary, choice, declare, chuck, Exprs, no_exprs, and_expr}
use Rattle.ck_syntax.specs.Tree.{Brackets, no_brackets, and_empty, and_size, Declr, declr}
use Rattle.ck_syntax.specs.Tree.{declr_with, Declrs}
use Rattle.ck_syntax.specs.Tree.{no_declrs, and_declr, Stmt, block, empty, simple, declares, print}
use Rattle.ck_syntax.specs.Tree.{if_then, if_else, while_do, until_do, do_while, do_until, for_do}
use Rattle.ck_syntax.specs.Tree.{for_each}
use Rattle.ck_syntax.specs.Tree.{repeat, break, continue, return, Stmts, no_stmts, and_stmt, Params}
use Rattle.ck_syntax.specs.Tree.{no_params, and_param, Fun, fun, constructor, Members, no_members}
use Rattle.ck_syntax.specs.Tree.{and_member}
use Rattle.ck_syntax.specs.Tree.{Member, fun_member, stmt_member, Class, class, Item, class_item}
use Rattle.ck_syntax.specs.Tree.{fun_item, stmt_item, File, no_items, and_item}
use Rattle.ck_syntax.specs.declared.declaration.DeclHead.{DeclHead}
use Rattle.ck_syntax.specs.declared.declaration.TypeName.{TypeName}
use Rattle.ck_syntax.specs.declared.file.Param.{Param}

-- a token at this depth, where it is there
abbrev pub one_if : Bool → ℕ → List ℕ → List ℕ
one_if false d ds = ds
one_if true d ds = d ∷ ds

-- n pairs of brackets, in which it is one deeper
abbrev pub pairs_depths : ℕ → ℕ → List ℕ → List ℕ
pairs_depths d zero ds = ds
pairs_depths d (suc n) ds = pairs_depths d n (suc d ∷ suc d ∷ ds)

abbrev pub type_depths : ℕ → TypeName → List ℕ → List ℕ
type_depths d k ds = d ∷ pairs_depths d k.brackets ds

abbrev pub head_depths : ℕ → DeclHead → List ℕ → List ℕ
head_depths d h ds = one_if h.is_static d (d ∷ one_if h.is_reference d ds)

-- The depth behind an expression that begins at depth d, before the whole Expr ends: each
-- operator is one deeper.
abbrev pub behind : ℕ → Expr → ℕ
behind d (int l v) = d
behind d (float l v) = d
behind d (text l v) = d
behind d (name l n) = d
behind d (constant l c) = d
behind d (time_unit l u) = d
behind d (paren l e) = d
behind d (array l es) = d
behind d (call l e es) = suc (behind d e)
behind d (index l e i) = suc (behind d e)
behind d (member l e n) = suc (behind d e)
behind d (postfix l e o) = suc (behind d e)
behind d (dur l e u) = behind (suc (behind d e)) u
behind d (prefix l o e) = behind (suc d) e
behind d (new l b es) = suc d
behind d (new_with l b es) = suc d
behind d (spork l e) = behind (suc d) e
behind d (cast l e k) = suc (behind d e)
behind d (binary l e o g) = behind (suc (behind d e)) g
behind d (choice l c e g) = behind (suc (behind d c)) g
behind d (declare l h x) = d
behind d (chuck l e o g) = behind (suc (behind d e)) g

abbrev mutual
  -- the tokens of an expression that begins at depth d
  pub expr_depths : ℕ → Expr → List ℕ → List ℕ
  expr_depths d (int l v) ds = d ∷ ds
  expr_depths d (float l v) ds = d ∷ ds
  expr_depths d (text l v) ds = d ∷ ds
  expr_depths d (name l n) ds = d ∷ ds
  expr_depths d (constant l c) ds = d ∷ ds
  expr_depths d (time_unit l u) ds = d ∷ ds
  expr_depths d (paren l e) ds = suc d ∷ expr_depths (suc d) e (suc d ∷ ds)
  expr_depths d (array l es) ds = suc d ∷ exprs_depths (suc d) es (suc d ∷ ds)
  expr_depths d (call l e es) ds = expr_depths d e
      (suc (behind d e) ∷ exprs_depths (suc (behind d e)) es (suc (behind d e) ∷ ds))
  expr_depths d (index l e i) ds = expr_depths d e
      (suc (behind d e) ∷ expr_depths (suc (behind d e)) i (suc (behind d e) ∷ ds))
  expr_depths d (member l e n) ds = expr_depths d e (suc (behind d e) ∷ suc (behind d e) ∷ ds)
  expr_depths d (postfix l e o) ds = expr_depths d e (suc (behind d e) ∷ ds)
  expr_depths d (dur l e u) ds =
      expr_depths d e (suc (behind d e) ∷ expr_depths (suc (behind d e)) u ds)
  expr_depths d (prefix l o e) ds = suc d ∷ expr_depths (suc d) e ds
  expr_depths d (new l b es) ds = suc d ∷ suc d ∷ sizes_depths (suc d) es ds
  expr_depths d (new_with l b es) ds =
      suc d ∷ suc d ∷ suc (suc d) ∷ exprs_depths (suc (suc d)) es (suc (suc d) ∷ ds)
  expr_depths d (spork l e) ds = suc d ∷ suc d ∷ expr_depths (suc d) e ds
  expr_depths d (cast l e k) ds =
      expr_depths d e (suc (behind d e) ∷ type_depths (suc (behind d e)) k ds)
  expr_depths d (binary l e o g) ds =
      expr_depths d e (suc (behind d e) ∷ expr_depths (suc (behind d e)) g ds)
  expr_depths d (choice l c e g) ds = expr_depths d c
      (suc (behind d c) ∷ expr_depths (suc (behind d c)) e
      (suc (behind d c) ∷ expr_depths (suc (behind d c)) g ds))
  expr_depths d (declare l h x) ds = head_depths d h (declr_depths d x ds)
  expr_depths d (chuck l e o g) ds =
      expr_depths d e (suc (behind d e) ∷ expr_depths (suc (behind d e)) g ds)

  -- whole expressions with a comma between each two
  pub exprs_depths : ℕ → Exprs → List ℕ → List ℕ
  exprs_depths d no_exprs ds = ds
  exprs_depths d (and_expr es e) ds = before_comma d es (expr_depths d e ds)

  pub before_comma : ℕ → Exprs → List ℕ → List ℕ
  before_comma d no_exprs ds = ds
  before_comma d (and_expr es e) ds = before_comma d es (expr_depths d e (d ∷ ds))

  -- whole expressions in brackets each, in which it is one deeper
  pub sizes_depths : ℕ → Exprs → List ℕ → List ℕ
  sizes_depths d no_exprs ds = ds
  sizes_depths d (and_expr es e) ds = sizes_depths d es (suc d ∷ expr_depths (suc d) e (suc d ∷ ds))

  pub brackets_depths : ℕ → Brackets → List ℕ → List ℕ
  brackets_depths d no_brackets ds = ds
  brackets_depths d (and_empty bs) ds = brackets_depths d bs (suc d ∷ suc d ∷ ds)
  brackets_depths d (and_size bs e) ds =
      brackets_depths d bs (suc d ∷ expr_depths (suc d) e (suc d ∷ ds))

  pub declr_depths : ℕ → Declr → List ℕ → List ℕ
  declr_depths d (declr n bs) ds = d ∷ brackets_depths d bs ds
  declr_depths d (declr_with n es) ds = d ∷ suc d ∷ exprs_depths (suc d) es (suc d ∷ ds)

abbrev mutual
  pub declrs_depths : ℕ → Declrs → List ℕ → List ℕ
  declrs_depths d no_declrs ds = ds
  declrs_depths d (and_declr xs x) ds = declrs_before_comma d xs (declr_depths d x ds)

  pub declrs_before_comma : ℕ → Declrs → List ℕ → List ℕ
  declrs_before_comma d no_declrs ds = ds
  declrs_before_comma d (and_declr xs x) ds = declrs_before_comma d xs (declr_depths d x (d ∷ ds))

-- an expression in parentheses
abbrev pub test_depths : ℕ → Expr → List ℕ → List ℕ
test_depths d e ds = suc d ∷ expr_depths (suc d) e (suc d ∷ ds)

abbrev pub option_depths : ℕ → Option Expr → List ℕ → List ℕ
option_depths d None ds = ds
option_depths d (Some e) ds = expr_depths d e ds

abbrev mutual
  -- the tokens of a statement that begins at depth d: those inside it are one deeper
  pub stmt_depths : ℕ → Stmt → List ℕ → List ℕ
  stmt_depths d (block l ss) ds = d ∷ stmts_depths (suc d) ss (d ∷ ds)
  stmt_depths d (empty l) ds = d ∷ ds
  stmt_depths d (simple l e) ds = expr_depths d e (d ∷ ds)
  stmt_depths d (declares l h xs) ds = head_depths d h (declrs_depths d xs (d ∷ ds))
  stmt_depths d (print l es) ds = d ∷ exprs_depths d es (d ∷ d ∷ ds)
  stmt_depths d (if_then l e s) ds = d ∷ test_depths d e (stmt_depths (suc d) s ds)
  stmt_depths d (if_else l e s r) ds =
      d ∷ test_depths d e (stmt_depths (suc d) s (d ∷ stmt_depths (suc d) r ds))
  stmt_depths d (while_do l e s) ds = d ∷ test_depths d e (stmt_depths (suc d) s ds)
  stmt_depths d (until_do l e s) ds = d ∷ test_depths d e (stmt_depths (suc d) s ds)
  stmt_depths d (do_while l s e) ds = d ∷ stmt_depths (suc d) s (d ∷ test_depths d e (d ∷ ds))
  stmt_depths d (do_until l s e) ds = d ∷ stmt_depths (suc d) s (d ∷ test_depths d e (d ∷ ds))
  stmt_depths d (for_do l x y e s) ds = d ∷ suc d ∷ stmt_depths (suc d) x
      (stmt_depths (suc d) y (option_depths (suc d) e (suc d ∷ stmt_depths (suc d) s ds)))
  stmt_depths d (for_each l h n q e s) ds = d ∷ suc d ∷ head_depths (suc d) h (suc d ∷
      pairs_depths (suc d) q (suc d ∷ expr_depths (suc d) e (suc d ∷ stmt_depths (suc d) s ds)))
  stmt_depths d (repeat l e s) ds = d ∷ test_depths d e (stmt_depths (suc d) s ds)
  stmt_depths d (break l) ds = d ∷ d ∷ ds
  stmt_depths d (continue l) ds = d ∷ d ∷ ds
  stmt_depths d (return l e) ds = d ∷ option_depths d e (d ∷ ds)

  pub stmts_depths : ℕ → Stmts → List ℕ → List ℕ
  stmts_depths d no_stmts ds = ds
  stmts_depths d (and_stmt ss s) ds = stmts_depths d ss (stmt_depths d s ds)

abbrev pub param_depths : ℕ → Param → List ℕ → List ℕ
param_depths d p ds = type_depths d p.kind (d ∷ pairs_depths d p.brackets ds)

abbrev mutual
  pub params_depths : ℕ → Params → List ℕ → List ℕ
  params_depths d no_params ds = ds
  params_depths d (and_param ps p) ds = params_before_comma d ps (param_depths d p ds)

  pub params_before_comma : ℕ → Params → List ℕ → List ℕ
  params_before_comma d no_params ds = ds
  params_before_comma d (and_param ps p) ds = params_before_comma d ps (param_depths d p (d ∷ ds))

-- functions and classes stand at depth 0, and the statements in them at depth 1
abbrev pub fun_depths : Fun → List ℕ → List ℕ
fun_depths (fun l s k n ps ss) ds = 0 ∷ one_if s 0
    (type_depths 0 k (0 ∷ 1 ∷ params_depths 1 ps (1 ∷ 0 ∷ stmts_depths 1 ss (0 ∷ ds))))
fun_depths (constructor l ps ss) ds =
    0 ∷ 0 ∷ 0 ∷ 1 ∷ params_depths 1 ps (1 ∷ 0 ∷ stmts_depths 1 ss (0 ∷ ds))

abbrev pub member_depths : Member → List ℕ → List ℕ
member_depths (fun_member x) ds = fun_depths x ds
member_depths (stmt_member s) ds = stmt_depths 1 s ds

abbrev pub members_depths : Members → List ℕ → List ℕ
members_depths no_members ds = ds
members_depths (and_member xs x) ds = members_depths xs (member_depths x ds)

abbrev pub parent_depths : Option Name → List ℕ → List ℕ
parent_depths None ds = ds
parent_depths (Some n) ds = 0 ∷ 0 ∷ ds

abbrev pub class_depths : Class → List ℕ → List ℕ
class_depths (class l p n parent xs) ds =
    one_if p 0 (0 ∷ 0 ∷ parent_depths parent (0 ∷ members_depths xs (0 ∷ ds)))

abbrev pub item_depths : Item → List ℕ → List ℕ
item_depths (class_item x) ds = class_depths x ds
item_depths (fun_item x) ds = fun_depths x ds
item_depths (stmt_item s) ds = stmt_depths 0 s ds

abbrev pub items_depths : File → List ℕ → List ℕ
items_depths no_items ds = ds
items_depths (and_item xs x) ds = items_depths xs (item_depths x ds)

-- the tokens of a file, with its end
abbrev pub file_depths : File → List ℕ
file_depths x = items_depths x (0 ∷ [])
