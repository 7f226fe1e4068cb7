-- The program's trees, without where they lie in memory.
use Rattle.std.specs.Prelude.{ℕ, List, [], ◌∷◌, Option, Some, None}
use Rattle.std.specs.Global.{Box}
use Rattle.ck_syntax.specs.Tree as t
use Rattle.ck_syntax.specs.declared.expr.Expr.{Expr}
use Rattle.ck_syntax.specs.declared.expr.ExprKind as raw
use Rattle.ck_syntax.specs.declared.expr.Bracket as bracket
use Rattle.ck_syntax.specs.declared.expr.Declarator as declarator
use Rattle.ck_syntax.specs.declared.expr.DeclaratorTail as tail
use Rattle.ck_syntax.specs.declared.stmt.Stmt.{Stmt}
use Rattle.ck_syntax.specs.declared.stmt.StmtKind as stmt
use Rattle.ck_syntax.specs.declared.file.FunDef as fun_def
use Rattle.ck_syntax.specs.declared.file.FunHead.{FunHead}
use Rattle.ck_syntax.specs.declared.file.FunHead.TheVariants as head
use Rattle.ck_syntax.specs.declared.file.ClassDef as class_def
use Rattle.ck_syntax.specs.declared.file.Member.TheVariants as member
use Rattle.ck_syntax.specs.declared.file.Item.TheVariants as item
use Rattle.ck_syntax.specs.declared.file.File as file
use Rattle.ck_syntax.specs.declared.file.Member.{Member}
use Rattle.ck_syntax.specs.declared.file.Item.{Item}
use Rattle.ck_syntax.specs.declared.file.Param.{Param}

abbrev mutual
  -- an expression of this line and kind
  pub view_kind : ℕ → raw.ExprKind → t.Expr
  view_kind l (raw.Int v) = t.int l v
  view_kind l (raw.Float v) = t.float l v
  view_kind l (raw.Text v) = t.text l v
  view_kind l (raw.Name n) = t.name l n
  view_kind l (raw.Constant c) = t.constant l c
  view_kind l (raw.Unit u) = t.time_unit l u
  view_kind l (raw.Paren' p el e) = t.paren l (view_kind el e)
  view_kind l (raw.Array' shape es) = t.array l (view_exprs t.no_exprs es)
  view_kind l (raw.Call' p el e shape es) = t.call l (view_kind el e) (view_exprs t.no_exprs es)
  view_kind l (raw.Index' p el e q il i) = t.index l (view_kind el e) (view_kind il i)
  view_kind l (raw.Member' p el e n) = t.member l (view_kind el e) n
  view_kind l (raw.Postfix' p el e o) = t.postfix l (view_kind el e) o
  view_kind l (raw.Dur' p el e q ul u) = t.dur l (view_kind el e) (view_kind ul u)
  view_kind l (raw.Prefix' o p el e) = t.prefix l o (view_kind el e)
  view_kind l (raw.New' b shape es) = t.new l b (view_exprs t.no_exprs es)
  view_kind l (raw.NewWith' b shape es) = t.new_with l b (view_exprs t.no_exprs es)
  view_kind l (raw.Spork' p el e) = t.spork l (view_kind el e)
  view_kind l (raw.Cast' p el e k) = t.cast l (view_kind el e) k
  view_kind l (raw.Binary' p el e o q fl f) = t.binary l (view_kind el e) o (view_kind fl f)
  view_kind l (raw.Cond' p cl c q el e r fl f) =
      t.choice l (view_kind cl c) (view_kind el e) (view_kind fl f)
  view_kind l (raw.Declare' h p n x) = t.declare l h (view_tail n x)
  view_kind l (raw.Chuck' p el e o q fl f) = t.chuck l (view_kind el e) o (view_kind fl f)

  -- a declarator of this name and tail
  pub view_tail : t.Name → tail.DeclaratorTail → t.Declr
  view_tail n (tail.Brackets' shape bs) = t.declr n (view_brackets t.no_brackets bs)
  view_tail n (tail.Arguments' shape es) = t.declr_with n (view_exprs t.no_exprs es)

  -- these, behind others
  pub view_exprs : t.Exprs → {m : _} → raw.Row_of-Expr m → t.Exprs
  view_exprs before raw.end_of-Expr = before
  view_exprs before (raw.more_of-Expr l k es) = view_exprs (t.and_expr before (view_kind l k)) es

  pub view_brackets : t.Brackets → {m : _} → tail.Row_of-Bracket m → t.Brackets
  view_brackets before tail.end_of-Bracket = before
  view_brackets before (tail.more_of-Bracket b bs) = view_brackets (with_bracket before b) bs

  -- the pairs of brackets, and one more
  pub with_bracket : t.Brackets → bracket.Bracket → t.Brackets
  with_bracket before bracket.Empty = t.and_empty before
  with_bracket before (bracket.Size' l k) = t.and_size before (view_kind l k)

abbrev pub view_expr : Expr → t.Expr
view_expr e = view_kind e.line e.kind

-- a list of expressions, behind others
abbrev pub exprs_of : t.Exprs → List Expr → t.Exprs
exprs_of before [] = before
exprs_of before (e ∷ es) = exprs_of (t.and_expr before (view_expr e)) es

abbrev pub brackets_of : t.Brackets → List bracket.Bracket → t.Brackets
brackets_of before [] = before
brackets_of before (b ∷ bs) = brackets_of (with_bracket before b) bs

abbrev pub view_declr : declarator.Declarator → t.Declr
view_declr x = view_tail x.name x.tail

abbrev pub declrs_of : t.Declrs → List declarator.Declarator → t.Declrs
declrs_of before [] = before
declrs_of before (x ∷ xs) = declrs_of (t.and_declr before (view_declr x)) xs

-- the tree in a box, if there is one
abbrev pub view_option : Option (Box Expr) → Option t.Expr
view_option None = None
view_option (Some e) = Some (view_expr e.value)

abbrev mutual
  -- a statement of this line and kind
  pub view_stmt_kind : ℕ → stmt.StmtKind → t.Stmt
  view_stmt_kind l (stmt.Block' shape ss) = t.block l (view_stmts t.no_stmts ss)
  view_stmt_kind l stmt.Empty = t.empty l
  view_stmt_kind l (stmt.Expr e) = t.simple l (view_expr e)
  view_stmt_kind l (stmt.Declare h xs) = t.declares l h (declrs_of t.no_declrs xs)
  view_stmt_kind l (stmt.Print es) = t.print l (exprs_of t.no_exprs es)
  view_stmt_kind l (stmt.If' e p sl s) = t.if_then l (view_expr e) (view_stmt_kind sl s)
  view_stmt_kind l (stmt.IfElse' e p sl s q rl r) =
      t.if_else l (view_expr e) (view_stmt_kind sl s) (view_stmt_kind rl r)
  view_stmt_kind l (stmt.While' e p sl s) = t.while_do l (view_expr e) (view_stmt_kind sl s)
  view_stmt_kind l (stmt.Until' e p sl s) = t.until_do l (view_expr e) (view_stmt_kind sl s)
  view_stmt_kind l (stmt.DoWhile' p sl s e) = t.do_while l (view_stmt_kind sl s) (view_expr e)
  view_stmt_kind l (stmt.DoUntil' p sl s e) = t.do_until l (view_stmt_kind sl s) (view_expr e)
  view_stmt_kind l (stmt.For' p al a q bl b e r sl s) =
      t.for_do l (view_stmt_kind al a) (view_stmt_kind bl b) (view_option e) (view_stmt_kind sl s)
  view_stmt_kind l (stmt.ForEach' x e p sl s) =
      t.for_each l x.value.head x.value.name x.value.brackets (view_expr e) (view_stmt_kind sl s)
  view_stmt_kind l (stmt.Repeat' e p sl s) = t.repeat l (view_expr e) (view_stmt_kind sl s)
  view_stmt_kind l stmt.Break = t.break l
  view_stmt_kind l stmt.Continue = t.continue l
  view_stmt_kind l (stmt.Return e) = t.return l (view_option e)

  -- these, behind others
  pub view_stmts : t.Stmts → {m : _} → stmt.Row_of-Stmt m → t.Stmts
  view_stmts before stmt.end_of-Stmt = before
  view_stmts before (stmt.more_of-Stmt l k ss) =
      view_stmts (t.and_stmt before (view_stmt_kind l k)) ss

abbrev pub view_stmt : Stmt → t.Stmt
view_stmt s = view_stmt_kind s.line s.kind

-- a list of statements, behind others
abbrev pub stmts_of : t.Stmts → List Stmt → t.Stmts
stmts_of before [] = before
stmts_of before (s ∷ ss) = stmts_of (t.and_stmt before (view_stmt s)) ss

abbrev pub params_of : t.Params → List Param → t.Params
params_of before [] = before
params_of before (p ∷ ps) = params_of (t.and_param before p) ps

-- a function of this line, head, parameters and body
abbrev pub headed : ℕ → FunHead → t.Params → t.Stmts → t.Fun
headed l (head.Named is_static result name) ps ss = t.fun l is_static result name ps ss
headed l head.Construct ps ss = t.constructor l ps ss

abbrev pub view_fun : fun_def.FunDef → t.Fun
view_fun f = headed f.line f.head (params_of t.no_params f.params) (stmts_of t.no_stmts f.body)

abbrev pub view_member : Member → t.Member
view_member (member.Fun f) = t.fun_member (view_fun f.value)
view_member (member.Stmt s) = t.stmt_member (view_stmt s)

abbrev pub members_of : t.Members → List Member → t.Members
members_of before [] = before
members_of before (m ∷ ms) = members_of (t.and_member before (view_member m)) ms

abbrev pub view_class : class_def.ClassDef → t.Class
view_class c = t.class c.line c.is_public c.name c.parent (members_of t.no_members c.members)

abbrev pub view_item : Item → t.Item
view_item (item.Class c) = t.class_item (view_class c)
view_item (item.Fun f) = t.fun_item (view_fun f.value)
view_item (item.Stmt s) = t.stmt_item (view_stmt s)

abbrev pub items_of : t.File → List Item → t.File
items_of before [] = before
items_of before (i ∷ is) = items_of (t.and_item before (view_item i)) is

abbrev pub view_file : file.File → t.File
view_file f = items_of t.no_items f.items
