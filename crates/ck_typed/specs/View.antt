-- The program's trees, without where they lie in memory.
use Rattle.std.specs.Prelude.{List, [], ◌∷◌, map}
use Rattle.ck_typed.specs.declared.expr.TypedExpr as raw
use Rattle.ck_typed.specs.declared.stmt.TypedStmt as stmt
use Rattle.ck_typed.specs.declared.program.TypedFun.{TypedFun}
use Rattle.ck_typed.specs.declared.program.ProgramParts.{ProgramParts}
use Rattle.ck_typed.specs.Tree as t
use Rattle.ck_typed.specs.Tree.{Expr, Exprs, Stmt, Stmts, Fun, Program, no_exprs, more_exprs, no_stmts, more_stmts, Simple, Block, Print, If, Loop, LoopLast, For, ForEver, Repeat, ForEach, Break, Continue, Return}

abbrev mutual
  pub view_expr : raw.TypedExpr → Expr
  view_expr (raw.Leaf leaf place) = t.Leaf leaf place
  view_expr (raw.Text value place) = t.Text value place
  view_expr (raw.Unary' operation p operand place) = t.Unary operation (view_expr operand) place
  view_expr (raw.Binary' operation p left p1 right place) =
      t.Binary operation (view_expr left) (view_expr right) place
  view_expr (raw.Variadic' operation shape operands place) =
      t.Variadic operation (view_exprs operands) place
  view_expr (raw.And' p left p1 right place) = t.And (view_expr left) (view_expr right) place
  view_expr (raw.Or' p left p1 right place) = t.Or (view_expr left) (view_expr right) place
  view_expr (raw.Choice' p test p1 then p2 otherwise place) =
      t.Choice (view_expr test) (view_expr then) (view_expr otherwise) place
  view_expr (raw.Assign' p value spot shape address place) =
      t.Assign (view_expr value) spot (view_exprs address) place
  view_expr (raw.AssignDeclared' p value p1 declaration spot shape address place) =
      t.AssignDeclared (view_expr value) (view_expr declaration) spot (view_exprs address) place
  view_expr (raw.Update' operator p value spot shape address place) =
      t.Update operator (view_expr value) spot (view_exprs address) place
  view_expr (raw.Prefix' direction spot shape address place) =
      t.Prefix direction spot (view_exprs address) place
  view_expr (raw.Postfix' direction spot shape address place) =
      t.Postfix direction spot (view_exprs address) place
  view_expr (raw.New class place) = t.New class place
  view_expr (raw.NewObjects' elem p size constructor place) =
      t.NewObjects elem (view_expr size) constructor place
  view_expr (raw.Construct' p object fun shape arguments place) =
      t.Construct (view_expr object) fun (view_exprs arguments) place
  view_expr (raw.CallOf' p object fun shape arguments place) =
      t.CallOf (view_expr object) fun (view_exprs arguments) place
  view_expr (raw.SporkOf' p object fun shape arguments place) =
      t.SporkOf (view_expr object) fun (view_exprs arguments) place

  pub view_exprs : {m : _} → raw.Row_of-TypedExpr m → Exprs
  view_exprs raw.end_of-TypedExpr = no_exprs
  view_exprs (raw.more_of-TypedExpr e rest) = more_exprs (view_expr e) (view_exprs rest)

-- a list of expressions
abbrev pub exprs_of : List raw.TypedExpr → Exprs
exprs_of [] = no_exprs
exprs_of (e ∷ es) = more_exprs (view_expr e) (exprs_of es)

abbrev mutual
  pub view_stmt : stmt.TypedStmt → Stmt
  view_stmt (stmt.Expr value place) = Simple (view_expr value) place
  view_stmt (stmt.Block' shape statements) = Block (view_stmts statements)
  view_stmt (stmt.Print items kinds place) = Print (exprs_of items) kinds place
  view_stmt (stmt.If' test p then p1 otherwise place) =
      If (view_expr test) (view_stmt then) (view_stmt otherwise) place
  view_stmt (stmt.Loop' until test p body place) =
      Loop until (view_expr test) (view_stmt body) place
  view_stmt (stmt.LoopLast' until p body test place) =
      LoopLast until (view_stmt body) (view_expr test) place
  view_stmt (stmt.For' p start test p1 step p2 body place) =
      For (view_stmt start) (view_expr test) (view_stmt step) (view_stmt body) place
  view_stmt (stmt.ForEver' p start p1 step p2 body place) =
      ForEver (view_stmt start) (view_stmt step) (view_stmt body) place
  view_stmt (stmt.Repeat' count p body place) = Repeat (view_expr count) (view_stmt body) place
  view_stmt (stmt.ForEach' array local widens p body place) =
      ForEach (view_expr array) local widens (view_stmt body) place
  view_stmt (stmt.Break place) = Break place
  view_stmt (stmt.Continue place) = Continue place
  view_stmt (stmt.Return value place) = Return (view_expr value) place

  pub view_stmts : {m : _} → stmt.Row_of-TypedStmt m → Stmts
  view_stmts stmt.end_of-TypedStmt = no_stmts
  view_stmts (stmt.more_of-TypedStmt s rest) = more_stmts (view_stmt s) (view_stmts rest)

-- a list of statements
abbrev pub stmts_of : List stmt.TypedStmt → Stmts
stmts_of [] = no_stmts
stmts_of (s ∷ ss) = more_stmts (view_stmt s) (stmts_of ss)

abbrev pub view_fun : TypedFun → Fun
view_fun f =
    record {
      params = f.params;
      locals = f.locals;
      result = f.result;
      body = view_stmt f.body;
      place = f.place;
    }

abbrev pub view_program : ProgramParts → Program
view_program p =
    record {
      files = p.files;
      classes = p.classes;
      funs = map view_fun p.funs;
      statics = p.statics;
      mains = p.mains;
    }
