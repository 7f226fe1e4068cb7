-- The raw trees without where they lie in memory. In a list the last item stands outermost.
use Rattle.std.specs.Prelude.{ℕ, ℤ, List, Bool, Option}
use Rattle.ck_syntax.specs.declared.declaration.Base.{Base}
use Rattle.ck_syntax.specs.declared.declaration.DeclHead.{DeclHead}
use Rattle.ck_syntax.specs.declared.declaration.TypeName.{TypeName}
use Rattle.ck_syntax.specs.declared.file.Param.{Param}
use Rattle.ck_syntax.specs.declared.operator.BinaryOp.{BinaryOp}
use Rattle.ck_syntax.specs.declared.operator.ChuckOp.{ChuckOp}
use Rattle.ck_syntax.specs.declared.operator.Constant.{Constant}
use Rattle.ck_syntax.specs.declared.operator.PostfixOp.{PostfixOp}
use Rattle.ck_syntax.specs.declared.operator.PrefixOp.{PrefixOp}
use Rattle.ck_syntax.specs.declared.operator.TimeUnit.{TimeUnit}

-- the bytes of a name
abbrev pub Name : Type 0
Name = List ℕ

mutual
  -- the first number of each is the line of its first token
  pub data Expr : Type 0 where
    int : ℕ → ℤ → Expr
    float : ℕ → ℤ → Expr
    text : ℕ → List ℕ → Expr
    name : ℕ → Name → Expr
    constant : ℕ → Constant → Expr
    time_unit : ℕ → TimeUnit → Expr
    paren : ℕ → Expr → Expr
    array : ℕ → Exprs → Expr
    call : ℕ → Expr → Exprs → Expr
    index : ℕ → Expr → Expr → Expr
    member : ℕ → Expr → Name → Expr
    postfix : ℕ → Expr → PostfixOp → Expr
    dur : ℕ → Expr → Expr → Expr
    prefix : ℕ → PrefixOp → Expr → Expr
    new : ℕ → Base → Exprs → Expr
    -- with arguments
    new_with : ℕ → Base → Exprs → Expr
    spork : ℕ → Expr → Expr
    cast : ℕ → Expr → TypeName → Expr
    binary : ℕ → Expr → BinaryOp → Expr → Expr
    choice : ℕ → Expr → Expr → Expr → Expr
    declare : ℕ → DeclHead → Declr → Expr
    chuck : ℕ → Expr → ChuckOp → Expr → Expr

  pub data Exprs : Type 0 where
    no_exprs : Exprs
    and_expr : Exprs → Expr → Exprs

  -- the pairs of brackets of a declarator, with a size or none
  pub data Brackets : Type 0 where
    no_brackets : Brackets
    and_empty : Brackets → Brackets
    and_size : Brackets → Expr → Brackets

  pub data Declr : Type 0 where
    declr : Name → Brackets → Declr
    -- with arguments
    declr_with : Name → Exprs → Declr

pub data Declrs : Type 0 where
  no_declrs : Declrs
  and_declr : Declrs → Declr → Declrs

mutual
  pub data Stmt : Type 0 where
    block : ℕ → Stmts → Stmt
    empty : ℕ → Stmt
    simple : ℕ → Expr → Stmt
    declares : ℕ → DeclHead → Declrs → Stmt
    print : ℕ → Exprs → Stmt
    if_then : ℕ → Expr → Stmt → Stmt
    if_else : ℕ → Expr → Stmt → Stmt → Stmt
    while_do : ℕ → Expr → Stmt → Stmt
    until_do : ℕ → Expr → Stmt → Stmt
    do_while : ℕ → Stmt → Expr → Stmt
    do_until : ℕ → Stmt → Expr → Stmt
    for_do : ℕ → Stmt → Stmt → Option Expr → Stmt → Stmt
    -- the items of an array: head and name of the item, with so many pairs of brackets
    for_each : ℕ → DeclHead → Name → (pairs : ℕ) → Expr → Stmt → Stmt
    repeat : ℕ → Expr → Stmt → Stmt
    break : ℕ → Stmt
    continue : ℕ → Stmt
    return : ℕ → Option Expr → Stmt

  pub data Stmts : Type 0 where
    no_stmts : Stmts
    and_stmt : Stmts → Stmt → Stmts

pub data Params : Type 0 where
  no_params : Params
  and_param : Params → Param → Params

pub data Fun : Type 0 where
  -- line, whether it is static, result, name, parameters, body
  fun : ℕ → Bool → TypeName → Name → Params → Stmts → Fun
  -- line, parameters, body
  constructor : ℕ → Params → Stmts → Fun

pub data Member : Type 0 where
  fun_member : Fun → Member
  stmt_member : Stmt → Member

pub data Members : Type 0 where
  no_members : Members
  and_member : Members → Member → Members

-- line, whether it is public, name, parent, members
pub data Class : Type 0 where
  class : ℕ → Bool → Name → Option Name → Members → Class

pub data Item : Type 0 where
  class_item : Class → Item
  fun_item : Fun → Item
  stmt_item : Stmt → Item

pub data File : Type 0 where
  no_items : File
  and_item : File → Item → File

abbrev pub declr_name : Declr → Name
declr_name (declr n bs) = n
declr_name (declr_with n es) = n

-- the line of an expression's first token
abbrev pub expr_line : Expr → ℕ
expr_line (int l v) = l
expr_line (float l v) = l
expr_line (text l v) = l
expr_line (name l n) = l
expr_line (constant l c) = l
expr_line (time_unit l u) = l
expr_line (paren l e) = l
expr_line (array l es) = l
expr_line (call l e es) = l
expr_line (index l e i) = l
expr_line (member l e n) = l
expr_line (postfix l e o) = l
expr_line (dur l e u) = l
expr_line (prefix l o e) = l
expr_line (new l b es) = l
expr_line (new_with l b es) = l
expr_line (spork l e) = l
expr_line (cast l e t) = l
expr_line (binary l e o f) = l
expr_line (choice l c e f) = l
expr_line (declare l h x) = l
expr_line (chuck l e o f) = l
