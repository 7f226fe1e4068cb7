-- The typed trees without where they lie in memory.
use Rattle.std.specs.Prelude.{ℕ, Bool, List, Option}
use Rattle.ck_values.specs.declared.kind.Elem.{Elem}
use Rattle.ck_values.specs.declared.kind.Kind.{Kind}
use Rattle.ck_values.specs.declared.operator.Op2.{Op2}
use Rattle.ck_values.specs.declared.trap.Place.{Place}
use Rattle.ck_typed.specs.declared.class.Class.{Class}
use Rattle.ck_typed.specs.declared.expr.Direction.{Direction}
use Rattle.ck_typed.specs.declared.expr.Spot.{Spot}
use Rattle.ck_typed.specs.declared.operation.Leaf.{Leaf as OfNone}
use Rattle.ck_typed.specs.declared.operation.Unary.{Unary as OfOne}
use Rattle.ck_typed.specs.declared.operation.Binary.{Binary as OfTwo}
use Rattle.ck_typed.specs.declared.operation.Variadic.{Variadic as OfMany}

mutual
  -- an expression; the place is that of its first token. Most are an operation on the values of
  -- operands, which are evaluated from the left; the others evaluate some operand not always, or
  -- do something between two
  pub data Expr : Type 0 where
    Leaf : OfNone → Place → Expr
    Text : List ℕ → Place → Expr
    Unary : OfOne → Expr → Place → Expr
    Binary : OfTwo → (left right : Expr) → Place → Expr
    Variadic : OfMany → Exprs → Place → Expr
    And : (left right : Expr) → Place → Expr
    Or : (left right : Expr) → Place → Expr
    Choice : (test then otherwise : Expr) → Place → Expr
    Assign : (value : Expr) → Spot → (address : Exprs) → Place → Expr
    AssignDeclared : (value declaration : Expr) → Spot → (address : Exprs) → Place → Expr
    Update : Op2 → (value : Expr) → Spot → (address : Exprs) → Place → Expr
    Prefix : Direction → Spot → (address : Exprs) → Place → Expr
    Postfix : Direction → Spot → (address : Exprs) → Place → Expr
    New : (class : ℕ) → Place → Expr
    NewObjects : Elem → (size : Expr) → (constructor : Option ℕ) → Place → Expr
    Construct : (object : Expr) → (fun : ℕ) → (arguments : Exprs) → Place → Expr
    CallOf : (object : Expr) → (fun : ℕ) → (arguments : Exprs) → Place → Expr
    SporkOf : (object : Expr) → (fun : ℕ) → (arguments : Exprs) → Place → Expr

  pub data Exprs : Type 0 where
    no_exprs : Exprs
    more_exprs : Expr → Exprs → Exprs

mutual
  -- a statement; the place is that of its first token. A loop goes on while its test holds, or
  -- until it does; the test comes before the body, or last (`do`)
  pub data Stmt : Type 0 where
    Simple : Expr → Place → Stmt
    Block : Stmts → Stmt
    Print : Exprs → List Kind → Place → Stmt
    If : (test : Expr) → (then otherwise : Stmt) → Place → Stmt
    Loop : (until : Bool) → (test : Expr) → (body : Stmt) → Place → Stmt
    LoopLast : (until : Bool) → (body : Stmt) → (test : Expr) → Place → Stmt
    For : (start : Stmt) → (test : Expr) → (step body : Stmt) → Place → Stmt
    ForEver : (start step body : Stmt) → Place → Stmt
    Repeat : (count : Expr) → (body : Stmt) → Place → Stmt
    ForEach : (array : Expr) → (local : ℕ) → (widens : Bool) → (body : Stmt) → Place → Stmt
    Break : Place → Stmt
    Continue : Place → Stmt
    Return : Expr → Place → Stmt

  pub data Stmts : Type 0 where
    no_stmts : Stmts
    more_stmts : Stmt → Stmts → Stmts

-- a function: how many of its locals are parameters, the kinds of its locals and of its result
pub record Fun : Type 0 where
  pub params : ℕ
  pub locals : List Kind
  pub result : Kind
  pub body : Stmt
  pub place : Place

-- all files of a command: the kinds of the statics, and the function that each file's code is
pub record Program : Type 0 where
  pub files : ℕ
  pub classes : List Class
  pub funs : List Fun
  pub statics : List Kind
  pub mains : List ℕ
