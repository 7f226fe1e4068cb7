-- The scheme: the code of each form. The code of a tree stands from a place p on; the place after
-- it is computed beside it, so that a jump says where it goes. The classes and the strings are
-- those of the program.
use Rattle.std.specs.Prelude.{◌≡◌, ℕ, Bool, true, false, suc, ◌+◌, pos, List, [], ◌∷◌, ◌++◌, Option, Some, None, slice_get}
use Rattle.ck_values.specs.declared.kind.Elem.TheVariants as elem
use Rattle.ck_values.specs.declared.kind.Kind.{Kind}
use Rattle.ck_values.specs.declared.kind.Kind.TheVariants.{One}
use Rattle.ck_values.specs.declared.operator.Op1.TheVariants.{NotInt, BoolInt}
use Rattle.ck_values.specs.declared.operator.Op2.TheVariants.{SubIntInt, GtIntInt}
use Rattle.ck_values.specs.declared.trap.Place.{Place}
use Rattle.ck_store.specs.Objects.{bodies_of}
use Rattle.ck_typed.specs.declared.class.Class.{Class}
use Rattle.ck_typed.specs.Tree.{Expr, Exprs, no_exprs, more_exprs, Leaf, Text as TextLiteral, Unary, Binary, Variadic, And, Or, Choice, Assign, AssignDeclared, Update, Prefix, Postfix, New as Making, NewObjects, Construct, CallOf, SporkOf, Stmt, Stmts, no_stmts, more_stmts, Simple, Block, Print as Printing, If, Loop, LoopLast, For, ForEver, Repeat, ForEach, Break, Continue, Return as Returning, Fun as TypedFun, Program}
use Rattle.ck_code.specs.declared.instr.Instr.{Instr}
use Rattle.ck_code.specs.declared.instr.Instr.TheVariants.{Int, Float, Dur, Time, Text, Null, NoShred, Dup, Drop, Op1, Op2, Jump, JumpZero, Turn, Call, Return, New, Ugen, Row, Each, Fill, Spork, Print}
use Rattle.ck_code.specs.declared.code.Step.{Step}
use Rattle.ck_code.specs.declared.code.Fun.{Fun}
use Rattle.ck_code.specs.declared.code.CodeParts.{CodeParts}
use Rattle.ck_meaning.specs.Meaning.{step_of, undone_by}
use Rattle.ck_scheme.specs.Tails.{leaf_code, leaf_end, unary_code, unary_end, binary_code, binary_end, variadic_code, variadic_end}
pub use Rattle.ck_scheme.specs.Tails.{at, read_code, set_code, update_code, spot_end}
use Rattle.ck_scheme.specs.Texts.{number_of, texts_of}

-- the calls of the statements in the braces of a new object's classes, which is on top
abbrev pub bodies_code : (bodies : List ℕ) → Place → List Step
bodies_code [] place = []
bodies_code (f ∷ bodies) place =
    at Dup place ∷ at (Call f) place ∷ at Drop place ∷ bodies_code bodies place

-- the place after them
abbrev pub bodies_end : ℕ → (bodies : List ℕ) → ℕ
bodies_end p [] = p
bodies_end p (f ∷ bodies) = bodies_end (p + 1 + 1 + 1) bodies

-- how many expressions there are
abbrev pub count_of : Exprs → ℕ
count_of no_exprs = 0
count_of (more_exprs e rest) = suc (count_of rest)

-- what a function returns whose body doesn't return: the default of its result
abbrev pub default_instr : (texts : List (List ℕ)) → Kind → Instr
default_instr texts (One elem.Int) = Int (pos 0)
default_instr texts (One elem.Float) = Float (pos 0)
default_instr texts (One elem.Dur) = Dur (pos 0)
default_instr texts (One elem.Time) = Time (pos 0)
default_instr texts (One elem.Text) = Text (number_of texts [])
default_instr texts (One elem.Shred) = NoShred
default_instr texts _ = Null

module _ (classes : List Class) where
  abbrev mutual
    -- the place after an expression's code
    pub expr_end : ℕ → Expr → ℕ
    expr_end p (Leaf o place) = leaf_end p o
    expr_end p (TextLiteral bytes place) = p + 1
    expr_end p (Unary o a place) = unary_end (expr_end p a) o
    expr_end p (Binary o a b place) = binary_end (expr_end (expr_end p a) b) o
    expr_end p (Variadic o operands place) = variadic_end (args_end p operands) o
    expr_end p (And a b place) = expr_end (expr_end p a + 1) b + 1 + 1 + 1
    expr_end p (Or a b place) = expr_end (expr_end p a + 1 + 1 + 1) b + 1
    expr_end p (Choice c a b place) = expr_end (expr_end (expr_end p c + 1) a + 1) b
    expr_end p (Assign e spot address place) = spot_end (args_end (expr_end p e) address) spot
    expr_end p (AssignDeclared e declaration spot address place) =
        spot_end (args_end (expr_end (expr_end p e) declaration + 1) address) spot
    expr_end p (Update o e spot address place) = spot_end (args_end (expr_end p e) address) spot
    expr_end p (Prefix direction spot address place) = spot_end (args_end (p + 1) address) spot
    expr_end p (Postfix direction spot address place) =
        spot_end (args_end (p + 1) address) spot + 1 + 1
    expr_end p (Making c place) = bodies_end (p + 1) (bodies_of classes c)
    expr_end p (NewObjects (elem.Class c) n constructor place) =
        bodies_end (expr_end p n + 1 + 1 + 1 + 1 + 1) (bodies_of classes c) + 1 + 1
    expr_end p (NewObjects (elem.Unit kind) n constructor place) = expr_end p n + 1 + 1 + 1 + 1 + 1 + 1 + 1
    expr_end p (Construct o f arguments place) = expr_end p o
    expr_end p (CallOf o f arguments place) = args_end (expr_end p o + 1) arguments + 1
    expr_end p (SporkOf o f arguments place) = args_end (expr_end p o + 1) arguments + 1
    expr_end p _ = p

    pub args_end : ℕ → Exprs → ℕ
    args_end p no_exprs = p
    args_end p (more_exprs e rest) = args_end (expr_end p e) rest

  -- the place after a loop's test, which is denied where the loop goes on until it holds
  abbrev pub test_end : (until : Bool) → ℕ → Expr → ℕ
  test_end false p c = expr_end p c
  test_end true p c = expr_end p c + 1

  abbrev mutual
    -- the place after a statement's code
    pub stmt_end : ℕ → Stmt → ℕ
    stmt_end p (Simple e place) = expr_end p e + 1
    stmt_end p (Block all) = block_end p all
    stmt_end p (Printing items kinds place) = args_end p items + 1
    stmt_end p (If c a b place) = stmt_end (stmt_end (expr_end p c + 1) a + 1) b
    stmt_end p (Loop until c body place) = stmt_end (test_end until p c + 1 + 1) body + 1
    stmt_end p (LoopLast until body c place) = test_end until (stmt_end (p + 1) body) c + 1 + 1
    stmt_end p (For start c step body place) =
        stmt_end (stmt_end (expr_end (stmt_end p start) c + 1 + 1) body) step + 1
    stmt_end p (ForEver start step body place) =
        stmt_end (stmt_end (stmt_end p start + 1) body) step + 1
    stmt_end p (Repeat count body place) =
        stmt_end (expr_end p count + 1 + 1 + 1 + 1 + 1) body + 1 + 1 + 1 + 1
    stmt_end p (ForEach array local widens body place) = p
    stmt_end p (Break place) = p + 1
    stmt_end p (Continue place) = p + 1
    stmt_end p (Returning e place) = expr_end p e + 1

    pub block_end : ℕ → Stmts → ℕ
    block_end p no_stmts = p
    block_end p (more_stmts t rest) = block_end (stmt_end p t) rest

  module _ (texts : List (List ℕ)) where
    abbrev mutual
      -- an expression's code, which leaves its value on the operands
      pub expr_code : ℕ → Expr → List Step
      expr_code p (Leaf o place) = leaf_code o place
      expr_code p (TextLiteral bytes place) = at (Text (number_of texts bytes)) place ∷ []
      expr_code p (Unary o a place) = expr_code p a ++ unary_code o place
      expr_code p (Binary o a b place) =
          expr_code p a ++ (expr_code (expr_end p a) b ++ binary_code o place)
      expr_code p (Variadic o operands place) =
          args_code p operands ++ variadic_code o (count_of operands) place
      expr_code p (And a b place) =
          let first = expr_end p a + 1 in
          let end = expr_end first b + 1 + 1 + 1 in
          expr_code p a ++ (at (JumpZero (expr_end first b + 1 + 1)) place
          ∷ (expr_code first b
          ++ (at (Op1 BoolInt) place ∷ at (Jump end) place ∷ at (Int (pos 0)) place ∷ [])))
      expr_code p (Or a b place) =
          let second = expr_end p a + 1 + 1 + 1 in
          expr_code p a
          ++ (at (JumpZero second) place ∷ at (Int (pos 1)) place
          ∷ at (Jump (expr_end second b + 1)) place
          ∷ (expr_code second b ++ at (Op1 BoolInt) place ∷ []))
      expr_code p (Choice c a b place) =
          let first = expr_end p c + 1 in
          let second = expr_end first a + 1 in
          expr_code p c ++ (at (JumpZero second) place
          ∷ (expr_code first a ++ (at (Jump (expr_end second b)) place ∷ expr_code second b)))
      expr_code p (Assign e spot address place) =
          expr_code p e ++ (args_code (expr_end p e) address ++ set_code spot place)
      expr_code p (AssignDeclared e declaration spot address place) =
          let made = expr_end (expr_end p e) declaration in
          expr_code p e ++ (expr_code (expr_end p e) declaration
          ++ (at Drop place ∷ (args_code (made + 1) address ++ set_code spot place)))
      expr_code p (Update o e spot address place) =
          expr_code p e ++ (args_code (expr_end p e) address ++ update_code spot o place)
      expr_code p (Prefix direction spot address place) =
          at (Int (pos 1)) place
          ∷ (args_code (p + 1) address ++ update_code spot (step_of direction) place)
      expr_code p (Postfix direction spot address place) =
          at (Int (pos 1)) place
          ∷ (args_code (p + 1) address ++ (update_code spot (step_of direction) place
          ++ at (Int (pos 1)) place ∷ at (Op2 (undone_by direction)) place ∷ []))
      expr_code p (Making c place) = at (New c) place ∷ bodies_code (bodies_of classes c) place
      expr_code p (NewObjects (elem.Class c) n constructor place) =
          let round = expr_end p n + 1 + 1 in
          let made = bodies_end (round + 1 + 1 + 1) (bodies_of classes c) in
          expr_code p n ++ (at (Row (elem.Class c)) place ∷ at (Int (pos 0)) place
          ∷ at (Each (made + 1 + 1)) place ∷ at Turn place ∷ at (New c) place
          ∷ (bodies_code (bodies_of classes c) place
          ++ at Fill place ∷ at (Jump round) place ∷ []))
      expr_code p (NewObjects (elem.Unit kind) n constructor place) =
          let round = expr_end p n + 1 + 1 in
          expr_code p n ++ (at (Row (elem.Unit kind)) place ∷ at (Int (pos 0)) place
          ∷ at (Each (round + 1 + 1 + 1 + 1 + 1)) place ∷ at Turn place ∷ at (Ugen kind) place
          ∷ at Fill place ∷ at (Jump round) place ∷ [])
      -- no constructor is called yet: a program that has one isn't run
      expr_code p (Construct o f arguments place) = expr_code p o
      expr_code p (CallOf o f arguments place) =
          expr_code p o ++ (at Drop place
          ∷ (args_code (expr_end p o + 1) arguments ++ at (Call f) place ∷ []))
      expr_code p (SporkOf o f arguments place) =
          expr_code p o ++ (at Drop place
          ∷ (args_code (expr_end p o + 1) arguments ++ at (Spork f) place ∷ []))
      expr_code p _ = []

      pub args_code : ℕ → Exprs → List Step
      args_code p no_exprs = []
      args_code p (more_exprs e rest) = expr_code p e ++ args_code (expr_end p e) rest

    -- the code of a loop's test
    abbrev pub test_code : (until : Bool) → ℕ → Expr → Place → List Step
    test_code false p c place = expr_code p c
    test_code true p c place = expr_code p c ++ at (Op1 NotInt) place ∷ []

    abbrev mutual
      -- a statement's code, where a break goes to the place out and a continue to the place again.
      -- In a loop a continue goes to what comes after the body: to the test of a `do`, to the step
      -- of a `for`, to the counting of a `repeat`
      pub stmt_code : (out again p : ℕ) → Stmt → List Step
      stmt_code out again p (Simple e place) = expr_code p e ++ at Drop place ∷ []
      stmt_code out again p (Block all) = block_code out again p all
      stmt_code out again p (Printing items kinds place) =
          args_code p items ++ at (Print kinds) place ∷ []
      stmt_code out again p (If c a b place) =
          let first = expr_end p c + 1 in
          let second = stmt_end first a + 1 in
          expr_code p c
          ++ (at (JumpZero second) place
          ∷ (stmt_code out again first a
          ++ (at (Jump (stmt_end second b)) place ∷ stmt_code out again second b)))
      stmt_code out again p (Loop until c body place) =
          let first = test_end until p c + 1 + 1 in
          let end = stmt_end first body + 1 in
          test_code until p c place
          ++ (at (JumpZero end) place ∷ at Turn place
          ∷ (stmt_code end p first body ++ at (Jump p) place ∷ []))
      stmt_code out again p (LoopLast until body c place) =
          let test = stmt_end (p + 1) body in
          let end = test_end until test c + 1 + 1 in
          at Turn place ∷ (stmt_code end test (p + 1) body
          ++ (test_code until test c place ++ (at (JumpZero end) place ∷ at (Jump p) place ∷ [])))
      stmt_code out again p (For start c step body place) =
          let test = stmt_end p start in
          let first = expr_end test c + 1 + 1 in
          let next = stmt_end first body in
          let end = stmt_end next step + 1 in
          stmt_code out again p start
          ++ (expr_code test c ++ (at (JumpZero end) place ∷ at Turn place
          ∷ (stmt_code end next first body
          ++ (stmt_code end test next step ++ at (Jump test) place ∷ []))))
      stmt_code out again p (ForEver start step body place) =
          let round = stmt_end p start in
          let next = stmt_end (round + 1) body in
          let end = stmt_end next step + 1 in
          stmt_code out again p start
          ++ (at Turn place ∷ (stmt_code end next (round + 1) body
          ++ (stmt_code end round next step ++ at (Jump round) place ∷ [])))
      stmt_code out again p (Repeat count body place) =
          let round = expr_end p count in
          let first = round + 1 + 1 + 1 + 1 + 1 in
          let next = stmt_end first body in
          let end = next + 1 + 1 + 1 in
          expr_code p count ++ (at Dup place ∷ at (Int (pos 0)) place ∷ at (Op2 GtIntInt) place
          ∷ at (JumpZero end) place ∷ at Turn place
          ∷ (stmt_code end next first body ++ (at (Int (pos 1)) place ∷ at (Op2 SubIntInt) place
          ∷ at (Jump round) place ∷ at Drop place ∷ [])))
      -- nor is a loop over the items of an array run yet
      stmt_code out again p (ForEach array local widens body place) = []
      stmt_code out again p (Break place) = at (Jump out) place ∷ []
      stmt_code out again p (Continue place) = at (Jump again) place ∷ []
      stmt_code out again p (Returning e place) = expr_code p e ++ at Return place ∷ []

      pub block_code : (out again p : ℕ) → Stmts → List Step
      block_code out again p no_stmts = []
      block_code out again p (more_stmts t rest) =
          stmt_code out again p t ++ block_code out again (stmt_end p t) rest

    -- a function's code: its body's, and then its default is returned
    abbrev pub body_code : Stmt → (result : Kind) → Place → List Step
    body_code body result place =
        stmt_code 0 0 0 body ++ (at (default_instr texts result) place ∷ at Return place ∷ [])

-- a function's code is the scheme's
pub record IsCodeOf (classes : List Class) (texts : List (List ℕ)) (fn : TypedFun) (code : Fun)
    : Type 0 where
  pub params : code.params ≡ fn.params
  pub locals : code.locals ≡ fn.locals
  pub steps : code.code ≡ body_code classes texts fn.body fn.result fn.place

abbrev pub SameFun : List Class → (texts : List (List ℕ)) → Option TypedFun → Option Fun → Type 0
SameFun classes texts None None = Unit {0}
SameFun classes texts (Some fn) (Some code) = IsCodeOf classes texts fn code
SameFun classes texts None (Some code) = ⊥
SameFun classes texts (Some fn) None = ⊥

-- the code is the program's, function by function, with its strings and its class tables
pub record IsScheme (program : Program) (code : CodeParts) : Type 0 where
  pub funs : (f : ℕ) →
      SameFun program.classes (texts_of program) (slice_get program.funs f) (slice_get code.funs f)
  pub texts : code.texts ≡ texts_of program
  pub classes : code.classes ≡ program.classes
  pub statics : code.statics ≡ program.statics
  pub mains : code.mains ≡ program.mains
