-- How many steps a tree makes at most, by its form; its code has no more.
use Rattle.std.proofs.Common.{ℕ, ◌+◌, ◌*◌, ◌≡◌, ◌≤◌, Bool, true, false, List, [], ◌∷◌, length, Option, Some, None, arith, length-append}
use Rattle.ck_base.specs.declared.limits.TheConstants.{MAX_ANCESTORS}
use Rattle.ck_values.specs.declared.kind.Elem.TheVariants as elem
use Rattle.ck_store.specs.Objects.{bodies_of}
use Rattle.ck_typed.specs.declared.class.Class.{Class}
use Rattle.ck_typed.specs.declared.expr.Spot.{Spot}
use Rattle.ck_typed.specs.declared.expr.Spot.TheVariants.{StaticOf}
use Rattle.ck_typed.specs.declared.operation.Leaf.{Leaf as OfNone}
use Rattle.ck_typed.specs.declared.operation.Leaf.TheVariants as leaf
use Rattle.ck_typed.specs.declared.operation.Unary.{Unary as OfOne}
use Rattle.ck_typed.specs.declared.operation.Unary.TheVariants as unary
use Rattle.ck_typed.specs.declared.operation.Binary.{Binary as OfTwo}
use Rattle.ck_typed.specs.declared.operation.Binary.TheVariants as binary
use Rattle.ck_typed.specs.declared.operation.Variadic.{Variadic as OfMany}
use Rattle.ck_typed.specs.declared.operation.Variadic.TheVariants as variadic
use Rattle.ck_typed.specs.Tree.{Expr, Exprs, no_exprs, more_exprs, Leaf, Text, Unary, Binary, Variadic, And, Or}
use Rattle.ck_typed.specs.Tree.{Choice, Assign, AssignDeclared, Update, Prefix, Postfix, New, NewObjects, Construct, CallOf}
use Rattle.ck_typed.specs.Tree.{SporkOf, Stmt, Stmts, no_stmts, more_stmts, Simple, Block, Print, If, Loop, LoopLast}
use Rattle.ck_typed.specs.Tree.{For, ForEver, Repeat, ForEach, Break, Continue, Return, Fun}
use Rattle.ck_code.specs.declared.code.Step.{Step}
use Rattle.ck_scheme.specs.Scheme.{bodies_end, spot_end, test_end, expr_end, args_end, stmt_end, block_end}
use Rattle.ck_scheme.specs.Scheme.{body_code}
use Rattle.ck_scheme.specs.Tails.{leaf_end, unary_end, binary_end, variadic_end}
use Rattle.ck_scheme.proofs.Stands.{stmt_length}

-- the calls of the statements in the braces of a new object's classes
abbrev pub bodies_most : ℕ
bodies_most = 3 * MAX_ANCESTORS

abbrev mutual
  pub most : Expr → ℕ
  most (Leaf o place) = 2
  most (Text bytes place) = 1
  most (Unary o a place) = most a + 2
  most (Binary o a b place) = most a + most b + 2
  most (Variadic o operands place) = all_most operands + 2
  most (And a b place) = most a + most b + 4
  most (Or a b place) = most a + most b + 4
  most (Choice c a b place) = most c + most a + most b + 2
  most (Assign e spot address place) = most e + all_most address + 2
  most (AssignDeclared e d spot address place) = most e + most d + all_most address + 3
  most (Update o e spot address place) = most e + all_most address + 2
  most (Prefix direction spot address place) = all_most address + 3
  most (Postfix direction spot address place) = all_most address + 5
  most (New c place) = bodies_most + 1
  most (NewObjects e n constructor place) = most n + bodies_most + 7
  most (Construct o f arguments place) = most o + all_most arguments + 3
  most (CallOf o f arguments place) = most o + all_most arguments + 2
  most (SporkOf o f arguments place) = most o + all_most arguments + 2

  pub all_most : Exprs → ℕ
  all_most no_exprs = 0
  all_most (more_exprs e rest) = most e + all_most rest

abbrev pub option_most : Option Expr → ℕ
option_most None = 0
option_most (Some e) = most e

abbrev mutual
  pub stmt_most : Stmt → ℕ
  stmt_most (Simple e place) = most e + 1
  stmt_most (Block all) = block_most all
  stmt_most (Print items kinds place) = all_most items + 1
  stmt_most (If c a b place) = most c + stmt_most a + stmt_most b + 2
  stmt_most (Loop until c body place) = most c + stmt_most body + 4
  stmt_most (LoopLast until body c place) = stmt_most body + most c + 4
  stmt_most (For start c step body place) = stmt_most start + most c + stmt_most step + stmt_most body + 3
  stmt_most (ForEver start step body place) = stmt_most start + stmt_most step + stmt_most body + 2
  stmt_most (Repeat count body place) = most count + stmt_most body + 9
  stmt_most (ForEach array local widens body place) = most array + stmt_most body + 9
  stmt_most (Break place) = 1
  stmt_most (Continue place) = 1
  stmt_most (Return e place) = most e + 1

  pub block_most : Stmts → ℕ
  block_most no_stmts = 0
  block_most (more_stmts t rest) = stmt_most t + block_most rest

-- operations --------------------------------------------------------------------------------------

spot_within : (spot : Spot) (p : ℕ) → spot_end p spot ≤ p + 2
spot_within (StaticOf i) p = omega arith
spot_within _ p = omega arith

leaf_within : (o : OfNone) (p : ℕ) → leaf_end p o ≤ p + 2
leaf_within leaf.Yield p = omega arith
leaf_within _ p = omega arith

unary_within : (o : OfOne) (p : ℕ) → unary_end p o ≤ p + 2
unary_within unary.WaitDur p = omega arith
unary_within _ p = omega arith

binary_within : (o : OfTwo) (p : ℕ) → binary_end p o ≤ p + 2
binary_within (binary.ChuckMethod slot) p = omega arith
binary_within _ p = omega arith

variadic_within : (o : OfMany) (p : ℕ) → variadic_end p o ≤ p + 2
variadic_within (variadic.Read spot) p = spot_within spot p
variadic_within _ p = omega arith

bodies_are : (bodies : List ℕ) (p : ℕ) → bodies_end p bodies ≡ p + 3 * length bodies
bodies_are [] p = omega arith
bodies_are (f ∷ bodies) p = omega (arith, bodies_are bodies (p + 1 + 1 + 1))

-- trees, where no class has more than 128 ancestors with statements in their braces ---------------

module _ (classes : List Class) (few : (c : ℕ) → length (bodies_of classes c) ≤ MAX_ANCESTORS) where
  mutual
    expr_within : (e : Expr) (p : ℕ) → expr_end classes p e ≤ p + most e
    expr_within (Leaf o place) p = leaf_within o p
    expr_within (Text bytes place) p = omega arith
    expr_within (Unary o a place) p = omega (arith, expr_within a p, unary_within o (expr_end classes p a))
    expr_within (Binary o a b place) p =
        let second = expr_end classes p a in
        omega (arith, expr_within a p, expr_within b second, binary_within o (expr_end classes second b))
    expr_within (Variadic o operands place) p =
        omega (arith, args_within operands p, variadic_within o (args_end classes p operands))
    expr_within (And a b place) p = omega (arith, expr_within a p, expr_within b (expr_end classes p a + 1))
    expr_within (Or a b place) p = omega (arith, expr_within a p, expr_within b (expr_end classes p a + 1 + 1 + 1))
    expr_within (Choice c a b place) p =
        let first = expr_end classes p c + 1 in
        omega (arith, expr_within c p, expr_within a first, expr_within b (expr_end classes first a + 1))
    expr_within (Assign e spot address place) p =
        let at = expr_end classes p e in
        omega (arith, expr_within e p, args_within address at, spot_within spot (args_end classes at address))
    expr_within (AssignDeclared e declaration spot address place) p =
        let at = expr_end classes p e in
        let made = expr_end classes at declaration + 1 in
        omega (
          arith,
          expr_within e p,
          expr_within declaration at,
          args_within address made,
          spot_within spot (args_end classes made address),
        )
    expr_within (Update o e spot address place) p =
        let at = expr_end classes p e in
        omega (arith, expr_within e p, args_within address at, spot_within spot (args_end classes at address))
    expr_within (Prefix direction spot address place) p =
        omega (arith, args_within address (p + 1), spot_within spot (args_end classes (p + 1) address))
    expr_within (Postfix direction spot address place) p =
        omega (arith, args_within address (p + 1), spot_within spot (args_end classes (p + 1) address))
    expr_within (New c place) p = omega (arith, bodies_are (bodies_of classes c) (p + 1), few c)
    expr_within (NewObjects (elem.Class c) n constructor place) p =
        let round = expr_end classes p n + 1 + 1 in
        omega (arith, expr_within n p, bodies_are (bodies_of classes c) (round + 1 + 1 + 1), few c)
    expr_within (NewObjects (elem.Unit kind) n constructor place) p = omega (arith, expr_within n p)
    expr_within (NewObjects _ n constructor place) p = omega arith
    expr_within (Construct o f arguments place) p = omega (arith, expr_within o p)
    expr_within (CallOf o f arguments place) p =
        omega (arith, expr_within o p, args_within arguments (expr_end classes p o + 1))
    expr_within (SporkOf o f arguments place) p =
        omega (arith, expr_within o p, args_within arguments (expr_end classes p o + 1))

    args_within : (es : Exprs) (p : ℕ) → args_end classes p es ≤ p + all_most es
    args_within no_exprs p = omega arith
    args_within (more_exprs e rest) p = omega (arith, expr_within e p, args_within rest (expr_end classes p e))

  test_within : (until : Bool) (c : Expr) (p : ℕ) → test_end classes until p c ≤ p + most c + 1
  test_within false c p = omega (arith, expr_within c p)
  test_within true c p = omega (arith, expr_within c p)

  mutual
    stmt_within : (t : Stmt) (p : ℕ) → stmt_end classes p t ≤ p + stmt_most t
    stmt_within (Simple e place) p = omega (arith, expr_within e p)
    stmt_within (Block all) p = block_within all p
    stmt_within (Print items kinds place) p = omega (arith, args_within items p)
    stmt_within (If c a b place) p =
        let first = expr_end classes p c + 1 in
        omega (arith, expr_within c p, stmt_within a first, stmt_within b (stmt_end classes first a + 1))
    stmt_within (Loop until c body place) p =
        omega (arith, test_within until c p, stmt_within body (test_end classes until p c + 1 + 1))
    stmt_within (LoopLast until body c place) p =
        omega (arith, stmt_within body (p + 1), test_within until c (stmt_end classes (p + 1) body))
    stmt_within (For start c step body place) p =
        let test = stmt_end classes p start in
        let first = expr_end classes test c + 1 + 1 in
        omega (
          arith,
          stmt_within start p,
          expr_within c test,
          stmt_within body first,
          stmt_within step (stmt_end classes first body),
        )
    stmt_within (ForEver start step body place) p =
        let first = stmt_end classes p start + 1 in
        omega (arith, stmt_within start p, stmt_within body first, stmt_within step (stmt_end classes first body))
    stmt_within (Repeat count body place) p =
        omega (arith, expr_within count p, stmt_within body (expr_end classes p count + 1 + 1 + 1 + 1 + 1))
    stmt_within (ForEach array local widens body place) p = omega arith
    stmt_within (Break place) p = omega arith
    stmt_within (Continue place) p = omega arith
    stmt_within (Return e place) p = omega (arith, expr_within e p)

    block_within : (all : Stmts) (p : ℕ) → block_end classes p all ≤ p + block_most all
    block_within no_stmts p = omega arith
    block_within (more_stmts t rest) p = omega (arith, stmt_within t p, block_within rest (stmt_end classes p t))

  -- a function's code has the steps of its body and two more
  pub fun_within : (texts : List (List ℕ)) (fn : Fun)
      → length (body_code classes texts fn.body fn.result fn.place) ≤ stmt_most fn.body + 2
  fun_within texts fn =
      omega (arith, length-append {A = Step}, stmt_length classes texts fn.body 0 0 0, stmt_within fn.body 0)
