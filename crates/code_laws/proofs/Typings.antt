-- The operands at each place of the scheme's code, which follow the kinds that the program's being
-- well formed says.
use Rattle.std.proofs.Common.{◌≡◌, ℕ, ◌+◌, List, [], ◌∷◌, ◌++◌, length, refl, arith, length-append, Bool, true, false}
use Rattle.std.specs.Prelude.{slice_get}
use Rattle.ck_values.specs.declared.kind.Elem.TheVariants as elem
use Rattle.ck_values.specs.declared.kind.Elem.TheVariants.{Int as IntElem, Class as ClassElem}
use Rattle.ck_values.specs.declared.kind.Kind.{Kind}
use Rattle.ck_values.specs.declared.kind.Kind.TheVariants.{Null as NullKind, One, Row}
use Rattle.ck_typed.specs.declared.class.Class.{Class}
use Rattle.ck_store.specs.Objects.{bodies_of}
use Rattle.ck_typed.specs.declared.expr.Spot.{Spot}
use Rattle.ck_typed.specs.declared.expr.Spot.TheVariants.{Local, Static, StaticOf, Field, Item}
use Rattle.ck_typed.specs.declared.operation.Leaf.{Leaf as OfNone}
use Rattle.ck_typed.specs.declared.operation.Leaf.TheVariants as op0
use Rattle.ck_typed.specs.declared.operation.Unary.{Unary as OfOne}
use Rattle.ck_typed.specs.declared.operation.Unary.TheVariants as op1
use Rattle.ck_typed.specs.declared.operation.Binary.{Binary as OfTwo}
use Rattle.ck_typed.specs.declared.operation.Binary.TheVariants as op2
use Rattle.ck_typed.specs.declared.operation.Variadic.{Variadic as OfMany}
use Rattle.ck_typed.specs.declared.operation.Variadic.TheVariants as opn
use Rattle.ck_typed.specs.Tree.{Expr, Exprs, no_exprs, more_exprs, Leaf, Text, Unary, Binary, Variadic, And, Or, Choice, Assign, AssignDeclared, Update, Prefix, Postfix, New as Making, NewObjects, Construct, CallOf, SporkOf, Stmt, Stmts, no_stmts, more_stmts, Simple, Block, Print, If, Loop, LoopLast, For, ForEver, Repeat, ForEach, Break, Continue, Return, Program}
use Rattle.ck_typed.specs.WellFormed.{params_of, HasKind, IsTest, IsFine, AreFine, IsWellFormed}
use Rattle.ck_code.proofs.Standing.{found_is}
use Rattle.ck_scheme.specs.Scheme.{bodies_end, spot_end, expr_end, args_end, test_end, stmt_end, block_end}
use Rattle.ck_scheme.specs.Tails.{leaf_end, unary_end, binary_end, variadic_end}
use Rattle.code_laws.proofs.Parts.{operand_of, two_of, many_of}
use Rattle.code_laws.proofs.Shapes.{in_a_loop}
use Rattle.code_laws.proofs.Facts.{updates_is, kinds_on, AllHave, operands_of, address_of, AllTakeThis, bodies_are}

-- the kind of what a function returns at its end
abbrev pub default_kind : Kind → Kind
default_kind (One elem.Int) = One elem.Int
default_kind (One elem.Float) = One elem.Float
default_kind (One elem.Dur) = One elem.Dur
default_kind (One elem.Time) = One elem.Time
default_kind (One elem.Text) = One elem.Text
default_kind (One elem.Shred) = One elem.Shred
default_kind _ = NullKind

-- the operands at the later places of what reads, sets or updates a spot, with these beneath its
-- address
abbrev pub spot_rest : Spot → (under : List Kind) → List (List Kind)
spot_rest (StaticOf i) under = under ∷ []
spot_rest _ under = []

-- and at the later places of an operation
abbrev pub leaf_rest : OfNone → (under : List Kind) → List (List Kind)
leaf_rest op0.Yield under = under ∷ []
leaf_rest op0.Exit under = under ∷ []
leaf_rest _ under = []

abbrev pub unary_rest : OfOne → (under : List Kind) → List (List Kind)
unary_rest op1.WaitDur under = under ∷ []
unary_rest op1.WaitTime under = under ∷ []
unary_rest op1.WaitEvent under = under ∷ []
unary_rest _ under = []

abbrev pub binary_rest : OfTwo → (left right : Kind) → (under : List Kind) → List (List Kind)
binary_rest (op2.ChuckMethod slot) j i under = (j ∷ i ∷ under) ∷ []
binary_rest (op2.ChuckCallOf f) j i under = (j ∷ under) ∷ []
binary_rest (op2.ChuckNative n) j i under = (j ∷ i ∷ under) ∷ []
binary_rest (op2.ChuckParam q) j i under = (j ∷ i ∷ under) ∷ []
binary_rest _ j i under = []

abbrev pub variadic_rest : OfMany → (under : List Kind) → List (List Kind)
variadic_rest (opn.Read spot) under = spot_rest spot under
variadic_rest _ under = []

pub spot_length : (spot : Spot) (under : List Kind) (p : ℕ)
    → p + 1 + length (spot_rest spot under) ≡ spot_end p spot
spot_length (Local i) under p = omega arith
spot_length (Static i) under p = omega arith
spot_length (StaticOf i) under p = refl
spot_length (Field i) under p = omega arith
spot_length Item under p = omega arith

leaf_rest_length : (o : OfNone) (under : List Kind) (p : ℕ)
    → p + length (under ∷ leaf_rest o under) ≡ leaf_end p o
leaf_rest_length op0.Yield under p = omega arith
leaf_rest_length op0.Exit under p = omega arith
leaf_rest_length _ under p = refl

unary_rest_length : (o : OfOne) (under : List Kind) (p : ℕ)
    → p + length (under ∷ unary_rest o under) ≡ unary_end p o
unary_rest_length op1.WaitDur under p = omega arith
unary_rest_length op1.WaitTime under p = omega arith
unary_rest_length op1.WaitEvent under p = omega arith
unary_rest_length _ under p = refl

binary_rest_length : (o : OfTwo) (j i : Kind) (under : List Kind) (p : ℕ)
    → p + length (under ∷ binary_rest o j i under) ≡ binary_end p o
binary_rest_length (op2.ChuckMethod slot) j i under p = omega arith
binary_rest_length (op2.ChuckCallOf f) j i under p = omega arith
binary_rest_length (op2.ChuckNative n) j i under p = omega arith
binary_rest_length (op2.ChuckParam q) j i under p = omega arith
binary_rest_length _ j i under p = refl

variadic_rest_length : (o : OfMany) (under : List Kind) (p : ℕ)
    → p + length (under ∷ variadic_rest o under) ≡ variadic_end p o
variadic_rest_length (opn.Read spot) under p = omega (arith, spot_length spot under p)
variadic_rest_length _ under p = refl

module _ (program : Program) (fine : IsWellFormed program) (locals : List Kind) where
  abbrev classes : List Class
  classes = program.classes

  -- the operands at each place of what a new object's classes do
  abbrev pub bodies_shapes : (c : ℕ) (under : List Kind) (bodies : List ℕ)
      → AllTakeThis program c bodies → List (List Kind)
  bodies_shapes c under [] h = []
  bodies_shapes c under (f ∷ bodies) h =
      let this : Kind = One (ClassElem c) in
      (this ∷ under) ∷ (this ∷ this ∷ under) ∷ (h.0.fn.result ∷ this ∷ under)
      ∷ bodies_shapes c under bodies h.1

  -- the operands at each place of a tree's code, with these beneath
  abbrev mutual
    pub expr_shapes : (under : List Kind) (e : Expr) (k : Kind) → HasKind program locals e k
        → List (List Kind)
    expr_shapes under (Leaf o place) k h = under ∷ leaf_rest o under
    expr_shapes under (Text bytes place) k h = under ∷ []
    expr_shapes under (Unary o a place) k h =
        let x = operand_of program o _ k h in
        expr_shapes under a x.kind x.has ++ (x.kind ∷ under) ∷ unary_rest o under
    expr_shapes under (Binary o a b place) k h =
        let x = two_of program o _ _ k h in
        expr_shapes under a x.left x.at_left ++ (expr_shapes (x.left ∷ under) b x.right x.at_right
        ++ (x.right ∷ x.left ∷ under) ∷ binary_rest o x.left x.right under)
    expr_shapes under (Variadic o operands place) k h =
        let x = many_of program locals o operands k h in
        args_shapes under operands x.kinds x.have
        ++ kinds_on x.kinds under ∷ variadic_rest o under
    expr_shapes under (And a b place) k h =
        expr_shapes under a h.0.0 h.0.1 ++ ((h.0.0 ∷ under)
        ∷ (expr_shapes under b h.1.0 h.1.1 ++ ((h.1.0 ∷ under) ∷ (One IntElem ∷ under) ∷ under ∷ [])))
    expr_shapes under (Or a b place) k h =
        expr_shapes under a h.0.0 h.0.1 ++ ((h.0.0 ∷ under) ∷ under ∷ (One IntElem ∷ under)
        ∷ (expr_shapes under b h.1.0 h.1.1 ++ (h.1.0 ∷ under) ∷ []))
    expr_shapes under (Choice c a b place) k h =
        expr_shapes under c h.0.0 h.0.1 ++ ((h.0.0 ∷ under)
        ∷ (expr_shapes under a h.1.0 h.1.1
        ++ ((h.1.0 ∷ under) ∷ expr_shapes under b h.2.0 h.2.1)))
    expr_shapes under (Assign e spot address place) k h =
        let a = address_of program locals spot address k h.0 in
        expr_shapes under e h.1.0 h.1.1
        ++ (args_shapes (h.1.0 ∷ under) address a.kinds a.have
        ++ kinds_on a.kinds (h.1.0 ∷ under) ∷ spot_rest spot (h.1.0 ∷ under))
    expr_shapes under (AssignDeclared e declaration spot address place) k h =
        let a = address_of program locals spot address k h.0 in
        let j = h.1.0 in
        expr_shapes under e j h.1.1
        ++ (expr_shapes (j ∷ under) declaration h.2.0 h.2.1 ++ ((h.2.0 ∷ j ∷ under)
        ∷ (args_shapes (j ∷ under) address a.kinds a.have
        ++ kinds_on a.kinds (j ∷ under) ∷ spot_rest spot (j ∷ under))))
    expr_shapes under (Update o e spot address place) k h =
        let a = address_of program locals spot address k h.0 in
        let u = updates_is program o (HasKind program locals e) k h.1 in
        expr_shapes under e u.value u.at_value
        ++ (args_shapes (u.value ∷ under) address a.kinds a.have
        ++ kinds_on a.kinds (u.value ∷ under) ∷ spot_rest spot (u.value ∷ under))
    expr_shapes under (Prefix direction spot address place) k h =
        let a = address_of program locals spot address k h.0 in
        under ∷ (args_shapes (One IntElem ∷ under) address a.kinds a.have
        ++ kinds_on a.kinds (One IntElem ∷ under) ∷ spot_rest spot (One IntElem ∷ under))
    expr_shapes under (Postfix direction spot address place) k h =
        let a = address_of program locals spot address k h.0 in
        let int : Kind = One IntElem in
        under ∷ (args_shapes (int ∷ under) address a.kinds a.have
        ++ (kinds_on a.kinds (int ∷ under) ∷ (spot_rest spot (int ∷ under)
        ++ ((int ∷ under) ∷ (int ∷ int ∷ under) ∷ []))))
    expr_shapes under (Making c place) k h =
        under ∷ bodies_shapes c under (bodies_of program.classes c) (bodies_are program fine c)
    expr_shapes under (NewObjects (elem.Class c) n constructor place) k h =
        let array : Kind = Row (ClassElem c) in
        let on : List Kind = One IntElem ∷ array ∷ under in
        expr_shapes under n h.1.0 h.1.1 ++ ((h.1.0 ∷ under) ∷ (array ∷ under) ∷ on ∷ on ∷ on
        ∷ (bodies_shapes c on (bodies_of program.classes c) (bodies_are program fine c)
        ++ ((One (ClassElem c) ∷ on) ∷ on ∷ [])))
    expr_shapes under (NewObjects (elem.Unit kind) n constructor place) k h =
        let array : Kind = Row (elem.Unit kind) in
        let on : List Kind = One IntElem ∷ array ∷ under in
        expr_shapes under n h.1.0 h.1.1 ++ ((h.1.0 ∷ under) ∷ (array ∷ under) ∷ on ∷ on
        ∷ on ∷ (One (elem.Unit kind) ∷ on) ∷ on ∷ [])
    expr_shapes under (Construct o f arguments place) k h = expr_shapes under o k h.0
    expr_shapes under (CallOf o f arguments place) k h =
        let fn = found_is (slice_get program.funs f) _ h.1 in
        let a = operands_of program locals arguments (params_of fn.0) fn.2.0 in
        expr_shapes under o h.0.0 h.0.1 ++ ((h.0.0 ∷ under)
        ∷ (args_shapes under arguments a.kinds a.have ++ kinds_on a.kinds under ∷ []))
    expr_shapes under (SporkOf o f arguments place) k h =
        let fn = found_is (slice_get program.funs f) _ h.1 in
        let a = operands_of program locals arguments (params_of fn.0) fn.2 in
        expr_shapes under o h.0.0 h.0.1 ++ ((h.0.0 ∷ under)
        ∷ (args_shapes under arguments a.kinds a.have ++ kinds_on a.kinds under ∷ []))
    expr_shapes under (NewObjects _ n constructor place) k h = []

    pub args_shapes : (under : List Kind) (args : Exprs) (js : List Kind)
        → AllHave program locals args js → List (List Kind)
    args_shapes under no_exprs js h = []
    args_shapes under (more_exprs e rest) [] h = []
    args_shapes under (more_exprs e rest) (j ∷ js) h =
        expr_shapes under e j h.0 ++ args_shapes (j ∷ under) rest js h.1

  -- a loop's test, and the kind that it leaves
  abbrev pub test_shapes : (until : Bool) (under : List Kind) (c : Expr) → IsTest program locals c
      → List (List Kind)
  test_shapes false under c h = expr_shapes under c h.0 h.1
  test_shapes true under c h = expr_shapes under c h.0 h.1 ++ (h.0 ∷ under) ∷ []

  abbrev pub test_kind : (until : Bool) (of_test : Kind) → Kind
  test_kind false k = k
  test_kind true k = One IntElem

  module _ (result : Kind) where
    -- the operands at each place of a statement's code, with these beneath: a `repeat` has its
    -- count
    -- beneath what its body does
    abbrev mutual
      pub stmt_shapes : (under : List Kind) (t : Stmt) (in_loop : Bool)
          → IsFine program locals result in_loop t → List (List Kind)
      stmt_shapes under (Simple e place) in_loop h =
          expr_shapes under e h.0 h.1 ++ (h.0 ∷ under) ∷ []
      stmt_shapes under (Block all) in_loop h = block_shapes under all in_loop h
      stmt_shapes under (Print items kinds place) in_loop h =
          let o = operands_of program locals items kinds h.2 in
          args_shapes under items o.kinds o.have ++ kinds_on o.kinds under ∷ []
      stmt_shapes under (If c a b place) in_loop h =
          expr_shapes under c h.0.0 h.0.1 ++ ((h.0.0 ∷ under)
          ∷ (stmt_shapes under a in_loop h.1 ++ (under ∷ stmt_shapes under b in_loop h.2)))
      stmt_shapes under (Loop until c body place) in_loop h =
          test_shapes until under c h.0 ++ ((test_kind until h.0.0 ∷ under) ∷ under
          ∷ (stmt_shapes under body true h.1 ++ under ∷ []))
      stmt_shapes under (LoopLast until body c place) in_loop h =
          under ∷ (stmt_shapes under body true h.1
          ++ (test_shapes until under c h.0 ++ ((test_kind until h.0.0 ∷ under) ∷ under ∷ [])))
      stmt_shapes under (For start c step body place) in_loop h =
          let again = in_a_loop program locals result step in_loop h.2 in
          stmt_shapes under start in_loop h.1
          ++ (expr_shapes under c h.0.0 h.0.1 ++ ((h.0.0 ∷ under) ∷ under
          ∷ (stmt_shapes under body true h.3
          ++ (stmt_shapes under step true again ++ under ∷ []))))
      stmt_shapes under (ForEver start step body place) in_loop h =
          let again = in_a_loop program locals result step in_loop h.1 in
          stmt_shapes under start in_loop h.0
          ++ (under ∷ (stmt_shapes under body true h.2
          ++ (stmt_shapes under step true again ++ under ∷ [])))
      stmt_shapes under (Repeat count body place) in_loop h =
          let int : Kind = One IntElem in
          expr_shapes under count h.0.0 h.0.1 ++ ((int ∷ under) ∷ (int ∷ int ∷ under)
          ∷ (int ∷ int ∷ int ∷ under) ∷ (int ∷ int ∷ under) ∷ (int ∷ under)
          ∷ (stmt_shapes (int ∷ under) body true h.1
          ++ ((int ∷ under) ∷ (int ∷ int ∷ under) ∷ (int ∷ under) ∷ (int ∷ under) ∷ [])))
      stmt_shapes under (ForEach array local widens body place) in_loop h = []
      stmt_shapes under (Break place) in_loop h = under ∷ []
      stmt_shapes under (Continue place) in_loop h = under ∷ []
      stmt_shapes under (Return e place) in_loop h =
          expr_shapes under e h.0 h.1 ++ (h.0 ∷ under) ∷ []

      pub block_shapes : (under : List Kind) (all : Stmts) (in_loop : Bool)
          → AreFine program locals result in_loop all → List (List Kind)
      block_shapes under no_stmts in_loop h = []
      block_shapes under (more_stmts t rest) in_loop h =
          stmt_shapes under t in_loop h.0 ++ block_shapes under rest in_loop h.1

    -- a function's: its body's, then nothing, then its default
    abbrev pub body_shapes : (body : Stmt) → IsFine program locals result false body → Kind
        → List (List Kind)
    body_shapes body h default =
        stmt_shapes [] body false h ++ ([] ∷ (default ∷ []) ∷ [])

  pub bodies_shapes_length : (c : ℕ) (under : List Kind) (bodies : List ℕ)
      (h : AllTakeThis program c bodies) (p : ℕ)
      → p + length (bodies_shapes c under bodies h) ≡ bodies_end p bodies
  bodies_shapes_length c under [] h p = omega arith
  bodies_shapes_length c under (f ∷ bodies) h p =
      omega (arith, bodies_shapes_length c under bodies h.1 (p + 1 + 1 + 1))

  mutual
    pub shapes_length : (e : Expr) (k : Kind) (h : HasKind program locals e k)
        (under : List Kind) (p : ℕ) → p + length (expr_shapes under e k h) ≡ expr_end classes p e
    shapes_length (Leaf o place) k h under p = leaf_rest_length o under p
    shapes_length (Text bytes place) k h under p = refl
    shapes_length (Unary o a place) k h under p =
        let x = operand_of program o _ k h in
        omega (
          arith,
          length-append {A = List Kind},
          shapes_length a x.kind x.has under p,
          unary_rest_length o under (expr_end classes p a),
        )
    shapes_length (Binary o a b place) k h under p =
        let x = two_of program o _ _ k h in
        let m = expr_end classes p a in
        omega (
          arith,
          length-append {A = List Kind},
          shapes_length a x.left x.at_left under p,
          shapes_length b x.right x.at_right (x.left ∷ under) m,
          binary_rest_length o x.left x.right under (expr_end classes m b),
        )
    shapes_length (Variadic o operands place) k h under p =
        let x = many_of program locals o operands k h in
        omega (
          arith,
          length-append {A = List Kind},
          args_shapes_length operands x.kinds x.have under p,
          variadic_rest_length o under (args_end classes p operands),
        )
    shapes_length (And a b place) k h under p =
        omega (
          arith,
          length-append {A = List Kind},
          shapes_length a h.0.0 h.0.1 under p,
          shapes_length b h.1.0 h.1.1 under (expr_end classes p a + 1),
        )
    shapes_length (Or a b place) k h under p =
        omega (
          arith,
          length-append {A = List Kind},
          shapes_length a h.0.0 h.0.1 under p,
          shapes_length b h.1.0 h.1.1 under (expr_end classes p a + 1 + 1 + 1),
        )
    shapes_length (Choice c a b place) k h under p =
        omega (
          arith,
          length-append {A = List Kind},
          shapes_length c h.0.0 h.0.1 under p,
          shapes_length a h.1.0 h.1.1 under (expr_end classes p c + 1),
          shapes_length b h.2.0 h.2.1 under (expr_end classes (expr_end classes p c + 1) a + 1),
        )
    shapes_length (Assign e spot address place) k h under p =
        let a = address_of program locals spot address k h.0 in
        omega (
          arith,
          length-append {A = List Kind},
          shapes_length e h.1.0 h.1.1 under p,
          args_shapes_length address a.kinds a.have (h.1.0 ∷ under) (expr_end classes p e),
          spot_length spot (h.1.0 ∷ under) (args_end classes (expr_end classes p e) address),
        )
    shapes_length (AssignDeclared e declaration spot address place) k h under p =
        let a = address_of program locals spot address k h.0 in
        let j = h.1.0 in
        let made = expr_end classes (expr_end classes p e) declaration in
        omega (
          arith,
          length-append {A = List Kind},
          shapes_length e j h.1.1 under p,
          shapes_length declaration h.2.0 h.2.1 (j ∷ under) (expr_end classes p e),
          args_shapes_length address a.kinds a.have (j ∷ under) (made + 1),
          spot_length spot (j ∷ under) (args_end classes (made + 1) address),
        )
    shapes_length (Update o e spot address place) k h under p =
        let a = address_of program locals spot address k h.0 in
        let u = updates_is program o (HasKind program locals e) k h.1 in
        omega (
          arith,
          length-append {A = List Kind},
          shapes_length e u.value u.at_value under p,
          args_shapes_length address a.kinds a.have (u.value ∷ under)
              (expr_end classes p e),
          spot_length spot (u.value ∷ under) (args_end classes (expr_end classes p e) address),
        )
    shapes_length (Prefix direction spot address place) k h under p =
        let a = address_of program locals spot address k h.0 in
        omega (
          arith,
          length-append {A = List Kind},
          args_shapes_length address a.kinds a.have (One IntElem ∷ under) (p + 1),
          spot_length spot (One IntElem ∷ under) (args_end classes (p + 1) address),
        )
    shapes_length (Postfix direction spot address place) k h under p =
        let a = address_of program locals spot address k h.0 in
        omega (
          arith,
          length-append {A = List Kind},
          args_shapes_length address a.kinds a.have (One IntElem ∷ under) (p + 1),
          spot_length spot (One IntElem ∷ under) (args_end classes (p + 1) address),
        )
    shapes_length (Making c place) k h under p =
        omega (
          arith,
          bodies_shapes_length c under (bodies_of program.classes c) (bodies_are program fine c)
              (p + 1),
        )
    shapes_length (NewObjects (elem.Class c) n constructor place) k h under p =
        let first = expr_end classes p n + 1 + 1 + 1 + 1 + 1 in
        omega (
          arith,
          length-append {A = List Kind},
          shapes_length n h.1.0 h.1.1 under p,
          bodies_shapes_length c (One IntElem ∷ Row (ClassElem c) ∷ under)
              (bodies_of program.classes c) (bodies_are program fine c) first,
        )
    shapes_length (NewObjects (elem.Unit kind) n constructor place) k h under p =
        omega (arith, length-append {A = List Kind}, shapes_length n h.1.0 h.1.1 under p)
    shapes_length (Construct o f arguments place) k h under p = shapes_length o k h.0 under p
    shapes_length (CallOf o f arguments place) k h under p =
        let fn = found_is (slice_get program.funs f) _ h.1 in
        let a = operands_of program locals arguments (params_of fn.0) fn.2.0 in
        omega (
          arith,
          length-append {A = List Kind},
          shapes_length o h.0.0 h.0.1 under p,
          args_shapes_length arguments a.kinds a.have under (expr_end classes p o + 1),
        )
    shapes_length (SporkOf o f arguments place) k h under p =
        let fn = found_is (slice_get program.funs f) _ h.1 in
        let a = operands_of program locals arguments (params_of fn.0) fn.2 in
        omega (
          arith,
          length-append {A = List Kind},
          shapes_length o h.0.0 h.0.1 under p,
          args_shapes_length arguments a.kinds a.have under (expr_end classes p o + 1),
        )
    shapes_length (NewObjects _ n constructor place) k h under p = absurd h.0

    pub args_shapes_length : (args : Exprs) (js : List Kind) (h : AllHave program locals args js) (under : List Kind)
        (p : ℕ)
        → p + length (args_shapes under args js h) ≡ args_end classes p args
    args_shapes_length no_exprs js h under p = omega arith
    args_shapes_length (more_exprs e rest) [] h under p = absurd h
    args_shapes_length (more_exprs e rest) (j ∷ js) h under p =
        omega (
          arith,
          length-append {A = List Kind},
          shapes_length e j h.0 under p,
          args_shapes_length rest js h.1 (j ∷ under) (expr_end classes p e),
        )

  pub test_shapes_length : (until : Bool) (under : List Kind) (c : Expr)
      (h : IsTest program locals c) (p : ℕ)
      → p + length (test_shapes until under c h) ≡ test_end classes until p c
  test_shapes_length false under c h p = shapes_length c h.0 h.1 under p
  test_shapes_length true under c h p =
      omega (arith, length-append {A = List Kind}, shapes_length c h.0 h.1 under p)

  module _ (result : Kind) where
    mutual
      pub stmt_shapes_length : (under : List Kind) (t : Stmt) (in_loop : Bool)
          (h : IsFine program locals result in_loop t) (p : ℕ)
          → p + length (stmt_shapes result under t in_loop h) ≡ stmt_end classes p t
      stmt_shapes_length under (Simple e place) in_loop h p =
          omega (arith, length-append {A = List Kind}, shapes_length e h.0 h.1 under p)
      stmt_shapes_length under (Block all) in_loop h p =
          block_shapes_length under all in_loop h p
      stmt_shapes_length under (Print items kinds place) in_loop h p =
          let o = operands_of program locals items kinds h.2 in
          omega (
            arith,
            length-append {A = List Kind},
            args_shapes_length items o.kinds o.have under p,
          )
      stmt_shapes_length under (If c a b place) in_loop h p =
          omega (
            arith,
            length-append {A = List Kind},
            shapes_length c h.0.0 h.0.1 under p,
            stmt_shapes_length under a in_loop h.1 (expr_end classes p c + 1),
            stmt_shapes_length under b in_loop h.2 (stmt_end classes (expr_end classes p c
                + 1) a + 1),
          )
      stmt_shapes_length under (Loop until c body place) in_loop h p =
          omega (
            arith,
            length-append {A = List Kind},
            test_shapes_length until under c h.0 p,
            stmt_shapes_length under body true h.1 (test_end classes until p c + 1 + 1),
          )
      stmt_shapes_length under (LoopLast until body c place) in_loop h p =
          omega (
            arith,
            length-append {A = List Kind},
            stmt_shapes_length under body true h.1 (p + 1),
            test_shapes_length until under c h.0 (stmt_end classes (p + 1) body),
          )
      stmt_shapes_length under (For start c step body place) in_loop h p =
          let again = in_a_loop program locals result step in_loop h.2 in
          let test = stmt_end classes p start in
          let first = expr_end classes test c + 1 + 1 in
          omega (
            arith,
            length-append {A = List Kind},
            stmt_shapes_length under start in_loop h.1 p,
            shapes_length c h.0.0 h.0.1 under test,
            stmt_shapes_length under body true h.3 first,
            stmt_shapes_length under step true again (stmt_end classes first body),
          )
      stmt_shapes_length under (ForEver start step body place) in_loop h p =
          let again = in_a_loop program locals result step in_loop h.1 in
          let first = stmt_end classes p start + 1 in
          omega (
            arith,
            length-append {A = List Kind},
            stmt_shapes_length under start in_loop h.0 p,
            stmt_shapes_length under body true h.2 first,
            stmt_shapes_length under step true again (stmt_end classes first body),
          )
      stmt_shapes_length under (Repeat count body place) in_loop h p =
          omega (
            arith,
            length-append {A = List Kind},
            shapes_length count h.0.0 h.0.1 under p,
            stmt_shapes_length (One IntElem ∷ under) body true h.1
                (expr_end classes p count + 1 + 1 + 1 + 1 + 1),
          )
      stmt_shapes_length under (ForEach array local widens body place) in_loop h p = omega arith
      stmt_shapes_length under (Break place) in_loop h p = refl
      stmt_shapes_length under (Continue place) in_loop h p = refl
      stmt_shapes_length under (Return e place) in_loop h p =
          omega (arith, length-append {A = List Kind}, shapes_length e h.0 h.1 under p)

      block_shapes_length : (under : List Kind) (all : Stmts) (in_loop : Bool)
          (h : AreFine program locals result in_loop all) (p : ℕ)
          → p + length (block_shapes result under all in_loop h) ≡ block_end classes p all
      block_shapes_length under no_stmts in_loop h p = omega arith
      block_shapes_length under (more_stmts t rest) in_loop h p =
          omega (
            arith,
            length-append {A = List Kind},
            stmt_shapes_length under t in_loop h.0 p,
            block_shapes_length under rest in_loop h.1 (stmt_end classes p t),
          )
