-- Where the code of a tree stands, and in which files.
use Rattle.std.proofs.Common.{◌≡◌, ℕ, zero, suc, Bool, true, false, ◌+◌, ◌<◌, List, [], ◌∷◌, ◌++◌, length, Some, refl, sym, ap, ◌∙◌, subst, arith, append_assoc, length-append}
use Rattle.std.specs.Prelude.{slice_get}
use Rattle.std.proofs.Math.Seq.{get_or-append_seam}
use Rattle.std.proofs.lemmas.Option.{slice_get-get_or}
use Rattle.ck_values.specs.declared.kind.Elem.TheVariants as elem
use Rattle.ck_values.specs.declared.trap.Place.{Place}
use Rattle.ck_store.specs.Objects.{bodies_of}
use Rattle.ck_values.specs.declared.operator.Op2.{Op2}
use Rattle.ck_meaning.specs.Meaning.{step_of}
use Rattle.ck_typed.specs.declared.class.Class.{Class}
use Rattle.ck_typed.specs.declared.expr.Spot.{Spot}
use Rattle.ck_typed.specs.declared.expr.Spot.TheVariants.{Local, Static, StaticOf, Field, Item}
use Rattle.ck_typed.specs.declared.operation.Leaf.{Leaf as OfNone}
use Rattle.ck_typed.specs.declared.operation.Leaf.TheVariants as leaf
use Rattle.ck_typed.specs.declared.operation.Unary.{Unary as OfOne}
use Rattle.ck_typed.specs.declared.operation.Unary.TheVariants as unary
use Rattle.ck_typed.specs.declared.operation.Binary.{Binary as OfTwo}
use Rattle.ck_typed.specs.declared.operation.Binary.TheVariants as binary
use Rattle.ck_typed.specs.declared.operation.Variadic.{Variadic as OfMany}
use Rattle.ck_typed.specs.declared.operation.Variadic.TheVariants as variadic
use Rattle.ck_typed.specs.Tree.{Expr, Exprs, no_exprs, more_exprs, Leaf, Text, Unary, Binary, Variadic, And, Or, Choice, Assign, AssignDeclared, Update, Prefix, Postfix, New as Making, NewObjects, Construct, CallOf, SporkOf, Stmt, Stmts, no_stmts, more_stmts, Simple, Block, Print as Printing, If, Loop, LoopLast, For, ForEver, Repeat, ForEach, Break, Continue, Return, Fun}
use Rattle.ck_typed.specs.WellFormed.{LiesIn, ExprLies, ExprsLie, StmtLies, StmtsLie, FunLies}
use Rattle.ck_code.specs.declared.code.CodeParts.{CodeParts}
use Rattle.ck_code.specs.declared.code.Step.{Step}
use Rattle.ck_code.specs.Machine.{step_at, steps_of}
use Rattle.ck_scheme.specs.Scheme.{count_of, bodies_code, bodies_end, read_code, set_code, update_code, spot_end, test_end, test_code, expr_end, args_end, expr_code, args_code, stmt_end, block_end, stmt_code, block_code, body_code}
use Rattle.ck_scheme.specs.Tails.{leaf_code, leaf_end, unary_code, unary_end, binary_code, binary_end, variadic_code, variadic_end}

-- these steps stand in a function from this place on
abbrev pub HasAt : CodeParts → (f p : ℕ) → List Step → Type 0
HasAt code f p [] = Unit {0}
HasAt code f p (step ∷ steps) = (step_at code f p ≡ Some step) × HasAt code f (p + 1) steps

read_length : (spot : Spot) (place : Place) (p : ℕ)
    → p + length (read_code spot place) ≡ spot_end p spot
read_length (Local i) place p = refl
read_length (Static i) place p = refl
read_length (StaticOf i) place p = omega arith
read_length (Field i) place p = refl
read_length Item place p = refl

pub set_length : (spot : Spot) (place : Place) (p : ℕ)
    → p + length (set_code spot place) ≡ spot_end p spot
set_length (Local i) place p = refl
set_length (Static i) place p = refl
set_length (StaticOf i) place p = omega arith
set_length (Field i) place p = refl
set_length Item place p = refl

pub update_length : (spot : Spot) (o : Op2) (place : Place) (p : ℕ)
    → p + length (update_code spot o place) ≡ spot_end p spot
update_length (Local i) o place p = refl
update_length (Static i) o place p = refl
update_length (StaticOf i) o place p = omega arith
update_length (Field i) o place p = refl
update_length Item o place p = refl

pub bodies_length : (bodies : List ℕ) (place : Place) (p : ℕ)
    → p + length (bodies_code bodies place) ≡ bodies_end p bodies
bodies_length [] place p = omega arith
bodies_length (f ∷ bodies) place p = omega (arith, bodies_length bodies place (p + 1 + 1 + 1))

-- so is that of an operation
pub leaf_length : (o : OfNone) (place : Place) (p : ℕ) → p + length (leaf_code o place) ≡ leaf_end p o
leaf_length leaf.Null place p = refl
leaf_length _ place p = omega arith

pub unary_length : (o : OfOne) (place : Place) (p : ℕ)
    → p + length (unary_code o place) ≡ unary_end p o
unary_length unary.WaitDur place p = omega arith
unary_length _ place p = omega arith

pub binary_length : (o : OfTwo) (place : Place) (p : ℕ)
    → p + length (binary_code o place) ≡ binary_end p o
binary_length binary.Append place p = refl
binary_length _ place p = omega arith

pub variadic_length : (o : OfMany) (n : ℕ) (place : Place) (p : ℕ)
    → p + length (variadic_code o n place) ≡ variadic_end p o
variadic_length (variadic.Read spot) n place p = read_length spot place p
variadic_length _ n place p = refl

module _ (classes : List Class) (texts : List (List ℕ)) where
  -- an expression's code is as long as it says
  mutual
    pub expr_length : (e : Expr) (p : ℕ) → p + length (expr_code classes texts p e) ≡ expr_end classes p e
    expr_length (Leaf o place) p = leaf_length o place p
    expr_length (Text bytes place) p = refl
    expr_length (Unary o a place) p =
        omega (
          arith,
          length-append {A = Step},
          expr_length a p,
          unary_length o place (expr_end classes p a),
        )
    expr_length (Binary o a b place) p =
        let first = expr_end classes p a in
        omega (
          arith,
          length-append {A = Step},
          expr_length a p,
          expr_length b first,
          binary_length o place (expr_end classes first b),
        )
    expr_length (Variadic o operands place) p =
        omega (
          arith,
          length-append {A = Step},
          args_length operands p,
          variadic_length o (count_of operands) place (args_end classes p operands),
        )
    expr_length (And a b place) p =
        omega (arith, length-append {A = Step}, expr_length a p, expr_length b (expr_end classes p a + 1))
    expr_length (Or a b place) p =
        omega (
          arith,
          length-append {A = Step},
          expr_length a p,
          expr_length b (expr_end classes p a + 1 + 1 + 1),
        )
    expr_length (Choice c a b place) p =
        omega (
          arith,
          length-append {A = Step},
          expr_length c p,
          expr_length a (expr_end classes p c + 1),
          expr_length b (expr_end classes (expr_end classes p c + 1) a + 1),
        )
    expr_length (Assign e spot address place) p =
        omega (
          arith,
          length-append {A = Step},
          expr_length e p,
          args_length address (expr_end classes p e),
          set_length spot place (args_end classes (expr_end classes p e) address),
        )
    expr_length (AssignDeclared e declaration spot address place) p =
        let made = expr_end classes (expr_end classes p e) declaration in
        omega (
          arith,
          length-append {A = Step},
          expr_length e p,
          expr_length declaration (expr_end classes p e),
          args_length address (made + 1),
          set_length spot place (args_end classes (made + 1) address),
        )
    expr_length (Update o e spot address place) p =
        omega (
          arith,
          length-append {A = Step},
          expr_length e p,
          args_length address (expr_end classes p e),
          update_length spot o place (args_end classes (expr_end classes p e) address),
        )
    expr_length (Prefix direction spot address place) p =
        omega (
          arith,
          length-append {A = Step},
          args_length address (p + 1),
          update_length spot (step_of direction) place (args_end classes (p + 1) address),
        )
    expr_length (Postfix direction spot address place) p =
        omega (
          arith,
          length-append {A = Step},
          args_length address (p + 1),
          update_length spot (step_of direction) place (args_end classes (p + 1) address),
        )
    expr_length (Making c place) p =
        omega (arith, bodies_length (bodies_of classes c) place (p + 1))
    expr_length (NewObjects (elem.Class c) n constructor place) p =
        omega (
          arith,
          length-append {A = Step},
          expr_length n p,
          bodies_length (bodies_of classes c) place (expr_end classes p n + 1 + 1 + 1 + 1 + 1),
        )
    expr_length (NewObjects (elem.Unit kind) n constructor place) p =
        omega (arith, length-append {A = Step}, expr_length n p)
    expr_length (Construct o f arguments place) p = expr_length o p
    expr_length (CallOf o f arguments place) p =
        omega (
          arith,
          length-append {A = Step},
          expr_length o p,
          args_length arguments (expr_end classes p o + 1),
        )
    expr_length (SporkOf o f arguments place) p =
        omega (
          arith,
          length-append {A = Step},
          expr_length o p,
          args_length arguments (expr_end classes p o + 1),
        )
    expr_length _ p = omega arith

    pub args_length : (args : Exprs) (p : ℕ) → p + length (args_code classes texts p args) ≡ args_end classes p args
    args_length no_exprs p = omega arith
    args_length (more_exprs e rest) p =
        omega (arith, length-append {A = Step}, expr_length e p, args_length rest (expr_end classes p e))

  pub test_length : (until : Bool) (c : Expr) (place : Place) (p : ℕ)
      → p + length (test_code classes texts until p c place) ≡ test_end classes until p c
  test_length false c place p = expr_length c p
  test_length true c place p = omega (arith, length-append {A = Step}, expr_length c p)

  mutual
    pub stmt_length : (t : Stmt) (out again p : ℕ)
        → p + length (stmt_code classes texts out again p t) ≡ stmt_end classes p t
    stmt_length (Simple e place) out again p =
        omega (arith, length-append {A = Step}, expr_length e p)
    stmt_length (Block all) out again p = block_length all out again p
    stmt_length (Printing items kinds place) out again p =
        omega (arith, length-append {A = Step}, args_length items p)
    stmt_length (If c a b place) out again p =
        omega (
          arith,
          length-append {A = Step},
          expr_length c p,
          stmt_length a out again (expr_end classes p c + 1),
          stmt_length b out again (stmt_end classes (expr_end classes p c + 1) a + 1),
        )
    stmt_length (Loop until c body place) out again p =
        let first = test_end classes until p c + 1 + 1 in
        omega (
          arith,
          length-append {A = Step},
          test_length until c place p,
          stmt_length body (stmt_end classes first body + 1) p first,
        )
    stmt_length (LoopLast until body c place) out again p =
        let test = stmt_end classes (p + 1) body in
        omega (
          arith,
          length-append {A = Step},
          stmt_length body (test_end classes until test c + 1 + 1) test (p + 1),
          test_length until c place test,
        )
    stmt_length (For start c step body place) out again p =
        let test = stmt_end classes p start in
        let first = expr_end classes test c + 1 + 1 in
        let next = stmt_end classes first body in
        let end = stmt_end classes next step + 1 in
        omega (
          arith,
          length-append {A = Step},
          stmt_length start out again p,
          expr_length c test,
          stmt_length body end next first,
          stmt_length step end test next,
        )
    stmt_length (ForEver start step body place) out again p =
        let round = stmt_end classes p start in
        let next = stmt_end classes (round + 1) body in
        let end = stmt_end classes next step + 1 in
        omega (
          arith,
          length-append {A = Step},
          stmt_length start out again p,
          stmt_length body end next (round + 1),
          stmt_length step end round next,
        )
    stmt_length (Repeat count body place) out again p =
        let first = expr_end classes p count + 1 + 1 + 1 + 1 + 1 in
        let next = stmt_end classes first body in
        omega (
          arith,
          length-append {A = Step},
          expr_length count p,
          stmt_length body (next + 1 + 1 + 1) next first,
        )
    stmt_length (ForEach array local widens body place) out again p = omega arith
    stmt_length (Break place) out again p = refl
    stmt_length (Continue place) out again p = refl
    stmt_length (Return e place) out again p =
        omega (arith, length-append {A = Step}, expr_length e p)

    pub block_length : (all : Stmts) (out again p : ℕ)
        → p + length (block_code classes texts out again p all) ≡ block_end classes p all
    block_length no_stmts out again p = omega arith
    block_length (more_stmts t rest) out again p =
        omega (
          arith,
          length-append {A = Step},
          stmt_length t out again p,
          block_length rest out again (stmt_end classes p t),
        )

module _ (code : CodeParts) (f : ℕ) where
  -- the first steps, and those after them
  pub split : (a b : List Step) (p q : ℕ) → p + length a ≡ q → HasAt code f p (a ++ b)
      → (HasAt code f p a) × (HasAt code f q b)
  split [] b p q e h = let e1 : p ≡ q = omega arith in (tt, subst (λ n. HasAt code f n b) e1 h)
  split (i ∷ a) b p q e h =
      let e1 : p + 1 + length a ≡ q = omega arith in
      let rest = split a b (p + 1) q e1 h.1 in
      ((h.0, rest.0), rest.1)

module _ (classes : List Class) (texts : List (List ℕ)) (code : CodeParts) (f : ℕ) where
  pub split_expr : (e : Expr) (p : ℕ) (b : List Step) → HasAt code f p (expr_code classes texts p e ++ b)
      → (HasAt code f p (expr_code classes texts p e)) × (HasAt code f (expr_end classes p e) b)
  split_expr e p b h = split code f (expr_code classes texts p e) b p (expr_end classes p e)
      (expr_length classes texts e p) h

  pub split_args : (args : Exprs) (p : ℕ) (b : List Step) → HasAt code f p (args_code classes texts p args ++ b)
      → (HasAt code f p (args_code classes texts p args)) × (HasAt code f (args_end classes p args) b)
  split_args args p b h = split code f (args_code classes texts p args) b p (args_end classes p args)
      (args_length classes texts args p) h

  pub split_test : (until : Bool) (c : Expr) (place : Place) (p : ℕ) (b : List Step)
      → HasAt code f p (test_code classes texts until p c place ++ b)
      → (HasAt code f p (test_code classes texts until p c place)) × (HasAt code f (test_end classes until p c) b)
  split_test until c place p b h =
      split code f (test_code classes texts until p c place) b p (test_end classes until p c)
      (test_length classes texts until c place p) h

  pub split_stmt : (t : Stmt) (out again p : ℕ) (b : List Step)
      → HasAt code f p (stmt_code classes texts out again p t ++ b)
      → (HasAt code f p (stmt_code classes texts out again p t)) × (HasAt code f (stmt_end classes p t) b)
  split_stmt t out again p b h =
      split code f (stmt_code classes texts out again p t) b p (stmt_end classes p t)
      (stmt_length classes texts t out again p) h

-- all the steps of a function stand in it
pub stands_all : (code : CodeParts) (f : ℕ) (before steps : List Step)
    → steps_of (slice_get code.funs f) ≡ before ++ steps → HasAt code f (length before) steps
stands_all code f before [] e = tt
stands_all code f before (i ∷ is) e =
    let within : length before < length (before ++ i ∷ is) =
    omega (arith, length-append before (i ∷ is)) in
    let here =
    slice_get-get_or (before ++ i ∷ is) (length before) i within
    ∙ ap Some (get_or-append_seam before i is i) in
    let n : length (before ++ i ∷ []) ≡ length before + 1 =
    omega (arith, length-append before (i ∷ [])) in
    let more =
    stands_all code f (before ++ i ∷ []) is (e ∙ sym (append_assoc before (i ∷ []) is)) in
    (ap (λ l. slice_get l (length before)) e ∙ here, subst (λ m. HasAt code f m is) n more)

-- files -----------------------------------------------------------------------------------------

module _ (files : ℕ) where
  -- each step lies in one of so many files
  abbrev pub StepsLie : List Step → Type 0
  StepsLie [] = Unit {0}
  StepsLie (step ∷ steps) = LiesIn files step.place × StepsLie steps

  both_lie : (a b : List Step) → StepsLie a → StepsLie b → StepsLie (a ++ b)
  both_lie [] b h g = g
  both_lie (step ∷ a) b h g = (h.0, both_lie a b h.1 g)

  pub step_lies : (steps : List Step) → StepsLie steps → (p : ℕ) (step : Step)
      → slice_get steps p ≡ Some step → LiesIn files step.place
  step_lies [] h p step at = absurd (cc)
  step_lies (first ∷ steps) h zero step at =
      let is : first ≡ step = cc in subst (λ (s : Step). LiesIn files s.place) is h.0
  step_lies (first ∷ steps) h (suc p) step at = step_lies steps h.1 p step at

  -- the code of a tree lies where the tree does
  read_lies : (spot : Spot) (place : Place) → LiesIn files place → StepsLie (read_code spot place)
  read_lies (StaticOf i) place h = (h, (h, tt))
  read_lies _ place h = (h, tt)

  set_lies : (spot : Spot) (place : Place) → LiesIn files place → StepsLie (set_code spot place)
  set_lies (StaticOf i) place h = (h, (h, tt))
  set_lies _ place h = (h, tt)

  update_lies : (spot : Spot) (o : Op2) (place : Place) → LiesIn files place
      → StepsLie (update_code spot o place)
  update_lies (StaticOf i) o place h = (h, (h, tt))
  update_lies _ o place h = (h, tt)

  bodies_lie : (bodies : List ℕ) (place : Place) → LiesIn files place
      → StepsLie (bodies_code bodies place)
  bodies_lie [] place h = tt
  bodies_lie (f ∷ bodies) place h = (h, (h, (h, bodies_lie bodies place h)))

  leaf_lies : (o : OfNone) (place : Place) → LiesIn files place → StepsLie (leaf_code o place)
  leaf_lies leaf.Null place h = (h, tt)
  leaf_lies _ place h = search h

  unary_lies : (o : OfOne) (place : Place) → LiesIn files place → StepsLie (unary_code o place)
  unary_lies unary.WaitDur place h = (h, (h, tt))
  unary_lies _ place h = search h

  binary_lies : (o : OfTwo) (place : Place) → LiesIn files place → StepsLie (binary_code o place)
  binary_lies binary.Append place h = (h, tt)
  binary_lies _ place h = search h

  variadic_lies : (o : OfMany) (n : ℕ) (place : Place) → LiesIn files place
      → StepsLie (variadic_code o n place)
  variadic_lies (variadic.Read spot) n place h = read_lies spot place h
  variadic_lies _ n place h = (h, tt)

  module _ (classes : List Class) (texts : List (List ℕ)) where
    mutual
      expr_lies : (e : Expr) (p : ℕ) → ExprLies files e → StepsLie (expr_code classes texts p e)
      expr_lies (Leaf o place) p h = leaf_lies o place h
      expr_lies (Text bytes place) p h = (h, tt)
      expr_lies (Unary o a place) p h =
          both_lie _ _ (expr_lies a p h.0) (unary_lies o place h.1)
      expr_lies (Binary o a b place) p h =
          both_lie _ _ (expr_lies a p h.0)
          (both_lie _ _ (expr_lies b (expr_end classes p a) h.1) (binary_lies o place h.2))
      expr_lies (Variadic o operands place) p h =
          both_lie _ _ (args_lie operands p h.0) (variadic_lies o (count_of operands) place h.1)
      expr_lies (And a b place) p h =
          both_lie _ _ (expr_lies a p h.0)
          (h.2, both_lie _ _ (expr_lies b (expr_end classes p a + 1) h.1) (h.2, (h.2, (h.2, tt))))
      expr_lies (Or a b place) p h =
          let second = expr_end classes p a + 1 + 1 + 1 in
          both_lie _ _ (expr_lies a p h.0)
          (h.2, (h.2, (h.2, both_lie _ _ (expr_lies b second h.1) (h.2, tt))))
      expr_lies (Choice c a b place) p h =
          let first = expr_end classes p c + 1 in
          let second = expr_end classes first a + 1 in
          both_lie _ _ (expr_lies c p h.0)
          (h.3, both_lie _ _ (expr_lies a first h.1) (h.3, expr_lies b second h.2))
      expr_lies (Assign e spot address place) p h =
          both_lie _ _ (expr_lies e p h.0)
          (both_lie _ _ (args_lie address (expr_end classes p e) h.1) (set_lies spot place h.2))
      expr_lies (AssignDeclared e declaration spot address place) p h =
          let made = expr_end classes (expr_end classes p e) declaration in
          both_lie _ _ (expr_lies e p h.0)
          (both_lie _ _ (expr_lies declaration (expr_end classes p e) h.1)
          (h.3, both_lie _ _ (args_lie address (made + 1) h.2) (set_lies spot place h.3)))
      expr_lies (Update o e spot address place) p h =
          both_lie _ _ (expr_lies e p h.0)
          (both_lie _ _ (args_lie address (expr_end classes p e) h.1)
          (update_lies spot o place h.2))
      expr_lies (Prefix direction spot address place) p h = (
        h.1,
        both_lie _ _ (args_lie address (p + 1) h.0)
            (update_lies spot (step_of direction) place h.1),
      )
      expr_lies (Postfix direction spot address place) p h = (
        h.1,
        both_lie _ _ (args_lie address (p + 1) h.0)
            (both_lie _ _ (update_lies spot (step_of direction) place h.1) (h.1, (h.1, tt))),
      )
      expr_lies (Making c place) p h = (h, bodies_lie (bodies_of classes c) place h)
      expr_lies (NewObjects (elem.Class c) n constructor place) p h =
          let bodies = bodies_lie (bodies_of classes c) place h.1 in
          both_lie _ _ (expr_lies n p h.0)
          (h.1, (h.1, (h.1, (h.1, (h.1, both_lie _ _ bodies (h.1, (h.1, tt)))))))
      expr_lies (NewObjects (elem.Unit kind) n constructor place) p h =
          both_lie _ _ (expr_lies n p h.0)
          (h.1, (h.1, (h.1, (h.1, (h.1, (h.1, (h.1, tt)))))))
      expr_lies (Construct o f arguments place) p h = expr_lies o p h.0
      expr_lies (CallOf o f arguments place) p h =
          both_lie _ _ (expr_lies o p h.0)
          (h.2, both_lie _ _ (args_lie arguments (expr_end classes p o + 1) h.1) (h.2, tt))
      expr_lies (SporkOf o f arguments place) p h =
          both_lie _ _ (expr_lies o p h.0)
          (h.2, both_lie _ _ (args_lie arguments (expr_end classes p o + 1) h.1) (h.2, tt))
      expr_lies _ p h = tt

      args_lie : (args : Exprs) (p : ℕ) → ExprsLie files args
          → StepsLie (args_code classes texts p args)
      args_lie no_exprs p h = tt
      args_lie (more_exprs e rest) p h =
          both_lie _ _ (expr_lies e p h.0) (args_lie rest (expr_end classes p e) h.1)

    test_lies : (until : Bool) (c : Expr) (place : Place) (p : ℕ) → ExprLies files c
        → LiesIn files place → StepsLie (test_code classes texts until p c place)
    test_lies false c place p h g = expr_lies c p h
    test_lies true c place p h g = both_lie _ _ (expr_lies c p h) (g, tt)

    mutual
      stmt_lies : (t : Stmt) (out again p : ℕ) → StmtLies files t
          → StepsLie (stmt_code classes texts out again p t)
      stmt_lies (Simple e place) out again p h = both_lie _ _ (expr_lies e p h.0) (h.1, tt)
      stmt_lies (Block all) out again p h = block_lies all out again p h
      stmt_lies (Printing items kinds place) out again p h =
          both_lie _ _ (args_lie items p h.0) (h.1, tt)
      stmt_lies (If c a b place) out again p h =
          let first = expr_end classes p c + 1 in
          let second = stmt_end classes first a + 1 in
          both_lie _ _ (expr_lies c p h.0) (
            h.3,
            both_lie _ _ (stmt_lies a out again first h.1)
                (h.3, stmt_lies b out again second h.2),
          )
      stmt_lies (Loop until c body place) out again p h =
          let first = test_end classes until p c + 1 + 1 in
          let end = stmt_end classes first body + 1 in
          both_lie _ _ (test_lies until c place p h.0 h.2)
          (h.2, (h.2, both_lie _ _ (stmt_lies body end p first h.1) (h.2, tt)))
      stmt_lies (LoopLast until body c place) out again p h =
          let test = stmt_end classes (p + 1) body in
          let end = test_end classes until test c + 1 + 1 in (
            h.2,
            both_lie _ _ (stmt_lies body end test (p + 1) h.0)
                (both_lie _ _ (test_lies until c place test h.1 h.2) (h.2, (h.2, tt))),
          )
      stmt_lies (For start c step body place) out again p h =
          let test = stmt_end classes p start in
          let first = expr_end classes test c + 1 + 1 in
          let next = stmt_end classes first body in
          let end = stmt_end classes next step + 1 in
          both_lie _ _ (stmt_lies start out again p h.0) (both_lie _ _ (expr_lies c test h.1) (
            h.4,
            (
              h.4,
              both_lie _ _ (stmt_lies body end next first h.3)
                  (both_lie _ _ (stmt_lies step end test next h.2) (h.4, tt)),
            ),
          ))
      stmt_lies (ForEver start step body place) out again p h =
          let round = stmt_end classes p start in
          let next = stmt_end classes (round + 1) body in
          let end = stmt_end classes next step + 1 in
          both_lie _ _ (stmt_lies start out again p h.0) (
            h.3,
            both_lie _ _ (stmt_lies body end next (round + 1) h.2)
                (both_lie _ _ (stmt_lies step end round next h.1) (h.3, tt)),
          )
      stmt_lies (Repeat count body place) out again p h =
          let first = expr_end classes p count + 1 + 1 + 1 + 1 + 1 in
          let next = stmt_end classes first body in
          let round = stmt_lies body (next + 1 + 1 + 1) next first h.1 in
          both_lie _ _ (expr_lies count p h.0) (
            h.2,
            (h.2, (h.2, (h.2, (h.2, both_lie _ _ round (h.2, (h.2, (h.2, (h.2, tt)))))))),
          )
      stmt_lies (ForEach array local widens body place) out again p h = tt
      stmt_lies (Break place) out again p h = (h, tt)
      stmt_lies (Continue place) out again p h = (h, tt)
      stmt_lies (Return e place) out again p h = both_lie _ _ (expr_lies e p h.0) (h.1, tt)

      block_lies : (all : Stmts) (out again p : ℕ) → StmtsLie files all
          → StepsLie (block_code classes texts out again p all)
      block_lies no_stmts out again p h = tt
      block_lies (more_stmts t rest) out again p h =
          both_lie _ _ (stmt_lies t out again p h.0)
          (block_lies rest out again (stmt_end classes p t) h.1)

    pub fun_lies : (fn : Fun) → FunLies files fn
        → StepsLie (body_code classes texts fn.body fn.result fn.place)
    fun_lies fn h = both_lie _ _ (stmt_lies fn.body 0 0 0 h.0) (h.1, (h.1, tt))
