-- The code of a tree is a piece: each of its jumps back has a turn between.
use Rattle.std.proofs.Common.{rules, ◌≡◌, ℕ, ◌+◌, List, [], ◌∷◌, ◌++◌, length, Some, refl, sym, subst, arith, Bool, true, false}
use Rattle.std.specs.Prelude.{slice_get}
use Rattle.ck_values.specs.declared.kind.Elem.TheVariants as elem
use Rattle.ck_values.specs.declared.operator.Op2.{Op2}
use Rattle.ck_values.specs.declared.trap.Place.{Place}
use Rattle.ck_meaning.specs.Meaning.{step_of}
use Rattle.ck_store.specs.Objects.{bodies_of}
use Rattle.ck_typed.specs.declared.class.Class.{Class}
use Rattle.ck_typed.specs.declared.expr.Spot.{Spot}
use Rattle.ck_typed.specs.declared.expr.Spot.TheVariants.{StaticOf}
use Rattle.ck_typed.specs.WellFormed.{FoundWhere}
use Rattle.ck_typed.specs.declared.operation.Leaf.{Leaf as OfNone}
use Rattle.ck_typed.specs.declared.operation.Leaf.TheVariants as op0
use Rattle.ck_typed.specs.declared.operation.Unary.{Unary as OfOne}
use Rattle.ck_typed.specs.declared.operation.Unary.TheVariants as op1
use Rattle.ck_typed.specs.declared.operation.Binary.{Binary as OfTwo}
use Rattle.ck_typed.specs.declared.operation.Binary.TheVariants as op2
use Rattle.ck_typed.specs.declared.operation.Variadic.{Variadic as OfMany}
use Rattle.ck_typed.specs.declared.operation.Variadic.TheVariants as opn
use Rattle.ck_typed.specs.Tree.{Expr, Exprs, no_exprs, more_exprs, Leaf, Text, Unary, Binary, Variadic, And, Or, Choice, Assign, AssignDeclared, Update, Prefix, Postfix, New as Making, NewObjects, Construct, CallOf, SporkOf, Stmt, Stmts, no_stmts, more_stmts, Simple, Block, Print as Printing, If, Loop, LoopLast, For, ForEver, Repeat, ForEach, Break, Continue, Return, Program}
use Rattle.ck_code.specs.declared.instr.Instr.TheVariants.{Turn}
use Rattle.ck_code.specs.declared.code.Step.{Step}
use Rattle.ck_code.specs.Verified.{JumpsTo}
use Rattle.ck_scheme.specs.Scheme.{at, bodies_code, bodies_end, count_of, read_code, set_code, update_code, spot_end, expr_end, args_end, expr_code, args_code, test_end, test_code, stmt_end, block_end, stmt_code, block_code}
use Rattle.ck_scheme.specs.Tails.{leaf_code, leaf_end, unary_code, unary_end, binary_code, binary_end, variadic_code, variadic_end}
use Rattle.ck_scheme.proofs.Stands.{set_length, update_length, bodies_length, leaf_length, unary_length, binary_length, variadic_length, expr_length, args_length, test_length, stmt_length}
use Rattle.code_laws.proofs.Shapes.{ShapedStmt, ShapedStmts}
use Rattle.code_laws.proofs.Pieces.{At, at_split, one_jump, Piece, Closed, lifted, nothing, plain, breaks, continues, joined, chosen, looped}
use Rattle.code_laws.proofs.Loops.{contained, looped_first}

module _ (classes : List Class) (texts : List (List ℕ)) (w : List Step) where
  cut : (e : Expr) (b : List Step) (p : ℕ) → At w p (expr_code classes texts p e ++ b)
      → (At w p (expr_code classes texts p e)) × (At w (expr_end classes p e) b)
  cut e b p h = at_split w (expr_code classes texts p e) b p (expr_end classes p e) (expr_length classes texts e p) h

  cut_args : (args : Exprs) (b : List Step) (p : ℕ) → At w p (args_code classes texts p args ++ b)
      → (At w p (args_code classes texts p args)) × (At w (args_end classes p args) b)
  cut_args args b p h = at_split w (args_code classes texts p args) b p (args_end classes p args)
      (args_length classes texts args p) h

  cut_stmt : (t : Stmt) (out again p : ℕ) (b : List Step) → At w p (stmt_code classes texts out again p t ++ b)
      → (At w p (stmt_code classes texts out again p t)) × (At w (stmt_end classes p t) b)
  cut_stmt t out again p b h =
      at_split w (stmt_code classes texts out again p t) b p (stmt_end classes p t)
      (stmt_length classes texts t out again p) h

  -- a turn stands at a place
  turn_at : (p : ℕ) (place : Place) → slice_get w p ≡ Some (at Turn place)
      → FoundWhere (slice_get w p) (λ step. step.instr ≡ Turn)
  turn_at p place is = subst (λ o. FoundWhere o (λ step. step.instr ≡ Turn)) (sym is) refl

  -- a step that doesn't jump
  still : (in_loop : Bool) (out again p : ℕ) (step : Step) → slice_get w p ≡ Some step
      → ((to : ℕ) → JumpsTo step.instr to → ⊥) → Piece w in_loop out again p (p + 1)
  still in_loop out again p step is none =
      plain w in_loop out again p (λ to j. none to (one_jump w p to step is j))

  -- one after the other
  both : (p q r : ℕ) → Closed w p q → Closed w q r → Closed w p r
  both p q r h g = joined w false 0 0 p q r h g

  -- steps of which none jumps
  abbrev AllStill : List Step → Type 0
  AllStill [] = Unit {0}
  AllStill (step ∷ steps) = ((to : ℕ) → JumpsTo step.instr to → ⊥) × AllStill steps

  still_piece : (steps : List Step) (p q : ℕ) → p + length steps ≡ q → AllStill steps → At w p steps
      → Closed w p q
  still_piece [] p q e none h =
      let e1 : p ≡ q = omega arith in
      subst (λ n. Closed w p n) e1 (nothing w false 0 0 p)
  still_piece (step ∷ steps) p q e none h =
      let e1 : p + 1 + length steps ≡ q = omega arith in
      both p (p + 1) q (still false 0 0 p step h.0 none.0)
      (still_piece steps (p + 1) q e1 none.1 h.1)

  -- what reads, sets or updates a spot
  read_still : (spot : Spot) (place : Place) → AllStill (read_code spot place)
  read_still (StaticOf i) place = ((λ to j. j), ((λ to j. j), tt))
  read_still _ place = ((λ to j. j), tt)

  set_still : (spot : Spot) (place : Place) → AllStill (set_code spot place)
  set_still (StaticOf i) place = ((λ to j. j), ((λ to j. j), tt))
  set_still _ place = ((λ to j. j), tt)

  update_still : (spot : Spot) (o : Op2) (place : Place) → AllStill (update_code spot o place)
  update_still (StaticOf i) o place = ((λ to j. j), ((λ to j. j), tt))
  update_still _ o place = ((λ to j. j), tt)

  set_piece : (spot : Spot) (place : Place) (p : ℕ) → At w p (set_code spot place)
      → Closed w p (spot_end p spot)
  set_piece spot place p h =
      still_piece (set_code spot place) p (spot_end p spot) (set_length spot place p)
      (set_still spot place) h

  update_piece : (spot : Spot) (o : Op2) (place : Place) (p : ℕ) → At w p (update_code spot o place)
      → Closed w p (spot_end p spot)
  update_piece spot o place p h =
      still_piece (update_code spot o place) p (spot_end p spot) (update_length spot o place p)
      (update_still spot o place) h

  -- an operation, after its operands
  leaf_still : (o : OfNone) (place : Place) → AllStill (leaf_code o place)
  leaf_still op0.Null place = ((λ to j. j), tt)
  leaf_still _ place = search rules

  unary_still : (o : OfOne) (place : Place) → AllStill (unary_code o place)
  unary_still op1.WaitDur place = ((λ to j. j), ((λ to j. j), tt))
  unary_still _ place = search rules

  binary_still : (o : OfTwo) (place : Place) → AllStill (binary_code o place)
  binary_still op2.Append place = ((λ to j. j), tt)
  binary_still _ place = search rules

  variadic_still : (o : OfMany) (n : ℕ) (place : Place) → AllStill (variadic_code o n place)
  variadic_still (opn.Read spot) n place = read_still spot place
  variadic_still _ n place = ((λ to j. j), tt)

  bodies_piece : (bodies : List ℕ) (place : Place) (p : ℕ) → At w p (bodies_code bodies place)
      → Closed w p (bodies_end p bodies)
  bodies_piece [] place p h = nothing w false 0 0 p
  bodies_piece (f ∷ bodies) place p h =
      both p _ _ (plain w false 0 0 p (λ to j. one_jump w p to _ h.0 j)) (both _ _ _
      (plain w false 0 0 (p + 1) (λ to j. one_jump w (p + 1) to _ h.1.0 j)) (both _ _ _
      (plain w false 0 0 (p + 1 + 1) (λ to j. one_jump w (p + 1 + 1) to _ h.1.1.0 j))
      (bodies_piece bodies place (p + 1 + 1 + 1) h.1.1.1)))

  mutual
    expr_piece : (e : Expr) (p : ℕ) → At w p (expr_code classes texts p e) → Closed w p (expr_end classes p e)
    expr_piece (Leaf o place) p h =
        still_piece (leaf_code o place) p (leaf_end p o) (leaf_length o place p)
        (leaf_still o place) h
    expr_piece (Text bytes place) p h = plain w false 0 0 p (λ to j. one_jump w p to _ h.0 j)
    expr_piece (Unary o a place) p h =
        let c = cut a _ p h in
        let q = expr_end classes p a in
        both p q _ (expr_piece a p c.0) (still_piece (unary_code o place) q (unary_end q o)
        (unary_length o place q) (unary_still o place) c.1)
    expr_piece (Binary o a b place) p h =
        let ca = cut a _ p h in
        let m = expr_end classes p a in
        let cb = cut b _ m ca.1 in
        let q = expr_end classes m b in
        both p m _ (expr_piece a p ca.0) (both m q _ (expr_piece b m cb.0)
        (still_piece (binary_code o place) q (binary_end q o) (binary_length o place q)
        (binary_still o place) cb.1))
    expr_piece (Variadic o operands place) p h =
        let c = cut_args operands _ p h in
        let q = args_end classes p operands in
        let n = count_of operands in
        both p q _ (args_piece operands p c.0) (still_piece (variadic_code o n place) q
        (variadic_end q o) (variadic_length o n place q) (variadic_still o n place) c.1)
    expr_piece (And a b place) p h =
        let ha = cut a _ p h in
        let m = expr_end classes p a in
        let hb = cut b _ (m + 1) ha.1.1 in
        let q = expr_end classes (m + 1) b in
        let first =
        both (m + 1) q (q + 1) (expr_piece b (m + 1) hb.0)
        (plain w false 0 0 q (λ to j. one_jump w q to _ hb.1.0 j)) in
        let second =
        plain w false 0 0 (q + 1 + 1) (λ to j. one_jump w (q + 1 + 1) to _ hb.1.1.1.0 j) in
        chosen w false 0 0 p m (q + 1) _ (expr_piece a p ha.0) first second
        (λ to j. one_jump w m to _ ha.1.0 j) (λ to j. one_jump w (q + 1) to _ hb.1.1.0 j)
    expr_piece (Or a b place) p h =
        let ha = cut a _ p h in
        let m = expr_end classes p a in
        let second = m + 1 + 1 + 1 in
        let hb = cut b _ second ha.1.1.1.1 in
        let q = expr_end classes second b in
        let one = plain w false 0 0 (m + 1) (λ to j. one_jump w (m + 1) to _ ha.1.1.0 j) in
        let other =
        both second q (q + 1) (expr_piece b second hb.0)
        (plain w false 0 0 q (λ to j. one_jump w q to _ hb.1.0 j)) in
        chosen w false 0 0 p m (m + 1 + 1) _ (expr_piece a p ha.0) one other
        (λ to j. one_jump w m to _ ha.1.0 j) (λ to j. one_jump w (m + 1 + 1) to _ ha.1.1.1.0 j)
    expr_piece (Choice c a b place) p h =
        let hc = cut c _ p h in
        let first = expr_end classes p c + 1 in
        let ha = cut a _ first hc.1.1 in
        chosen w false 0 0 p (expr_end classes p c) (expr_end classes first a) _ (expr_piece c p hc.0)
        (expr_piece a first ha.0) (expr_piece b (expr_end classes first a + 1) ha.1.1)
        (λ to j. one_jump w _ to _ hc.1.0 j) (λ to j. one_jump w _ to _ ha.1.0 j)
    expr_piece (Assign e spot address place) p h =
        let ce = cut e _ p h in
        let c = cut_args address _ (expr_end classes p e) ce.1 in
        both p _ _ (expr_piece e p ce.0) (both _ _ _ (args_piece address _ c.0)
        (set_piece spot place _ c.1))
    expr_piece (AssignDeclared e declaration spot address place) p h =
        let ce = cut e _ p h in
        let cd = cut declaration _ (expr_end classes p e) ce.1 in
        let made = expr_end classes (expr_end classes p e) declaration in
        let c = cut_args address _ (made + 1) cd.1.1 in
        both p _ _ (expr_piece e p ce.0) (both _ _ _ (expr_piece declaration _ cd.0) (both _ _ _
        (plain w false 0 0 made (λ to j. one_jump w made to _ cd.1.0 j))
        (both _ _ _ (args_piece address (made + 1) c.0) (set_piece spot place _ c.1))))
    expr_piece (Update o e spot address place) p h =
        let ce = cut e _ p h in
        let c = cut_args address _ (expr_end classes p e) ce.1 in
        both p _ _ (expr_piece e p ce.0) (both _ _ _ (args_piece address _ c.0)
        (update_piece spot o place _ c.1))
    expr_piece (Prefix direction spot address place) p h =
        let c = cut_args address _ (p + 1) h.1 in
        both p (p + 1) _ (plain w false 0 0 p (λ to j. one_jump w p to _ h.0 j))
        (both _ _ _ (args_piece address (p + 1) c.0)
        (update_piece spot (step_of direction) place _ c.1))
    expr_piece (Postfix direction spot address place) p h =
        let c = cut_args address _ (p + 1) h.1 in
        let q = args_end classes (p + 1) address in
        let r = spot_end q spot in
        let u = at_split w (update_code spot (step_of direction) place) _ q r
        (update_length spot (step_of direction) place q) c.1 in
        both p (p + 1) _ (plain w false 0 0 p (λ to j. one_jump w p to _ h.0 j))
        (both _ _ _ (args_piece address (p + 1) c.0)
        (both q r _ (update_piece spot (step_of direction) place q u.0) (both r (r + 1) _
        (plain w false 0 0 r (λ to j. one_jump w r to _ u.1.0 j))
        (plain w false 0 0 (r + 1) (λ to j. one_jump w (r + 1) to _ u.1.1.0 j)))))
    expr_piece (Making c place) p h =
        both p (p + 1) _ (plain w false 0 0 p (λ to j. one_jump w p to _ h.0 j))
        (bodies_piece (bodies_of classes c) place (p + 1) h.1)
    expr_piece (NewObjects (elem.Class c) n constructor place) p h =
        let hn = cut n _ p h in
        let q = expr_end classes p n in
        let round = q + 1 + 1 in
        let first = round + 1 + 1 in
        let bodies = bodies_of classes c in
        let fill = bodies_end (first + 1) bodies in
        let last = fill + 1 in
        let hb = at_split w (bodies_code bodies place) _ (first + 1) fill
        (bodies_length bodies place (first + 1)) hn.1.1.1.1.1.1 in
        let body : Closed w first last =
        both first (first + 1) last
        (plain w false 0 0 first (λ to j. one_jump w first to _ hn.1.1.1.1.1.0 j))
        (both (first + 1) fill last (bodies_piece bodies place (first + 1) hb.0)
        (plain w false 0 0 fill (λ to j. one_jump w fill to _ hb.1.0 j))) in
        both p q _ (expr_piece n p hn.0)
        (both q (q + 1) _ (plain w false 0 0 q (λ to j. one_jump w q to _ hn.1.0 j))
        (both (q + 1) round _
        (plain w false 0 0 (q + 1) (λ to j. one_jump w (q + 1) to _ hn.1.1.0 j))
        (looped w false 0 0 round round last (nothing w false 0 0 round)
        (lifted w true (last + 1) round first last body)
        (λ to j. one_jump w round to _ hn.1.1.1.0 j) (turn_at (round + 1) place hn.1.1.1.1.0)
        (λ to j. one_jump w (round + 1) to _ hn.1.1.1.1.0 j)
        (λ to j. one_jump w last to _ hb.1.1.0 j))))
    expr_piece (NewObjects (elem.Unit kind) n constructor place) p h =
        let hn = cut n _ p h in
        let q = expr_end classes p n in
        let round = q + 1 + 1 in
        let first = round + 1 + 1 in
        let last = first + 1 + 1 in
        let body : Closed w first last =
        both first (first + 1) last
        (plain w false 0 0 first (λ to j. one_jump w first to _ hn.1.1.1.1.1.0 j))
        (plain w false 0 0 (first + 1) (λ to j. one_jump w (first + 1) to _ hn.1.1.1.1.1.1.0 j)) in
        both p q _ (expr_piece n p hn.0)
        (both q (q + 1) _ (plain w false 0 0 q (λ to j. one_jump w q to _ hn.1.0 j))
        (both (q + 1) round _
        (plain w false 0 0 (q + 1) (λ to j. one_jump w (q + 1) to _ hn.1.1.0 j))
        (looped w false 0 0 round round last (nothing w false 0 0 round)
        (lifted w true (last + 1) round first last body)
        (λ to j. one_jump w round to _ hn.1.1.1.0 j) (turn_at (round + 1) place hn.1.1.1.1.0)
        (λ to j. one_jump w (round + 1) to _ hn.1.1.1.1.0 j)
        (λ to j. one_jump w last to _ hn.1.1.1.1.1.1.1.0 j))))
    expr_piece (Construct o f arguments place) p h = expr_piece o p h
    expr_piece (CallOf o f arguments place) p h =
        let co = cut o _ p h in
        let m = expr_end classes p o in
        let c = cut_args arguments _ (m + 1) co.1.1 in
        both p _ _ (expr_piece o p co.0) (both m (m + 1) _
        (plain w false 0 0 m (λ to j. one_jump w m to _ co.1.0 j))
        (both _ _ _ (args_piece arguments (m + 1) c.0)
        (plain w false 0 0 _ (λ to j. one_jump w _ to _ c.1.0 j))))
    expr_piece (SporkOf o f arguments place) p h =
        let co = cut o _ p h in
        let m = expr_end classes p o in
        let c = cut_args arguments _ (m + 1) co.1.1 in
        both p _ _ (expr_piece o p co.0) (both m (m + 1) _
        (plain w false 0 0 m (λ to j. one_jump w m to _ co.1.0 j))
        (both _ _ _ (args_piece arguments (m + 1) c.0)
        (plain w false 0 0 _ (λ to j. one_jump w _ to _ c.1.0 j))))
    expr_piece _ p h = nothing w false 0 0 p

    args_piece : (args : Exprs) (p : ℕ) → At w p (args_code classes texts p args) → Closed w p (args_end classes p args)
    args_piece no_exprs p h = nothing w false 0 0 p
    args_piece (more_exprs e rest) p h = let c =
        cut e _ p h in both p _ _ (expr_piece e p c.0) (args_piece rest _ c.1)

  -- a loop's test
  cut_test : (until : Bool) (c : Expr) (place : Place) (b : List Step) (p : ℕ)
      → At w p (test_code classes texts until p c place ++ b)
      → (At w p (test_code classes texts until p c place)) × (At w (test_end classes until p c) b)
  cut_test until c place b p h =
      at_split w (test_code classes texts until p c place) b p (test_end classes until p c)
      (test_length classes texts until c place p) h

  test_piece : (until : Bool) (c : Expr) (place : Place) (p : ℕ)
      → At w p (test_code classes texts until p c place) → Closed w p (test_end classes until p c)
  test_piece false c place p h = expr_piece c p h
  test_piece true c place p h =
      let hc = cut c _ p h in
      let m = expr_end classes p c in
      both p m (m + 1) (expr_piece c p hc.0) (still false 0 0 m _ hc.1.0 (λ to j. j))

  module _ (program : Program) where
    mutual
      pub stmt_piece : (t : Stmt) (in_loop : Bool) → ShapedStmt program in_loop t
          → (out again p : ℕ) → At w p (stmt_code classes texts out again p t)
          → Piece w in_loop out again p (stmt_end classes p t)
      stmt_piece (Simple e place) in_loop shaped out again p h =
          let c = cut e _ p h in
          joined w in_loop out again p (expr_end classes p e) _
          (lifted w in_loop out again p _ (expr_piece e p c.0))
          (plain w in_loop out again (expr_end classes p e) (λ to j.
          one_jump w (expr_end classes p e) to _ c.1.0 j))
      stmt_piece (Block all) in_loop shaped out again p h =
          block_piece all in_loop shaped out again p h
      stmt_piece (Printing items kinds place) in_loop shaped out again p h =
          let c = cut_args items _ p h in
          let q = args_end classes p items in
          joined w in_loop out again p q _ (lifted w in_loop out again p _ (args_piece items p c.0))
          (plain w in_loop out again q (λ to j. one_jump w q to _ c.1.0 j))
      stmt_piece (If c a b place) in_loop shaped out again p h =
          let hc = cut c _ p h in
          let first = expr_end classes p c + 1 in
          let ha = cut_stmt a out again first _ hc.1.1 in
          chosen w in_loop out again p (expr_end classes p c) (stmt_end classes first a) _ (expr_piece c p hc.0)
          (stmt_piece a in_loop shaped.1 out again first ha.0)
          (stmt_piece b in_loop shaped.2 out again (stmt_end classes first a + 1) ha.1.1)
          (λ to j. one_jump w _ to _ hc.1.0 j) (λ to j. one_jump w _ to _ ha.1.0 j)
      stmt_piece (Loop until c body place) in_loop shaped out again p h =
          let hc = cut_test until c place _ p h in
          let m = test_end classes until p c in
          let first = m + 1 + 1 in
          let last = stmt_end classes first body in
          let hb = cut_stmt body (last + 1) p first _ hc.1.1.1 in
          looped w in_loop out again p m last (test_piece until c place p hc.0)
          (stmt_piece body true shaped.1 (last + 1) p first hb.0)
          (λ to j. one_jump w m to _ hc.1.0 j) (turn_at (m + 1) place hc.1.1.0) (λ to j.
          one_jump w (m + 1) to _ hc.1.1.0 j) (λ to j. one_jump w last to _ hb.1.0 j)
      stmt_piece (LoopLast until body c place) in_loop shaped out again p h =
          let test = stmt_end classes (p + 1) body in
          let m = test_end classes until test c in
          let e = m + 1 + 1 in
          let hb = cut_stmt body e test (p + 1) _ h.1 in
          let hc = cut_test until c place _ test hb.1 in
          let inner =
          joined w true e p (p + 1) test (m + 1)
          (contained w e p (p + 1) test (stmt_piece body true shaped.1 e test (p + 1) hb.0))
          (joined w true e p test m (m + 1)
          (lifted w true e p test m (test_piece until c place test hc.0))
          (breaks w e p m (λ to j. one_jump w m to _ hc.1.0 j))) in
          looped_first w in_loop out again p (m + 1) (turn_at p place h.0)
          (λ to j. one_jump w p to _ h.0 j) inner (λ to j. one_jump w (m + 1) to _ hc.1.1.0 j)
      stmt_piece (For start c step body place) in_loop shaped out again p h =
          let test = stmt_end classes p start in
          let m = expr_end classes test c in
          let first = m + 1 + 1 in
          let between = stmt_end classes first body in
          let last = stmt_end classes between step in
          let e = last + 1 in
          let hs = cut_stmt start out again p _ h in
          let hc = cut c _ test hs.1 in
          let hb = cut_stmt body e between first _ hc.1.1.1 in
          let hn = cut_stmt step e test between _ hb.1 in
          let inner =
          joined w true e test first between last
          (contained w e test first between
          (stmt_piece body true shaped.3 e between first hb.0))
          (stmt_piece step true shaped.2 e test between hn.0) in
          joined w in_loop out again p test e
          (stmt_piece start in_loop shaped.1 out again p hs.0)
          (looped w in_loop out again test m last (expr_piece c test hc.0) inner
          (λ to j. one_jump w m to _ hc.1.0 j) (turn_at (m + 1) place hc.1.1.0)
          (λ to j. one_jump w (m + 1) to _ hc.1.1.0 j) (λ to j. one_jump w last to _ hn.1.0 j))
      stmt_piece (ForEver start step body place) in_loop shaped out again p h =
          let round = stmt_end classes p start in
          let between = stmt_end classes (round + 1) body in
          let last = stmt_end classes between step in
          let e = last + 1 in
          let hs = cut_stmt start out again p _ h in
          let hb = cut_stmt body e between (round + 1) _ hs.1.1 in
          let hn = cut_stmt step e round between _ hb.1 in
          let inner =
          joined w true e round (round + 1) between last
          (contained w e round (round + 1) between
          (stmt_piece body true shaped.2 e between (round + 1) hb.0))
          (stmt_piece step true shaped.1 e round between hn.0) in
          joined w in_loop out again p round e
          (stmt_piece start in_loop shaped.0 out again p hs.0)
          (looped_first w in_loop out again round last (turn_at round place hs.1.0)
          (λ to j. one_jump w round to _ hs.1.0 j) inner (λ to j. one_jump w last to _ hn.1.0 j))
      stmt_piece (Repeat count body place) in_loop shaped out again p h =
          let hc = cut count _ p h in
          let round = expr_end classes p count in
          let m = round + 1 + 1 + 1 in
          let first = m + 1 + 1 in
          let between = stmt_end classes first body in
          let last = between + 1 + 1 in
          let e = last + 1 in
          let hb = cut_stmt body e between first _ hc.1.1.1.1.1.1 in
          let test : Closed w round m =
          both round (round + 1) m (still false 0 0 round _ hc.1.0 (λ to j. j))
          (both (round + 1) (round + 1 + 1) m (still false 0 0 (round + 1) _ hc.1.1.0 (λ to j. j))
          (still false 0 0 (round + 1 + 1) _ hc.1.1.1.0 (λ to j. j))) in
          let fewer : Closed w between last =
          both between (between + 1) last (still false 0 0 between _ hb.1.0 (λ to j. j))
          (still false 0 0 (between + 1) _ hb.1.1.0 (λ to j. j)) in
          let inner =
          joined w true e round first between last
          (contained w e round first between
          (stmt_piece body true shaped.1 e between first hb.0))
          (lifted w true e round between last fewer) in
          joined w in_loop out again p round (e + 1)
          (lifted w in_loop out again p round (expr_piece count p hc.0))
          (joined w in_loop out again round e (e + 1)
          (looped w in_loop out again round m last test inner
          (λ to j. one_jump w m to _ hc.1.1.1.1.0 j) (turn_at (m + 1) place hc.1.1.1.1.1.0)
          (λ to j. one_jump w (m + 1) to _ hc.1.1.1.1.1.0 j)
          (λ to j. one_jump w last to _ hb.1.1.1.0 j))
          (still in_loop out again e _ hb.1.1.1.1.0 (λ to j. j)))
      stmt_piece (ForEach array local widens body place) in_loop shaped out again p h = nothing w in_loop out again p
      stmt_piece (Break place) in_loop shaped out again p h =
          subst (λ b. Piece w b out again p (p + 1)) (sym shaped)
          (breaks w out again p (λ to j. one_jump w p to _ h.0 j))
      stmt_piece (Continue place) in_loop shaped out again p h =
          subst (λ b. Piece w b out again p (p + 1)) (sym shaped)
          (continues w out again p (λ to j. one_jump w p to _ h.0 j))
      stmt_piece (Return e place) in_loop shaped out again p h =
          let c = cut e _ p h in
          joined w in_loop out again p (expr_end classes p e) _
          (lifted w in_loop out again p _ (expr_piece e p c.0))
          (plain w in_loop out again (expr_end classes p e) (λ to j.
          one_jump w (expr_end classes p e) to _ c.1.0 j))

      block_piece : (all : Stmts) (in_loop : Bool) → ShapedStmts program in_loop all
          → (out again p : ℕ) → At w p (block_code classes texts out again p all)
          → Piece w in_loop out again p (block_end classes p all)
      block_piece no_stmts in_loop shaped out again p h = nothing w in_loop out again p
      block_piece (more_stmts t rest) in_loop shaped out again p h =
          let c = cut_stmt t out again p _ h in
          joined w in_loop out again p (stmt_end classes p t) _
          (stmt_piece t in_loop shaped.0 out again p c.0)
          (block_piece rest in_loop shaped.1 out again (stmt_end classes p t) c.1)
