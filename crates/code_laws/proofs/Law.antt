-- The code of a statement does what the statement does.
use Rattle.std.proofs.Common.{◌≡◌, ℕ, ◌+◌, ◌<◌, List, ◌∷◌, length, refl, sym, Bool, true, false, ◌∙◌, arith}
use Rattle.ck_values.specs.Datum.{Datum}
use Rattle.ck_values.specs.declared.trap.Place.{Place}
use Rattle.ck_typed.specs.declared.class.Class.{Class}
use Rattle.ck_typed.specs.Tree.{Expr, Stmt, Stmts, no_stmts, more_stmts, Simple, Block, Print as Printing, If, Loop, LoopLast, For, ForEver, Repeat, ForEach, Break, Continue, Return as Returning, Program}
use Rattle.ck_code.specs.declared.code.CodeParts.{CodeParts}
use Rattle.ck_code.specs.Machine.{Frame, frame}
use Rattle.ck_meaning.specs.Outcome.{Point}
use Rattle.ck_meaning.specs.Meaning.{Calls, Setting, setting, eval, test_of, stepped, exec, exec_all}
use Rattle.ck_scheme.specs.Texts.{texts_of}
use Rattle.ck_scheme.specs.Scheme.{count_of, test_end, test_code, expr_end, args_end, stmt_end, block_end, stmt_code, block_code}
use Rattle.ck_scheme.proofs.Stands.{HasAt, split_test, split_expr, split_args, split_stmt}
use Rattle.code_laws.proofs.Lands.{Land, Within, no_way, goes, stays, here, then, then_of, does, after_try, picked, next, onward, and_next}
use Rattle.code_laws.proofs.Rounds.{exits, rounds_land, not_lands, stepped_lands, rounds_first_land, endless_land, rounds_left_land}
use Rattle.code_laws.proofs.Shapes.{Shaped, ShapedStmt, ShapedStmts}
use Rattle.code_laws.proofs.ExprLaw.{CallLaw, counted, print_lands, eval_lands, eval_all_lands}

module _ (code : CodeParts) (program : Program) (tables : code.classes ≡ program.classes)
    (strings : code.texts ≡ texts_of program) (n bound : ℕ) (call : Calls)
    (calls : CallLaw code program n bound call) (f : ℕ) (rest : List Frame) where
  abbrev scheme : List Class
  scheme = program.classes

  -- a loop's test
  test_lands : (until : Bool) (c : Expr) (place : Place) → Shaped program c → (k p : ℕ) → k < bound
      → (ops : List Datum) (pt : Point) → Within k pt
      → HasAt code f p (test_code scheme (texts_of program) until p c place)
      → Land code n k (λ v l. frame f (test_end scheme until p c) l (v ∷ ops) ∷ rest) no_way
      (frame f p pt.locals ops ∷ rest) pt.state pt.stores
      (test_of until place (eval (setting program n bound call (length rest)) c pt))
  test_lands false c place shaped k p lt ops pt le has =
      eval_lands code program tables strings n bound call calls f rest c shaped k p lt ops pt le has
  test_lands true c place shaped k p lt ops pt le has =
      let h = split_expr scheme (texts_of program) code f c p _ has in
      not_lands code n f rest k (expr_end scheme p c) place ops _ pt.state pt.stores
      (eval (setting program n bound call (length rest)) c pt) h.1.0
      (eval_lands code program tables strings n bound call calls f rest c shaped k p lt ops pt le h.0)

  mutual
    -- a statement's code ends with the operands beneath, or where it is left
    pub exec_lands : (t : Stmt) (in_loop : Bool) → ShapedStmt program in_loop t
        → (out again k p : ℕ) → k < bound → (ops : List Datum) (pt : Point) → Within k pt
        → HasAt code f p (stmt_code scheme (texts_of program) out again p t)
        → Land code n k (λ v l. frame f (stmt_end scheme p t) l ops
        ∷ rest) (exits code n f rest in_loop out again ops) (frame f p pt.locals ops
        ∷ rest) pt.state pt.stores (exec (setting program n bound call (length rest)) t pt)
    exec_lands (Simple e place) in_loop shaped out again k p lt ops pt le has =
        let h = split_expr scheme (texts_of program) code f e p _ has in
        then (eval_lands code program tables strings n bound call calls f rest e shaped k p lt ops pt le h.0)
        (λ v pt1 le1. next (does h.1.0) (here tt pt1 le1))
    exec_lands (Block all) in_loop shaped out again k p lt ops pt le has =
        exec_all_lands all in_loop shaped out again k p lt ops pt le has
    exec_lands (Printing items kinds place) in_loop shaped out again k p lt ops pt le has =
        let h = split_args scheme (texts_of program) code f items p _ has in
        let se : Setting = setting program n bound call (length rest) in
        then_of (λ vs. length vs ≡ count_of items) (counted se items pt)
        (eval_all_lands code program tables strings n bound call calls f rest items shaped.1 k p lt ops pt le
        h.0) (λ vs pt1 same le1.
        print_lands code program tables strings n bound call calls f rest kinds vs place _ k
        (args_end scheme p items) ops pt1 (sym (same ∙ shaped.0)) le1 h.1.0)
    exec_lands (If c a b place) in_loop shaped out again k p lt ops pt le has =
        let h = split_expr scheme (texts_of program) code f c p _ has in
        let h2 = split_stmt scheme (texts_of program) code f a out again (expr_end scheme p c + 1) _ h.1.1 in
        then (eval_lands code program tables strings n bound call calls f rest c shaped.0 k p lt ops pt le h.0)
        (λ v pt1 le1. after_try _ _ _ (does h.1.0) (λ is d0. picked is d0
        (λ d. next d (exec_lands b in_loop shaped.2 out again k
        (stmt_end scheme (expr_end scheme p c + 1) a + 1) lt ops pt1 le1 h2.1.1))
        (λ d. next d (onward (exec_lands a in_loop shaped.1 out again k
        (expr_end scheme p c + 1) lt ops pt1 le1 h2.0) (λ v pt2. goes (does h2.1.0))))))
    exec_lands (Loop until c body place) in_loop shaped out again k p lt ops pt le has =
        let h = split_test scheme (texts_of program) code f until c place p _ has in
        let mid = test_end scheme until p c in
        let last = stmt_end scheme (mid + 1 + 1) body in
        let h2 = split_stmt scheme (texts_of program) code f body (last + 1) p (mid + 1 + 1) _ h.1.1.1 in
        let se : Setting = setting program n bound call (length rest) in
        rounds_land code n f rest bound in_loop out again p mid last place ops
        (λ pt1. test_of until place (eval se c pt1)) (exec se body) h.1.0 h.1.1.0 h2.1.0
        (λ k lt pt le. test_lands until c place shaped.0 k p lt ops pt le h.0)
        (λ k lt pt le. exec_lands body true shaped.1 (last + 1) p k (mid + 1 + 1) lt ops pt le h2.0)
        bound k lt (omega arith) pt le
    exec_lands (LoopLast until body c place) in_loop shaped out again k p lt ops pt le has =
        let test = stmt_end scheme (p + 1) body in
        let mid = test_end scheme until test c in
        let h = split_stmt scheme (texts_of program) code f body (mid + 1 + 1) test (p + 1) _ has.1 in
        let h2 = split_test scheme (texts_of program) code f until c place test _ h.1 in
        let se : Setting = setting program n bound call (length rest) in
        rounds_first_land code n f rest bound in_loop out again p test mid place ops
        (λ pt1. test_of until place (eval se c pt1)) (exec se body) has.0 h2.1.0 h2.1.1.0
        (λ k lt pt le.
        exec_lands body true shaped.1 (mid + 1 + 1) test k (p + 1) lt ops pt le h.0)
        (λ k lt pt le. test_lands until c place shaped.0 k test lt ops pt le h2.0) bound k lt
        (omega arith) pt le
    exec_lands (For start c step body place) in_loop shaped out again k p lt ops pt le has =
        let test = stmt_end scheme p start in
        let mid = expr_end scheme test c in
        let first = mid + 1 + 1 in
        let between = stmt_end scheme first body in
        let last = stmt_end scheme between step in
        let h = split_stmt scheme (texts_of program) code f start out again p _ has in
        let h1 = split_expr scheme (texts_of program) code f c test _ h.1 in
        let h2 = split_stmt scheme (texts_of program) code f body (last + 1) between first _ h1.1.1.1 in
        let h3 = split_stmt scheme (texts_of program) code f step (last + 1) test between _ h2.1 in
        let se : Setting = setting program n bound call (length rest) in
        and_next (exec_lands start in_loop shaped.1 out again k p lt ops pt le h.0) (λ v pt1 le1.
        rounds_land code n f rest bound in_loop out again test mid last place ops (eval se c)
        (λ pt2. stepped (exec se body pt2) (exec se step)) h1.1.0 h1.1.1.0 h3.1.0
        (λ k lt pt le.
        eval_lands code program tables strings n bound call calls f rest c shaped.0 k test lt ops pt le
        h1.0)
        (λ k lt pt le. stepped_lands code n f rest k (last + 1) test between last ops _ pt.state
        pt.stores (exec se body pt) (exec se step)
        (exec_lands body true shaped.3 (last + 1) between k first lt ops pt le h2.0)
        (λ pt2 le2. exec_lands step true shaped.2 (last + 1) test k between lt ops pt2 le2 h3.0))
        bound k lt (omega arith) pt1 le1)
    exec_lands (ForEver start step body place) in_loop shaped out again k p lt ops pt le has =
        let round = stmt_end scheme p start in
        let between = stmt_end scheme (round + 1) body in
        let last = stmt_end scheme between step in
        let h = split_stmt scheme (texts_of program) code f start out again p _ has in
        let h2 = split_stmt scheme (texts_of program) code f body (last + 1) between (round + 1) _ h.1.1 in
        let h3 = split_stmt scheme (texts_of program) code f step (last + 1) round between _ h2.1 in
        let se : Setting = setting program n bound call (length rest) in
        and_next (exec_lands start in_loop shaped.0 out again k p lt ops pt le h.0) (λ v pt1 le1.
        endless_land code n f rest bound in_loop out again round last place ops
        (λ pt2. stepped (exec se body pt2) (exec se step)) h.1.0 h3.1.0
        (λ k lt pt le. stepped_lands code n f rest k (last + 1) round between last ops _ pt.state
        pt.stores (exec se body pt) (exec se step)
        (exec_lands body true shaped.2 (last + 1) between k (round + 1) lt ops pt le h2.0)
        (λ pt2 le2. exec_lands step true shaped.1 (last + 1) round k between lt ops pt2 le2 h3.0))
        bound k lt (omega arith) pt1 le1)
    exec_lands (Repeat count body place) in_loop shaped out again k p lt ops pt le has =
        let round = expr_end scheme p count in
        let first = round + 1 + 1 + 1 + 1 + 1 in
        let between = stmt_end scheme first body in
        let h = split_expr scheme (texts_of program) code f count p _ has in
        let h2 = split_stmt scheme (texts_of program) code f body (between + 1 + 1 + 1) between first _
        h.1.1.1.1.1.1 in
        let se : Setting = setting program n bound call (length rest) in
        then (eval_lands code program tables strings n bound call calls f rest count shaped.0 k p lt ops pt
        le h.0) (λ left pt1 le1.
        rounds_left_land code n f rest bound in_loop out again round between place ops
        (exec se body) h.1.0 h.1.1.0 h.1.1.1.0 h.1.1.1.1.0 h.1.1.1.1.1.0 h2.1.0 h2.1.1.0 h2.1.1.1.0
        h2.1.1.1.1.0
        (λ left k lt pt le. exec_lands body true shaped.1 (between + 1 + 1 + 1) between k first lt
        (left ∷ ops) pt le h2.0) bound k lt (omega arith) left pt1 le1)
    exec_lands (ForEach array local widens body place) in_loop shaped out again k p lt ops pt le has = here tt pt le
    exec_lands (Break place) in_loop shaped out again k p lt ops pt le has =
        record { so = (frame f out pt.locals ops ∷ rest, (shaped, refl), goes (does has.0), le) }
    exec_lands (Continue place) in_loop shaped out again k p lt ops pt le has =
        record { so = (frame f again pt.locals ops ∷ rest, (shaped, refl), goes (does has.0), le) }
    exec_lands (Returning e place) in_loop shaped out again k p lt ops pt le has =
        let h = split_expr scheme (texts_of program) code f e p _ has in
        then (eval_lands code program tables strings n bound call calls f rest e shaped k p lt ops pt le h.0)
        (λ v pt1 le1. record {
          so = (
            frame f (expr_end scheme p e) pt1.locals (v ∷ ops) ∷ rest,
            (expr_end scheme p e, place, ops, h.1.0, refl),
            stays,
            le1,
          );
        })

    pub exec_all_lands : (all : Stmts) (in_loop : Bool) → ShapedStmts program in_loop all
        → (out again k p : ℕ) → k < bound → (ops : List Datum) (pt : Point) → Within k pt
        → HasAt code f p (block_code scheme (texts_of program) out again p all)
        → Land code n k (λ v l. frame f (block_end scheme p all) l ops
        ∷ rest) (exits code n f rest in_loop out again ops) (frame f p pt.locals ops
        ∷ rest) pt.state pt.stores (exec_all
        (setting program n bound call (length rest)) all pt)
    exec_all_lands no_stmts in_loop shaped out again k p lt ops pt le has = here tt pt le
    exec_all_lands (more_stmts t others) in_loop shaped out again k p lt ops pt le has =
        let h = split_stmt scheme (texts_of program) code f t out again p _ has in
        and_next (exec_lands t in_loop shaped.0 out again k p lt ops pt le h.0) (λ v pt1 le1.
        exec_all_lands others in_loop shaped.1 out again k (stmt_end scheme p t) lt ops pt1 le1 h.1)
