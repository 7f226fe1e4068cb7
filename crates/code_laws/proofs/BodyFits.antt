-- The scheme's code of statements and of whole functions has a typing.
use Rattle.std.proofs.Common.{◌≡◌, ℕ, ◌+◌, List, [], ◌∷◌, ◌++◌, Some, refl, subst, Bool, true, false, IsTrue}
use Rattle.std.specs.Prelude.{slice_get}
use Rattle.std.proofs.lemmas.Option.{slice_get_within}
use Rattle.ck_values.specs.declared.kind.Elem.TheVariants as elem
use Rattle.ck_values.specs.declared.kind.Elem.TheVariants.{Int as IntElem}
use Rattle.ck_values.specs.declared.kind.Kind.{Kind}
use Rattle.ck_values.specs.declared.kind.Kind.TheVariants.{Null as NullKind, One, Row, Grid}
use Rattle.ck_values.specs.declared.trap.Place.{Place}
use Rattle.ck_typed.specs.declared.class.Class.{Class}
use Rattle.ck_typed.specs.Standing.{Stands}
use Rattle.ck_typed.specs.Tree.{Expr, Exprs, Stmt, Stmts, no_stmts, more_stmts, Simple, Block, Print, If, Loop, LoopLast, For, ForEver, Repeat, ForEach, Break, Continue, Return, Fun as TypedFun, Program}
use Rattle.ck_typed.specs.WellFormed.{IsValueKind, HasKind, IsTest, IsFine, AreFine, IsWellFormed}
use Rattle.ck_values.specs.declared.operator.Op1.TheVariants.{NotInt}
use Rattle.ck_code.specs.declared.instr.Instr.TheVariants.{Jump, JumpZero, Drop, Op1}
use Rattle.ck_code.specs.declared.instr.Instr.TheVariants.{Return as Returns, Print as Prints}
use Rattle.ck_code.specs.declared.code.Fun.{Fun}
use Rattle.ck_code.specs.declared.code.Step.{Step}
use Rattle.ck_code.specs.Verified.{Places, Typing, AreAt}
use Rattle.ck_code.proofs.Standing.{where_found}
use Rattle.ck_scheme.specs.Texts.{default_texts, number_of, texts_of}
use Rattle.code_laws.proofs.Numbered.{AreNumbered}
use Rattle.code_laws.proofs.Shapes.{Shaped, AllShaped, ShapedStmt, ShapedStmts, in_a_loop}
use Rattle.ck_scheme.specs.Scheme.{at, expr_end, expr_code, args_end, args_code, test_end, test_code, stmt_end, block_end, stmt_code, block_code, default_instr, body_code}
use Rattle.ck_scheme.proofs.Stands.{test_length, stmt_length}
use Rattle.code_laws.proofs.Facts.{kinds_on, AllHave, operands_of}
use Rattle.code_laws.proofs.Typings.{default_kind, expr_shapes, args_shapes, test_shapes, test_kind, stmt_shapes, block_shapes, body_shapes, test_shapes_length, stmt_shapes_length}
use Rattle.code_laws.proofs.Operands.{pushed_top}
use Rattle.code_laws.proofs.Placed as laid
use Rattle.code_laws.proofs.SpotFits as spots
use Rattle.code_laws.proofs.SchemeFits as fits

module _ (program : Program) (fine : IsWellFormed program) (locals : List Kind) where
  abbrev classes : List Class
  classes = program.classes

  module _ (places : Places) where
    abbrev Placed : ℕ → List (List Kind) → Type 0
    Placed p shapes = laid.Placed program fine locals places p shapes

    cut : (e : Expr) (k : Kind) (h : HasKind program locals e k) (under : List Kind) (p : ℕ)
        (b : List (List Kind))
        → Placed p (expr_shapes program fine locals under e k h ++ b)
        → (Placed p (expr_shapes program fine locals under e k h))
        × (Placed (expr_end classes p e) b)
    cut = laid.cut program fine locals places

    first : (e : Expr) (k : Kind) (h : HasKind program locals e k) (under : List Kind) (p : ℕ)
        → Placed p (expr_shapes program fine locals under e k h) → AreAt places p under
    first = laid.first program fine locals places

    cut_args : (args : Exprs) (js : List Kind) (h : AllHave program locals args js)
        (under : List Kind) (p : ℕ) (b : List (List Kind))
        → Placed p (args_shapes program fine locals under args js h ++ b)
        → (Placed p (args_shapes program fine locals under args js h))
        × (Placed (args_end classes p args) b)
    cut_args = laid.cut_args program fine locals places

    args_first : (args : Exprs) (js : List Kind) (h : AllHave program locals args js)
        (under : List Kind) (p : ℕ) → Placed p (args_shapes program fine locals under args js h)
        → AreAt places (args_end classes p args) (kinds_on js under) → AreAt places p under
    args_first = laid.args_first program fine locals places

    -- a loop's test, and the operands at its first place
    cut_test : (until : Bool) (c : Expr) (h : IsTest program locals c) (under : List Kind) (p : ℕ)
        (b : List (List Kind)) → Placed p (test_shapes program fine locals until under c h ++ b)
        → (Placed p (test_shapes program fine locals until under c h))
        × (Placed (test_end classes until p c) b)
    cut_test until c h under p b placed =
        laid.placed_split program fine locals places
        (test_shapes program fine locals until under c h) b p (test_end classes until p c)
        (test_shapes_length program fine locals until under c h p) placed

    test_first : (until : Bool) (c : Expr) (h : IsTest program locals c) (under : List Kind) (p : ℕ)
        → Placed p (test_shapes program fine locals until under c h) → AreAt places p under
    test_first false c h under p placed = first c h.0 h.1 under p placed
    test_first true c h under p placed = first c h.0 h.1 under p (cut c h.0 h.1 under p _ placed).0

    -- it leaves an int
    test_stands : (until : Bool) (k : Kind) → Stands classes k (One IntElem)
        → Stands classes (test_kind program fine locals until k) (One IntElem)
    test_stands false k is = is
    test_stands true k is = refl

    pub cut_stmt : (result : Kind) (under : List Kind) (t : Stmt) (in_loop : Bool)
        (h : IsFine program locals result in_loop t) (p : ℕ) (b : List (List Kind))
        → Placed p (stmt_shapes program fine locals result under t in_loop h ++ b)
        → (Placed p (stmt_shapes program fine locals result under t in_loop h))
        × (Placed (stmt_end classes p t) b)
    cut_stmt result under t in_loop h p b placed =
        laid.placed_split program fine locals places
        (stmt_shapes program fine locals result under t in_loop h) b p (stmt_end classes p t)
        (stmt_shapes_length program fine locals result under t in_loop h p) placed

    abbrev Reached : ℕ → List Kind → Type 0
    Reached p ks = spots.Reached program fine locals places p ks

    module _ (funs : List Fun) (typing : Typing) (fn : Fun) (f : ℕ) (result : Kind)
        (at_locals : fn.locals ≡ locals) (at_result : slice_get typing.results f ≡ Some result)
        (calls : (g : ℕ) (callee : TypedFun) → slice_get program.funs g ≡ Some callee
        → (c : Fun) × (slice_get funs g ≡ Some c) × (c.params ≡ callee.params) × (c.locals ≡
        callee.locals)
        × (slice_get typing.results g ≡ Some callee.result)) where
      -- each instruction finds its operands
      abbrev Fine : ℕ → List Step → Type 0
      Fine p steps =
          spots.Fine program fine locals places funs typing fn f at_locals p steps

      reached : (p : ℕ) (ks : List Kind) → AreAt places p ks → Reached p ks
      reached = spots.reached program fine locals places

      join_expr : (e : Expr) (b : List Step) (p : ℕ) → Fine p (expr_code classes (texts_of program) p e)
          → Fine (expr_end classes p e) b → Fine p (expr_code classes (texts_of program) p e ++ b)
      join_expr =
          fits.join_expr program fine locals places funs typing fn f result at_locals at_result
          calls

      on_less : (p : ℕ) (j k : Kind) (under : List Kind) → Stands classes j k
          → Reached p (k ∷ under) → Reached p (j ∷ under)
      on_less = spots.on_less program fine locals places

      expr_fine : (e : Expr) (k : Kind) (h : HasKind program locals e k) → Shaped program e
          → (under : List Kind) (p : ℕ) → Placed p (expr_shapes program fine locals under e k h)
          → Reached (expr_end classes p e) (k ∷ under) → Fine p (expr_code classes (texts_of program) p e)
      expr_fine =
          fits.expr_fine program fine locals places funs typing fn f result at_locals at_result
          calls

      join_args : (args : Exprs) (b : List Step) (p : ℕ) → Fine p (args_code classes (texts_of program) p args)
          → Fine (args_end classes p args) b → Fine p (args_code classes (texts_of program) p args ++ b)
      join_args =
          fits.join_args program fine locals places funs typing fn f result at_locals at_result
          calls

      args_fine : (args : Exprs) (js : List Kind) (h : AllHave program locals args js)
          → AllShaped program args → (under : List Kind) (p : ℕ)
          → Placed p (args_shapes program fine locals under args js h)
          → AreAt places (args_end classes p args) (kinds_on js under)
          → Fine p (args_code classes (texts_of program) p args)
      args_fine =
          fits.args_fine program fine locals places funs typing fn f result at_locals at_result
          calls

      join_test : (until : Bool) (c : Expr) (place : Place) (b : List Step) (p : ℕ)
          → Fine p (test_code classes (texts_of program) until p c place)
          → Fine (test_end classes until p c) b
          → Fine p (test_code classes (texts_of program) until p c place ++ b)
      join_test until c place b p h g =
          spots.fine_join program fine locals places funs typing fn f at_locals
          (test_code classes (texts_of program) until p c place) b p (test_end classes until p c)
          (test_length classes (texts_of program) until c place p) h g

      test_fine : (until : Bool) (c : Expr) (place : Place) (h : IsTest program locals c)
          → Shaped program c → (under : List Kind) (p : ℕ)
          → Placed p (test_shapes program fine locals until under c h)
          → Reached (test_end classes until p c) (test_kind program fine locals until h.0 ∷ under)
          → Fine p (test_code classes (texts_of program) until p c place)
      test_fine false c place h shaped under p placed end =
          expr_fine c h.0 h.1 shaped under p placed end
      test_fine true c place h shaped under p placed end =
          let hc = cut c h.0 h.1 under p _ placed in
          let q = expr_end classes p c in
          join_expr c (at (Op1 NotInt) place ∷ []) p
          (expr_fine c h.0 h.1 shaped under p hc.0 (reached q (h.0 ∷ under) hc.1.0))
          ((h.0 ∷ under, hc.1.0, (h.2, end)), tt)

      mutual
        -- a statement's first place has what is beneath it alone
        pub starts : (under : List Kind) (t : Stmt) (in_loop : Bool)
            (h : IsFine program locals result in_loop t) (p : ℕ)
            → Placed p (stmt_shapes program fine locals result under t in_loop h)
            → AreAt places (stmt_end classes p t) under → AreAt places p under
        starts under (Simple e place) in_loop h p placed end =
            first e h.0 h.1 under p (cut e h.0 h.1 under p _ placed).0
        starts under (Block all) in_loop h p placed end =
            block_starts under all in_loop h p placed end
        starts under (Print items kinds place) in_loop h p placed end =
            let o = operands_of program locals items kinds h.2 in
            let c = cut_args items o.kinds o.have under p _ placed in
            args_first items o.kinds o.have under p c.0 c.1.0
        starts under (If c a b place) in_loop h p placed end =
            first c h.0.0 h.0.1 under p (cut c h.0.0 h.0.1 under p _ placed).0
        starts under (Loop until c body place) in_loop h p placed end =
            test_first until c h.0 under p (cut_test until c h.0 under p _ placed).0
        starts under (LoopLast until body c place) in_loop h p placed end = placed.0
        starts under (For start c step body place) in_loop h p placed end =
            let test = stmt_end classes p start in
            let hs = cut_stmt result under start in_loop h.1 p _ placed in
            starts under start in_loop h.1 p hs.0
            (first c h.0.0 h.0.1 under test (cut c h.0.0 h.0.1 under test _ hs.1).0)
        starts under (ForEver start step body place) in_loop h p placed end =
            let hs = cut_stmt result under start in_loop h.0 p _ placed in
            starts under start in_loop h.0 p hs.0 hs.1.0
        starts under (Repeat count body place) in_loop h p placed end =
            first count h.0.0 h.0.1 under p (cut count h.0.0 h.0.1 under p _ placed).0
        starts under (ForEach array local widens body place) in_loop h p placed end = end
        starts under (Break place) in_loop h p placed end = placed.0
        starts under (Continue place) in_loop h p placed end = placed.0
        starts under (Return e place) in_loop h p placed end =
            first e h.0 h.1 under p (cut e h.0 h.1 under p _ placed).0

        block_starts : (under : List Kind) (all : Stmts) (in_loop : Bool)
            (h : AreFine program locals result in_loop all) (p : ℕ)
            → Placed p (block_shapes program fine locals result under all in_loop h)
            → AreAt places (block_end classes p all) under → AreAt places p under
        block_starts under no_stmts in_loop h p placed end = end
        block_starts under (more_stmts t rest) in_loop h p placed end =
            let ht = cut_stmt result under t in_loop h.0 p _ placed in
            starts under t in_loop h.0 p ht.0
            (block_starts under rest in_loop h.1 (stmt_end classes p t) ht.1 end)

      join_stmt : (t : Stmt) (out again : ℕ) (b : List Step) (p : ℕ)
          → Fine p (stmt_code classes (texts_of program) out again p t) → Fine (stmt_end classes p t) b
          → Fine p (stmt_code classes (texts_of program) out again p t ++ b)
      join_stmt t out again b p h g =
          spots.fine_join program fine locals places funs typing fn f at_locals
          (stmt_code classes (texts_of program) out again p t) b p (stmt_end classes p t)
          (stmt_length classes (texts_of program) t out again p) h g

      mutual
        -- a statement's code, which leaves what is beneath it, also where it is left
        pub stmt_fine : (under : List Kind) (t : Stmt) (in_loop : Bool)
            (h : IsFine program locals result in_loop t) → ShapedStmt program in_loop t
            → (out again p : ℕ)
            → (IsTrue in_loop → AreAt places out under)
            → (IsTrue in_loop → AreAt places again under)
            → Placed p (stmt_shapes program fine locals result under t in_loop h)
            → AreAt places (stmt_end classes p t) under → Fine p (stmt_code classes (texts_of program) out again p t)
        stmt_fine under (Simple e place) in_loop h shaped out again p leave more placed end =
            let ce = cut e h.0 h.1 under p _ placed in
            let q = expr_end classes p e in
            join_expr e (at Drop place ∷ []) p (expr_fine e h.0 h.1 shaped under p ce.0
            (reached q (h.0 ∷ under) ce.1.0))
            ((h.0 ∷ under, ce.1.0, reached (q + 1) under end), tt)
        stmt_fine under (Block all) in_loop h shaped out again p leave more placed end =
            block_fine under all in_loop h shaped out again p leave more placed end
        stmt_fine under (Print items kinds place) in_loop h shaped out again p leave more placed end
            =
            let o = operands_of program locals items kinds h.2 in
            let c = cut_args items o.kinds o.have under p _ placed in
            let q = args_end classes p items in
            join_args items (at (Prints kinds) place ∷ []) p
            (args_fine items o.kinds o.have shaped.1 under p c.0 c.1.0) (
              (
                kinds_on o.kinds under,
                c.1.0,
                (
                  h.0,
                  h.1,
                  pushed_top classes o.kinds kinds under (λ beneath. Reached (q + 1) beneath) o.stand
                      (reached (q + 1) under end),
                ),
              ),
              tt,
            )
        stmt_fine under (If c a b place) in_loop h shaped out again p leave more placed end =
            let hc = cut c h.0.0 h.0.1 under p _ placed in
            let start = expr_end classes p c + 1 in
            let ha = cut_stmt result under a in_loop h.1 start _ hc.1.1 in
            let second = stmt_end classes start a + 1 in
            join_expr c (at (JumpZero second) place
            ∷ (stmt_code classes (texts_of program) out again start a ++ (at (Jump (stmt_end classes second b)) place
            ∷ stmt_code classes (texts_of program) out again second b))) p
            (expr_fine c h.0.0 h.0.1 shaped.0 under p hc.0
            (reached (expr_end classes p c) (h.0.0 ∷ under) hc.1.0)) (
              (
                h.0.0 ∷ under,
                hc.1.0,
                (
                  h.0.2,
                  (
                    reached second under (starts under b in_loop h.2 second ha.1.1 end),
                    reached start under (starts under a in_loop h.1 start ha.0 ha.1.0),
                  ),
                ),
              ),
              join_stmt a out again (at (Jump (stmt_end classes second b)) place ∷ stmt_code
                  classes (texts_of program) out again second b) start
                  (stmt_fine under a in_loop h.1 shaped.1 out again start leave more ha.0 ha.1.0) (
                    (under, ha.1.0, reached (stmt_end classes second b) under end),
                    stmt_fine under b in_loop h.2 shaped.2 out again second leave more ha.1.1 end,
                  ),
            )
        stmt_fine under (Loop until c body place) in_loop h shaped out again p leave more placed end
            =
            let hc = cut_test until c h.0 under p _ placed in
            let mid = test_end classes until p c in
            let inner = mid + 1 + 1 in
            let hb = cut_stmt result under body true h.1 inner _ hc.1.1.1 in
            let last = stmt_end classes inner body + 1 in
            let back = test_first until c h.0 under p hc.0 in
            let left : List Kind = test_kind program fine locals until h.0.0 ∷ under in
            let is_int = test_stands until h.0.0 h.0.2 in
            join_test until c place _ p
            (test_fine until c place h.0 shaped.0 under p hc.0 (reached mid left hc.1.0)) (
              (left, hc.1.0, (is_int, (reached last under end, reached (mid + 1) under hc.1.1.0))),
              (
                (
                  under,
                  hc.1.1.0,
                  reached inner under (starts under body true h.1 inner hb.0 hb.1.0),
                ),
                join_stmt body last p (at (Jump p) place ∷ []) inner
                    (stmt_fine under body true h.1 shaped.1 last p inner (λ t. end) (λ t. back) hb.0
                    hb.1.0) ((under, hb.1.0, reached p under back), tt),
              ),
            )
        stmt_fine under (LoopLast until body c place) in_loop h shaped out again p leave more placed
            end =
            let test = stmt_end classes (p + 1) body in
            let mid = test_end classes until test c in
            let last = mid + 1 + 1 in
            let hb = cut_stmt result under body true h.1 (p + 1) _ placed.1 in
            let hc = cut_test until c h.0 under test _ hb.1 in
            let check = test_first until c h.0 under test hc.0 in
            let left : List Kind = test_kind program fine locals until h.0.0 ∷ under in
            let is_int = test_stands until h.0.0 h.0.2 in (
              (
                under,
                placed.0,
                reached (p + 1) under (starts under body true h.1 (p + 1) hb.0 check),
              ),
              join_stmt body last test _ (p + 1)
                  (stmt_fine under body true h.1 shaped.1 last test (p + 1) (λ t. end) (λ t. check)
                  hb.0 check)
                  (join_test until c place _ test
                  (test_fine until c place h.0 shaped.0 under test hc.0 (reached mid left hc.1.0)) (
                    (
                      left,
                      hc.1.0,
                      (is_int, (reached last under end, reached (mid + 1) under hc.1.1.0)),
                    ),
                    ((under, hc.1.1.0, reached p under placed.0), tt),
                  )),
            )
        stmt_fine under (For start c step body place) in_loop h shaped out again p leave more placed
            end =
            let fits_again = in_a_loop program locals result step in_loop h.2 in
            let test = stmt_end classes p start in
            let mid = expr_end classes test c in
            let inner = mid + 1 + 1 in
            let between = stmt_end classes inner body in
            let last = stmt_end classes between step + 1 in
            let hs = cut_stmt result under start in_loop h.1 p _ placed in
            let hc = cut c h.0.0 h.0.1 under test _ hs.1 in
            let hb = cut_stmt result under body true h.3 inner _ hc.1.1.1 in
            let hn = cut_stmt result under step true fits_again between _ hb.1 in
            let check = first c h.0.0 h.0.1 under test hc.0 in
            let next = starts under step true fits_again between hn.0 hn.1.0 in
            join_stmt start out again _ p
            (stmt_fine under start in_loop h.1 shaped.1 out again p leave more hs.0 check)
            (join_expr c _ test (expr_fine c h.0.0 h.0.1 shaped.0 under test hc.0
            (reached mid (h.0.0 ∷ under) hc.1.0)) (
              (
                h.0.0 ∷ under,
                hc.1.0,
                (h.0.2, (reached last under end, reached (mid + 1) under hc.1.1.0)),
              ),
              (
                (
                  under,
                  hc.1.1.0,
                  reached inner under (starts under body true h.3 inner hb.0 next),
                ),
                join_stmt body last between _ inner
                    (stmt_fine under body true h.3 shaped.3 last between inner (λ t. end) (λ t. next)
                    hb.0 next)
                    (join_stmt step last test _ between
                    (stmt_fine under step true fits_again shaped.2 last test between (λ t. end)
                    (λ t. check) hn.0 hn.1.0) ((under, hn.1.0, reached test under check), tt)),
              ),
            ))
        stmt_fine under (ForEver start step body place) in_loop h shaped out again p leave more
            placed end =
            let fits_again = in_a_loop program locals result step in_loop h.1 in
            let round = stmt_end classes p start in
            let between = stmt_end classes (round + 1) body in
            let last = stmt_end classes between step + 1 in
            let hs = cut_stmt result under start in_loop h.0 p _ placed in
            let hb = cut_stmt result under body true h.2 (round + 1) _ hs.1.1 in
            let hn = cut_stmt result under step true fits_again between _ hb.1 in
            let next = starts under step true fits_again between hn.0 hn.1.0 in
            join_stmt start out again _ p
            (stmt_fine under start in_loop h.0 shaped.0 out again p leave more hs.0 hs.1.0) (
              (
                under,
                hs.1.0,
                reached (round + 1) under
                    (starts under body true h.2 (round + 1) hb.0 next),
              ),
              join_stmt body last between _ (round + 1)
                  (stmt_fine under body true h.2 shaped.2 last between (round + 1) (λ t. end)
                  (λ t. next) hb.0 next)
                  (join_stmt step last round _ between
                  (stmt_fine under step true fits_again shaped.1 last round between (λ t. end)
                  (λ t. hs.1.0) hn.0 hn.1.0) ((under, hn.1.0, reached round under hs.1.0), tt)),
            )
        stmt_fine under (Repeat count body place) in_loop h shaped out again p leave more placed end
            =
            let int : Kind = One IntElem in
            let left : List Kind = int ∷ under in
            let round = expr_end classes p count in
            let inner = round + 1 + 1 + 1 + 1 + 1 in
            let between = stmt_end classes inner body in
            let last = between + 1 + 1 + 1 in
            let hc = cut count h.0.0 h.0.1 under p _ placed in
            let hb = cut_stmt result left body true h.1 inner _ hc.1.1.1.1.1.1 in
            join_expr count _ p (expr_fine count h.0.0 h.0.1 shaped.0 under p hc.0
            (on_less round h.0.0 int under h.0.2 (reached round left hc.1.0))) (
              (left, hc.1.0, reached (round + 1) (int ∷ left) hc.1.1.0),
              (
                (int ∷ left, hc.1.1.0, reached (round + 1 + 1) (int ∷ int ∷ left) hc.1.1.1.0),
                (
                  (
                    int ∷ int ∷ left,
                    hc.1.1.1.0,
                    (refl, (refl, reached (round + 1 + 1 + 1) (int ∷ left) hc.1.1.1.1.0)),
                  ),
                  (
                    (
                      int ∷ left,
                      hc.1.1.1.1.0,
                      (
                        refl,
                        (
                          reached last left hb.1.1.1.1.0,
                          reached (round + 1 + 1 + 1 + 1) left hc.1.1.1.1.1.0,
                        ),
                      ),
                    ),
                    (
                      (
                        left,
                        hc.1.1.1.1.1.0,
                        reached inner left (starts left body true h.1 inner hb.0 hb.1.0),
                      ),
                      join_stmt body last between _ inner
                          (stmt_fine left body true h.1 shaped.1 last between inner
                          (λ t. hb.1.1.1.1.0) (λ t. hb.1.0) hb.0 hb.1.0) (
                            (left, hb.1.0, reached (between + 1) (int ∷ left) hb.1.1.0),
                            (
                              (
                                int ∷ left,
                                hb.1.1.0,
                                (refl, (refl, reached (between + 1 + 1) left hb.1.1.1.0)),
                              ),
                              (
                                (left, hb.1.1.1.0, reached round left hc.1.0),
                                ((left, hb.1.1.1.1.0, reached (last + 1) under end), tt),
                              ),
                            ),
                          ),
                    ),
                  ),
                ),
              ),
            )
        stmt_fine under (ForEach array local widens body place) in_loop h shaped out again p leave more placed end = tt
        stmt_fine under (Break place) in_loop h shaped out again p leave more placed end =
            ((under, placed.0, reached out under (leave h)), tt)
        stmt_fine under (Continue place) in_loop h shaped out again p leave more placed end =
            ((under, placed.0, reached again under (more h)), tt)
        stmt_fine under (Return e place) in_loop h shaped out again p leave more placed end =
            let ce = cut e h.0 h.1 under p _ placed in
            join_expr e (at Returns place ∷ []) p
            (expr_fine e h.0 h.1 shaped under p ce.0
            (reached (expr_end classes p e) (h.0 ∷ under) ce.1.0)) (
              (
                h.0 ∷ under,
                ce.1.0,
                where_found (slice_get typing.results f) _ result at_result h.2,
              ),
              tt,
            )

        block_fine : (under : List Kind) (all : Stmts) (in_loop : Bool)
            (h : AreFine program locals result in_loop all) → ShapedStmts program in_loop all
            → (out again p : ℕ) → (IsTrue in_loop → AreAt places out under)
            → (IsTrue in_loop → AreAt places again under)
            → Placed p (block_shapes program fine locals result under all in_loop h)
            → AreAt places (block_end classes p all) under
            → Fine p (block_code classes (texts_of program) out again p all)
        block_fine under no_stmts in_loop h shaped out again p leave more placed end = tt
        block_fine under (more_stmts t rest) in_loop h shaped out again p leave more placed end =
            let ht = cut_stmt result under t in_loop h.0 p _ placed in
            join_stmt t out again (block_code classes (texts_of program) out again (stmt_end classes p t) rest) p
            (stmt_fine under t in_loop h.0 shaped.0 out again p leave more ht.0
            (block_starts under rest in_loop h.1 (stmt_end classes p t) ht.1 end))
            (block_fine under rest in_loop h.1 shaped.1 out again (stmt_end classes p t) leave more
            ht.1 end)

      -- the return after a default
      default_returns : (j : Kind) (place : Place) (q : ℕ) → Stands classes j result
          → AreAt places q (j ∷ []) → Fine q (at Returns place ∷ [])
      default_returns j place q is g =
          ((j ∷ [], g, where_found (slice_get typing.results f) _ result at_result is), tt)

      -- the default that a function ends with
      default_fine : (k : Kind) (place : Place) (p : ℕ) → IsValueKind program.classes k
          → AreNumbered (texts_of program) (default_texts k) → k ≡ result → AreAt places p []
          → AreAt places (p + 1) (default_kind k ∷ [])
          → Fine p (at (default_instr (texts_of program) k) place ∷ at Returns place ∷ [])
      default_fine (One elem.Int) place p of_values has same h g = (
        ([], h, reached (p + 1) (One elem.Int ∷ []) g),
        default_returns (One elem.Int) place (p + 1)
            (subst (Stands classes (One elem.Int)) same refl) g,
      )
      default_fine (One elem.Float) place p of_values has same h g = (
        ([], h, reached (p + 1) (One elem.Float ∷ []) g),
        default_returns (One elem.Float) place (p + 1)
            (subst (Stands classes (One elem.Float)) same refl) g,
      )
      default_fine (One elem.Dur) place p of_values has same h g = (
        ([], h, reached (p + 1) (One elem.Dur ∷ []) g),
        default_returns (One elem.Dur) place (p + 1)
            (subst (Stands classes (One elem.Dur)) same refl) g,
      )
      default_fine (One elem.Time) place p of_values has same h g = (
        ([], h, reached (p + 1) (One elem.Time ∷ []) g),
        default_returns (One elem.Time) place (p + 1)
            (subst (Stands classes (One elem.Time)) same refl) g,
      )
      default_fine (One elem.Text) place p of_values has same h g =
          let within = slice_get_within (texts_of program) (number_of (texts_of program) []) []
          has.0 in (
            ([], h, (within, reached (p + 1) (One elem.Text ∷ []) g)),
            default_returns (One elem.Text) place (p + 1)
                (subst (Stands classes (One elem.Text)) same refl) g,
          )
      default_fine (One elem.Shred) place p of_values has same h g = (
        ([], h, reached (p + 1) (One elem.Shred ∷ []) g),
        default_returns (One elem.Shred) place (p + 1)
            (subst (Stands classes (One elem.Shred)) same refl) g,
      )
      default_fine (One (elem.Class c)) place p of_values has same h g = (
        ([], h, reached (p + 1) (NullKind ∷ []) g),
        default_returns NullKind place (p + 1) (subst (Stands classes NullKind) same tt) g,
      )
      default_fine (One (elem.Unit kind)) place p of_values has same h g = (
        ([], h, reached (p + 1) (NullKind ∷ []) g),
        default_returns NullKind place (p + 1) (subst (Stands classes NullKind) same tt) g,
      )
      default_fine (Row e) place p of_values has same h g = (
        ([], h, reached (p + 1) (NullKind ∷ []) g),
        default_returns NullKind place (p + 1) (subst (Stands classes NullKind) same tt) g,
      )
      default_fine (Grid e) place p of_values has same h g = (
        ([], h, reached (p + 1) (NullKind ∷ []) g),
        default_returns NullKind place (p + 1) (subst (Stands classes NullKind) same tt) g,
      )
      default_fine _ place p of_values has same h g = absurd of_values

      -- a function's whole code
      pub body_fine : (body : Stmt) (place : Place) (h : IsFine program locals result false body)
          → ShapedStmt program false body → IsValueKind program.classes result
          → AreNumbered (texts_of program) (default_texts result)
          → Placed 0 (body_shapes program fine locals result body h (default_kind result))
          → Fine 0 (body_code classes (texts_of program) body result place)
      body_fine body place h shaped of_values has placed =
          let hb = cut_stmt result [] body false h 0 _ placed in
          join_stmt body 0 0 (at (default_instr (texts_of program) result) place ∷ at Returns place ∷ []) 0
          (stmt_fine [] body false h shaped 0 0 0 (λ never. cc never) (λ never. cc never) hb.0
          hb.1.0)
          (default_fine result place (stmt_end classes 0 body) of_values has refl hb.1.0 hb.1.1.0)
