-- A well-formed program has the shape that the law asks for.
use Rattle.std.proofs.Common.{◌≡◌, ℕ, List, [], ◌∷◌, ◌++◌, Some, Bool, true, false, slice_get}
use Rattle.ck_values.specs.declared.kind.Elem.TheVariants as elem
use Rattle.ck_values.specs.declared.kind.Kind.{Kind}
use Rattle.ck_store.specs.Objects.{bodies_of}
use Rattle.ck_typed.specs.Tree.{Expr, Exprs, no_exprs, more_exprs, Leaf, Text, Unary, Binary, Variadic, And, Or, Choice, Assign, AssignDeclared, Update, Prefix, Postfix, New as Making, NewObjects, Construct, CallOf, SporkOf, Stmt, Stmts, no_stmts, more_stmts, Simple, Block, Print as Printing, If, Loop, LoopLast, For, ForEver, Repeat, ForEach, Break, Continue, Return as Returning, Fun as TypedFun, Program}
use Rattle.ck_typed.specs.WellFormed.{params_of, HasKind, IsFine, AreFine, IsWellFormed}
use Rattle.ck_code.proofs.Standing.{found_is}
use Rattle.ck_scheme.specs.Texts.{expr_texts, exprs_texts, stmt_texts, stmts_texts, texts_of}
use Rattle.code_laws.proofs.Numbered.{AreNumbered, parted, numbered_at}
use Rattle.code_laws.proofs.Facts.{updates_is, fine_at, AllHave, operands_of, address_of, bodies_are, takes_object}
use Rattle.code_laws.proofs.Parts.{operand_of, two_of, many_of, wanted, has_address, takes_arguments, on_two, on_many}
use Rattle.code_laws.proofs.Shapes.{Shaped, AllShaped, ShapedStmt, ShapedStmts, in_a_loop}
use Rattle.code_laws.proofs.Whole.{IsShapedFun}

module _ (program : Program) (fine : IsWellFormed program) (locals : List Kind) where
  abbrev Numbered : List (List ℕ) → Type 0
  Numbered some = AreNumbered (texts_of program) some

  -- the strings of two parts
  two : (a b : List (List ℕ)) → Numbered (a ++ b) → Numbered a × Numbered b
  two = parted (texts_of program)

  mutual
    expr_shaped : (e : Expr) (k : Kind) → HasKind program locals e k → Numbered (expr_texts e)
        → Shaped program e
    expr_shaped (Leaf o place) k h has = tt
    expr_shaped (Text bytes place) k h has = has.0
    expr_shaped (Unary o a place) k h has =
        let x = operand_of program o _ k h in
        expr_shaped a x.kind x.has has
    expr_shaped (Binary o a b place) k h has =
        let t = two (expr_texts a) (expr_texts b) has in
        let x = two_of program o _ _ k h in (
          on_two program fine locals o _ _ k h,
          expr_shaped a x.left x.at_left t.0,
          expr_shaped b x.right x.at_right t.1,
        )
    expr_shaped (Variadic o operands place) k h has =
        let x = many_of program locals o operands k h in
        (on_many program fine locals o operands k h, args_shaped operands x.kinds x.have has)
    expr_shaped (And a b place) k h has =
        let t = two (expr_texts a) (expr_texts b) has in
        (expr_shaped a h.0.0 h.0.1 t.0, expr_shaped b h.1.0 h.1.1 t.1)
    expr_shaped (Or a b place) k h has =
        let t = two (expr_texts a) (expr_texts b) has in
        (expr_shaped a h.0.0 h.0.1 t.0, expr_shaped b h.1.0 h.1.1 t.1)
    expr_shaped (Choice c a b place) k h has =
        let t = two (expr_texts c) (expr_texts a ++ expr_texts b) has in
        let u = two (expr_texts a) (expr_texts b) t.1 in (
          expr_shaped c h.0.0 h.0.1 t.0,
          expr_shaped a h.1.0 h.1.1 u.0,
          expr_shaped b h.2.0 h.2.1 u.1,
        )
    expr_shaped (Assign e spot address place) k h has =
        let t = two (expr_texts e) (exprs_texts address) has in
        let a = address_of program locals spot address k h.0 in (
          expr_shaped e h.1.0 h.1.1 t.0,
          has_address program fine locals spot address k a,
          args_shaped address a.kinds a.have t.1,
        )
    expr_shaped (AssignDeclared e declaration spot address place) k h has =
        let t = two (expr_texts e) (expr_texts declaration ++ exprs_texts address) has in
        let u = two (expr_texts declaration) (exprs_texts address) t.1 in
        let a = address_of program locals spot address k h.0 in (
          expr_shaped e h.1.0 h.1.1 t.0,
          expr_shaped declaration h.2.0 h.2.1 u.0,
          has_address program fine locals spot address k a,
          args_shaped address a.kinds a.have u.1,
        )
    expr_shaped (Update o e spot address place) k h has =
        let t = two (expr_texts e) (exprs_texts address) has in
        let a = address_of program locals spot address k h.0 in
        let u = updates_is program o (HasKind program locals e) k h.1 in (
          expr_shaped e u.value u.at_value t.0,
          has_address program fine locals spot address k a,
          args_shaped address a.kinds a.have t.1,
        )
    expr_shaped (Prefix direction spot address place) k h has =
        let a = address_of program locals spot address k h.0 in
        (has_address program fine locals spot address k a, args_shaped address a.kinds a.have has)
    expr_shaped (Postfix direction spot address place) k h has =
        let a = address_of program locals spot address k h.0 in
        (has_address program fine locals spot address k a, args_shaped address a.kinds a.have has)
    expr_shaped (Making c place) k h has =
        takes_object program fine c (bodies_of program.classes c) (bodies_are program fine c)
    expr_shaped (NewObjects (elem.Class c) n constructor place) k h has = (
      expr_shaped n h.1.0 h.1.1 has,
      takes_object program fine c (bodies_of program.classes c) (bodies_are program fine c),
    )
    expr_shaped (NewObjects (elem.Unit kind) n constructor place) k h has = expr_shaped n h.1.0 h.1.1 has
    expr_shaped (Construct o f arguments place) k h has = expr_shaped o k h.0 has
    expr_shaped (CallOf o f arguments place) k h has =
        let t = two (expr_texts o) (exprs_texts arguments) has in
        let fn = found_is (slice_get program.funs f) _ h.1 in
        let a = operands_of program locals arguments (params_of fn.0) fn.2.0 in (
          expr_shaped o h.0.0 h.0.1 t.0,
          takes_arguments program fine locals f arguments fn.0 fn.1 fn.2.0,
          args_shaped arguments a.kinds a.have t.1,
        )
    expr_shaped (SporkOf o f arguments place) k h has =
        let t = two (expr_texts o) (exprs_texts arguments) has in
        let fn = found_is (slice_get program.funs f) _ h.1 in
        let a = operands_of program locals arguments (params_of fn.0) fn.2 in (
          expr_shaped o h.0.0 h.0.1 t.0,
          takes_arguments program fine locals f arguments fn.0 fn.1 fn.2,
          args_shaped arguments a.kinds a.have t.1,
        )
    expr_shaped (NewObjects _ n constructor place) k h has = absurd h.0

    args_shaped : (args : Exprs) (js : List Kind) → AllHave program locals args js
        → Numbered (exprs_texts args) → AllShaped program args
    args_shaped no_exprs js h has = tt
    args_shaped (more_exprs e rest) [] h has = absurd h
    args_shaped (more_exprs e rest) (j ∷ js) h has =
        let t = two (expr_texts e) (exprs_texts rest) has in
        (expr_shaped e j h.0 t.0, args_shaped rest js h.1 t.1)

  mutual
    pub stmt_shaped : (t : Stmt) (result : Kind) (in_loop : Bool)
        → IsFine program locals result in_loop t → Numbered (stmt_texts t)
        → ShapedStmt program in_loop t
    stmt_shaped (Simple e place) result in_loop h has = expr_shaped e h.0 h.1 has
    stmt_shaped (Block all) result in_loop h has = block_shaped all result in_loop h has
    stmt_shaped (Printing items kinds place) result in_loop h has =
        let o = operands_of program locals items kinds h.2 in
        (wanted program fine locals items kinds h.2, args_shaped items o.kinds o.have has)
    stmt_shaped (If c a b place) result in_loop h has =
        let t = two (expr_texts c) (stmt_texts a ++ stmt_texts b) has in
        let u = two (stmt_texts a) (stmt_texts b) t.1 in (
          expr_shaped c h.0.0 h.0.1 t.0,
          stmt_shaped a result in_loop h.1 u.0,
          stmt_shaped b result in_loop h.2 u.1,
        )
    stmt_shaped (Loop until c body place) result in_loop h has =
        let t = two (expr_texts c) (stmt_texts body) has in
        (expr_shaped c h.0.0 h.0.1 t.0, stmt_shaped body result true h.1 t.1)
    stmt_shaped (LoopLast until body c place) result in_loop h has =
        let t = two (stmt_texts body) (expr_texts c) has in
        (expr_shaped c h.0.0 h.0.1 t.1, stmt_shaped body result true h.1 t.0)
    stmt_shaped (For start c step body place) result in_loop h has =
        let t = two (stmt_texts start) (expr_texts c ++ (stmt_texts body ++ stmt_texts step)) has in
        let u = two (expr_texts c) (stmt_texts body ++ stmt_texts step) t.1 in
        let v = two (stmt_texts body) (stmt_texts step) u.1 in (
          expr_shaped c h.0.0 h.0.1 u.0,
          stmt_shaped start result in_loop h.1 t.0,
          stmt_shaped step result true (in_a_loop program locals result step in_loop h.2) v.1,
          stmt_shaped body result true h.3 v.0,
        )
    stmt_shaped (ForEver start step body place) result in_loop h has =
        let t = two (stmt_texts start) (stmt_texts body ++ stmt_texts step) has in
        let u = two (stmt_texts body) (stmt_texts step) t.1 in (
          stmt_shaped start result in_loop h.0 t.0,
          stmt_shaped step result true (in_a_loop program locals result step in_loop h.1) u.1,
          stmt_shaped body result true h.2 u.0,
        )
    stmt_shaped (Repeat count body place) result in_loop h has =
        let t = two (expr_texts count) (stmt_texts body) has in
        (expr_shaped count h.0.0 h.0.1 t.0, stmt_shaped body result true h.1 t.1)
    stmt_shaped (ForEach array local widens body place) result in_loop h has = tt
    stmt_shaped (Break place) result in_loop h has = h
    stmt_shaped (Continue place) result in_loop h has = h
    stmt_shaped (Returning e place) result in_loop h has = expr_shaped e h.0 h.1 has

    block_shaped : (all : Stmts) (result : Kind) (in_loop : Bool)
        → AreFine program locals result in_loop all → Numbered (stmts_texts all)
        → ShapedStmts program in_loop all
    block_shaped no_stmts result in_loop h has = tt
    block_shaped (more_stmts t rest) result in_loop h has =
        let u = two (stmt_texts t) (stmts_texts rest) has in
        (stmt_shaped t result in_loop h.0 u.0, block_shaped rest result in_loop h.1 u.1)

-- each of its functions has it
pub all_shaped : (program : Program) → IsWellFormed program → (g : ℕ) (fn : TypedFun)
    → slice_get program.funs g ≡ Some fn → IsShapedFun program fn
all_shaped program fine g fn at =
    let has = numbered_at program g fn at in
    record {
      result = has.1;
      body = stmt_shaped program fine fn.locals fn.body fn.result false
          (fine_at program fine g fn at).body has.0;
    }
