-- What a statement becomes makes at most 512 steps a token.
use Rattle.std.proofs.Common.{◌≡◌, ℕ, ◌+◌, ◌*◌, ◌≤◌, ◌||◌, List, [], ◌∷◌, ◌++◌, Option, Some, None, arith}
use Rattle.std.specs.List.{list_any}
use Rattle.ck_values.specs.declared.kind.Kind.{Kind}
use Rattle.ck_values.specs.declared.kind.Kind.TheVariants.{Void}
use Rattle.ck_values.specs.declared.trap.Place.{Place}
use Rattle.ck_syntax.specs.declared.declaration.DeclHead.{DeclHead}
use Rattle.ck_syntax.specs.Size.{expr_size, exprs_size, declr_size, declrs_size, declrs_before_comma, option_size}
use Rattle.ck_syntax.specs.Size.{stmt_size, stmts_size}
use Rattle.ck_syntax.specs.Tree as tree
use Rattle.ck_syntax.specs.Tree.{Expr, expr_line, Declrs, no_declrs, and_declr, Stmt, Stmts, no_stmts, and_stmt}
use Rattle.ck_typed.specs.Tree as typed
use Rattle.type_table.specs.Answer.{Answer, gives, refused, and_then, wrong}
use Rattle.type_table.specs.declared.fault.FaultKind.TheVariants.{Mismatch}
use Rattle.type_table.specs.Table.{Table}
use Rattle.check_scope.specs.Denotations.{Typed, is_void}
use Rattle.check_scope.specs.Expressions as e
use Rattle.check_scope.specs.Expressions.{Valued, AllValued, typing, values, is_int}
use Rattle.check_scope.specs.Scope.{Scope, is_empty, place, with_block, with_local}
use Rattle.program_laws.specs.declared.surroundings.Surroundings.{Surroundings}
use Rattle.program_laws.specs.Statements.{Stated, AllStated, in_order, condition, declarations}
use Rattle.program_laws.specs.Statements.{exprs, printed, in_loop_only, returned, bare_return, return_meaning, Tested}
use Rattle.program_laws.specs.Statements.{for_test, for_step, for_made, item_kind, local_item, looped, left, closed, statement, statements}
use Rattle.expr_laws.proofs.Oks.{ok_then, ok_if}
use Rattle.expr_laws.proofs.Premises.{Ok}
use Rattle.expr_steps.specs.Tokens.{token_steps}
use Rattle.expr_steps.proofs.Costs.{total, taken_most, then_any}
use Rattle.expr_steps.proofs.Expressions.{ValueWithin, AllWithin, values_cost, typing_costs, declared_costs}
use Rattle.expr_steps.proofs.Most.{most, all_most, option_most, stmt_most, block_most}

-- so many tokens' steps of a statement, of several, and of the test of a `for`
abbrev pub StatedWithin : (tokens : ℕ) → Stated → Type 0
StatedWithin tokens x = stmt_most x.stmt ≤ token_steps * tokens

abbrev pub AllStatedWithin : (tokens : ℕ) → AllStated → Type 0
AllStatedWithin tokens all = block_most (in_order all.stmts) ≤ token_steps * tokens

abbrev TestWithin : (tokens : ℕ) → Tested → Type 0
TestWithin tokens x = option_most x.test ≤ token_steps * tokens

pub in_order_more : (xs : List typed.Stmt) (x : typed.Stmt)
    → block_most (in_order (xs ++ x ∷ [])) ≡ block_most (in_order xs) + stmt_most x
in_order_more [] x = omega arith
in_order_more (y ∷ xs) x = omega (arith, in_order_more xs x)

exprs_most : (xs : List Typed) → all_most (exprs xs) ≤ total xs
exprs_most [] = omega arith
exprs_most (x ∷ xs) = omega (arith, exprs_most xs)

made_most : (test : Option typed.Expr) (start step body : typed.Stmt) (p : Place)
    → stmt_most (for_made test start step body p)
    ≤ option_most test + stmt_most start + stmt_most step + stmt_most body + 3
made_most None start step body p = omega arith
made_most (Some test) start step body p = omega arith

declrs_less : (ds : Declrs) → declrs_size ds ≤ declrs_before_comma ds
declrs_less no_declrs = omega arith
declrs_less (and_declr ds d) = omega arith

module _ (t : Table) where
  condition_costs : (s : Scope) (l : ℕ) (x : Expr) → Ok (ValueWithin (expr_size x)) (condition t s l x)
  condition_costs s l x =
      ok_then (ValueWithin (expr_size x)) (ValueWithin (expr_size x)) (typing t s x) _ (typing_costs t s x) (λ y few.
      ok_if (ValueWithin (expr_size x)) (is_int y.typed.kind) _ _ (λ is. few) (λ is. tt))

  declarations_cost : (s : Scope) (l : ℕ) (h : DeclHead) (ds : Declrs)
      → Ok (AllStatedWithin (declrs_size ds)) (declarations t s l h ds)
  declarations_cost s l h no_declrs = omega arith
  declarations_cost s l h (and_declr ds d) =
      let all = declrs_size (and_declr ds d) in
      ok_then (AllStatedWithin (declrs_size ds)) (AllStatedWithin all) (declarations t s l h ds) _
      (declarations_cost s l h ds) (λ before few.
      ok_then (ValueWithin (declr_size d)) (AllStatedWithin all) (typing t before.scope (tree.declare l h d)) _
      (declared_costs t before.scope l h d) (λ x less.
      omega (arith, declrs_less ds, in_order_more before.stmts (typed.Simple x.typed.expr (place x.scope l)))))

  printed_costs : (n l : ℕ) (xs : AllValued) → total xs.typed + 1 ≤ token_steps * n
      → Ok (StatedWithin n) (printed l xs)
  printed_costs n l xs few =
      ok_if (StatedWithin n) (is_empty xs.typed || list_any (λ x. is_void x.kind) xs.typed) _ _ (λ is. tt)
      (λ is. omega (arith, exprs_most xs.typed))

  jump_costs : (o : Surroundings) (s : Scope) (l : ℕ) (made : Place → typed.Stmt)
      → ((p : Place) → stmt_most (made p) ≤ 1) → Ok (StatedWithin 2) (in_loop_only o s l made)
  jump_costs o s l made one = ok_if (StatedWithin 2) o.in_loop _ _ (λ is. omega (arith, one (place s l))) (λ is. tt)

  returned_costs : (n l : ℕ) (r : Option Kind) (x : Valued) → most x.typed.expr + 3 ≤ token_steps * n
      → Ok (StatedWithin n) (returned t.parents l r x)
  returned_costs n l None x few = tt
  returned_costs n l (Some k) x few =
      ok_if (StatedWithin n) (e.fits t.parents x.typed k) _ _ (λ is. omega (arith, taken_most x.typed k)) (λ is. tt)

  bare_costs : (s : Scope) (l : ℕ) (r : Option Kind) → Ok (StatedWithin 2) (bare_return s l r)
  bare_costs s l (Some Void) = omega arith
  bare_costs s l _ = tt

  return_costs : (o : Surroundings) (s : Scope) (l : ℕ) (x : Option Expr)
      → Ok (StatedWithin (option_size x + 2)) (return_meaning t o s l x)
  return_costs o s l None = bare_costs s l o.result
  return_costs o s l (Some x) =
      ok_then (ValueWithin (expr_size x)) (StatedWithin (expr_size x + 2)) (typing t s x) _ (typing_costs t s x)
      (λ y few. returned_costs (expr_size x + 2) l o.result y (omega arith))

  test_costs : (s : Scope) (l : ℕ) (c : Stmt) → Ok (TestWithin (stmt_size c)) (for_test t s l c)
  test_costs s l (tree.empty k) = omega arith
  test_costs s l (tree.simple k x) =
      ok_then (ValueWithin (expr_size x)) (TestWithin (expr_size x + 1)) (condition t s l x) _ (condition_costs s l x)
      (λ y few. omega arith)
  test_costs s l (tree.declares k h ds) =
      then_any (TestWithin (stmt_size (tree.declares k h ds))) (declarations t s k h ds)
      (λ all. wrong all.scope.file l Mismatch) (λ all. tt)
  test_costs s l _ = tt

  step_costs : (s : Scope) (x : Option Expr) → Ok (StatedWithin (option_size x)) (for_step t s x)
  step_costs s None = omega arith
  step_costs s (Some x) =
      ok_then (ValueWithin (expr_size x)) (StatedWithin (expr_size x)) (typing t s x) _ (typing_costs t s x)
      (λ y few. omega arith)

  -- a statement in a block of its own, and what comes next
  in_block : (n all : ℕ) (a : Answer Stated) (next : Stated → Answer Stated) → Ok (StatedWithin n) a
      → ((y : Stated) → StatedWithin n y → Ok (StatedWithin all) (next y))
      → Ok (StatedWithin all) (and_then (closed a) next)
  in_block n all (gives y) next few goes = goes (left y.stmt y.scope) few
  in_block n all (refused why) next few goes = tt

  -- a condition, and what comes next
  on_condition : (s : Scope) (l : ℕ) (c : Expr) (all : ℕ) (next : Valued → Answer Stated)
      → ((x : Valued) → ValueWithin (expr_size c) x → Ok (StatedWithin all) (next x))
      → Ok (StatedWithin all) (and_then (condition t s l c) next)
  on_condition s l c all next goes =
      ok_then (ValueWithin (expr_size c)) (StatedWithin all) (condition t s l c) next (condition_costs s l c) goes

  mutual
    pub statement_costs : (o : Surroundings) (s : Scope) (x : Stmt)
        → Ok (StatedWithin (stmt_size x)) (statement t o s x)
    statement_costs o s (tree.block l xs) =
        ok_then (AllStatedWithin (stmts_size xs)) (StatedWithin (stmts_size xs + 2))
        (statements t o (with_block s) xs) _
        (statements_cost o (with_block s) xs) (λ all few. omega arith)
    statement_costs o s (tree.empty l) = omega arith
    statement_costs o s (tree.simple l x) =
        ok_then (ValueWithin (expr_size x)) (StatedWithin (expr_size x + 1)) (typing t s x) _ (typing_costs t s x)
        (λ y few. omega arith)
    statement_costs o s (tree.declares l h ds) =
        ok_then (AllStatedWithin (declrs_size ds)) (StatedWithin (stmt_size (tree.declares l h ds)))
        (declarations t s l h ds) _ (declarations_cost s l h ds) (λ all few. omega arith)
    statement_costs o s (tree.print l xs) =
        ok_then (AllWithin (exprs_size xs)) (StatedWithin (exprs_size xs + 3)) (values t s xs) _ (values_cost t s xs)
        (λ ys few. printed_costs (exprs_size xs + 3) l ys (omega arith))
    statement_costs o s (tree.if_then l c a) =
        let all = stmt_size (tree.if_then l c a) in
        on_condition s l c all _ (λ x few.
        in_block (stmt_size a) all (statement t o (with_block x.scope) a) _
        (statement_costs o (with_block x.scope) a) (λ y less. omega arith))
    statement_costs o s (tree.if_else l c a b) =
        let all = stmt_size (tree.if_else l c a b) in
        on_condition s l c all _ (λ x few.
        in_block (stmt_size a) all (statement t o (with_block x.scope) a) _
        (statement_costs o (with_block x.scope) a) (λ y less.
        in_block (stmt_size b) all (statement t o (with_block y.scope) b) _
        (statement_costs o (with_block y.scope) b) (λ z least. omega arith)))
    statement_costs o s (tree.while_do l c a) =
        let all = stmt_size (tree.while_do l c a) in
        on_condition s l c all _ (λ x few.
        in_block (stmt_size a) all (statement t (looped o) (with_block x.scope) a) _
        (statement_costs (looped o) (with_block x.scope) a) (λ y less. omega arith))
    statement_costs o s (tree.until_do l c a) =
        let all = stmt_size (tree.until_do l c a) in
        on_condition s l c all _ (λ x few.
        in_block (stmt_size a) all (statement t (looped o) (with_block x.scope) a) _
        (statement_costs (looped o) (with_block x.scope) a) (λ y less. omega arith))
    statement_costs o s (tree.do_while l a c) =
        let all = stmt_size (tree.do_while l a c) in
        in_block (stmt_size a) all (statement t (looped o) (with_block s) a) _
        (statement_costs (looped o) (with_block s) a) (λ y few.
        on_condition y.scope l c all _ (λ x less. omega arith))
    statement_costs o s (tree.do_until l a c) =
        let all = stmt_size (tree.do_until l a c) in
        in_block (stmt_size a) all (statement t (looped o) (with_block s) a) _
        (statement_costs (looped o) (with_block s) a) (λ y few.
        on_condition y.scope l c all _ (λ x less. omega arith))
    statement_costs o s (tree.for_do l a c x b) =
        let all = stmt_size (tree.for_do l a c x b) in
        ok_then (StatedWithin (stmt_size a)) (StatedWithin all) (statement t o (with_block s) a) _
        (statement_costs o (with_block s) a) (λ start first.
        ok_then (TestWithin (stmt_size c)) (StatedWithin all) (for_test t start.scope l c) _
        (test_costs start.scope l c) (λ test second.
        ok_then (StatedWithin (option_size x)) (StatedWithin all) (for_step t test.scope x) _
        (step_costs test.scope x) (λ step third.
        in_block (stmt_size b) all (statement t (looped o) (with_block step.scope) b) _
        (statement_costs (looped o) (with_block step.scope) b) (λ body last.
        omega (arith, made_most test.test start.stmt step.stmt body.stmt (place body.scope l))))))
    statement_costs o s (tree.for_each l h n q a b) =
        let all = stmt_size (tree.for_each l h n q a b) in
        ok_then (ValueWithin (expr_size a)) (StatedWithin all) (typing t (with_block s) a) _
        (typing_costs t (with_block s) a) (λ x few.
        then_any (StatedWithin all) (local_item t x.scope l h n q (item_kind x.typed.kind) h.base) _ (λ k.
        in_block (stmt_size b) all (statement t (looped o) (with_block (with_local x.scope n k)) b) _
        (statement_costs (looped o) (with_block (with_local x.scope n k)) b) (λ y less. omega arith)))
    statement_costs o s (tree.repeat l c a) =
        let all = stmt_size (tree.repeat l c a) in
        on_condition s l c all _ (λ x few.
        in_block (stmt_size a) all (statement t (looped o) (with_block x.scope) a) _
        (statement_costs (looped o) (with_block x.scope) a) (λ y less. omega arith))
    statement_costs o s (tree.break l) = jump_costs o s l typed.Break (λ p. omega arith)
    statement_costs o s (tree.continue l) = jump_costs o s l typed.Continue (λ p. omega arith)
    statement_costs o s (tree.return l x) = return_costs o s l x

    pub statements_cost : (o : Surroundings) (s : Scope) (xs : Stmts)
        → Ok (AllStatedWithin (stmts_size xs)) (statements t o s xs)
    statements_cost o s no_stmts = omega arith
    statements_cost o s (and_stmt xs x) =
        let all = stmts_size xs + stmt_size x in
        ok_then (AllStatedWithin (stmts_size xs)) (AllStatedWithin all) (statements t o s xs) _
        (statements_cost o s xs) (λ before few.
        ok_then (StatedWithin (stmt_size x)) (AllStatedWithin all) (statement t o before.scope x) _
        (statement_costs o before.scope x) (λ y less. omega (arith, in_order_more before.stmts y.stmt)))
