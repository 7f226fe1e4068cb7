-- A statement leaves the scope as it was, but for new locals in its innermost level.
use Rattle.std.proofs.Common.{ℕ, ◌||◌, Option, Some, None}
use Rattle.std.specs.List.{list_any}
use Rattle.ck_values.specs.declared.kind.Kind.{Kind}
use Rattle.ck_values.specs.declared.kind.Kind.TheVariants.{Void}
use Rattle.ck_values.specs.declared.trap.Place.{Place}
use Rattle.ck_syntax.specs.declared.declaration.DeclHead.{DeclHead}
use Rattle.ck_syntax.specs.Tree as tree
use Rattle.ck_syntax.specs.Tree.{Expr, expr_line, Declrs, no_declrs, and_declr, Stmt, Stmts}
use Rattle.ck_syntax.specs.Tree.{no_stmts, and_stmt}
use Rattle.ck_typed.specs.Tree as typed
use Rattle.type_table.specs.declared.fault.FaultKind.TheVariants.{Mismatch}
use Rattle.type_table.specs.Answer.{Answer, gives, refused, and_then, wrong}
use Rattle.type_table.specs.Table.{Table}
use Rattle.program_laws.specs.declared.surroundings.Surroundings.{Surroundings}
use Rattle.check_scope.specs.Expressions as e
use Rattle.check_scope.specs.Expressions.{Valued, AllValued, typing, values, is_int, meaning}
use Rattle.check_scope.specs.Denotations.{is_void}
use Rattle.check_scope.specs.Scope.{Scope, is_empty, with_local, with_block, without_block}
use Rattle.program_laws.specs.Statements.{Stated, AllStated, int_at, condition, simple, declarations}
use Rattle.program_laws.specs.Statements.{printed, in_loop_only, returned, bare_return}
use Rattle.program_laws.specs.Statements.{return_meaning, Tested, tested, for_test, for_step, looped}
use Rattle.program_laws.specs.Statements.{item_kind, local_item, closed, statement, statements}
use Rattle.expr_laws.proofs.Growing.{Keeps, keeps_refl, keeps_trans, local_keeps, value_keeps}
use Rattle.expr_laws.proofs.Growing.{meaning_keeps, values_keep}
use Rattle.expr_laws.proofs.FineDeclarations.{anything}
use Rattle.expr_laws.proofs.Oks.{ok_then, ok_if, ok_map}
use Rattle.expr_laws.proofs.Premises.{Ok, Grows}
use Rattle.program_laws.proofs.FineStatements.{block_keeps}

-- after what kept the scope, what keeps it
after : {A B : Type 0} (t : Table) (of : A → Scope) (to : B → Scope) (s : Scope) (a : Answer A)
    (f : A → Answer B) → Ok (λ x. Keeps t s (of x)) a
    → ((x : A) → Ok (λ y. Keeps t (of x) (to y)) (f x)) → Ok (λ y. Keeps t s (to y)) (and_then a f)
after t of to s (gives x) f keeps next =
    ok_map (λ y. Keeps t (of x) (to y)) (λ y. Keeps t s (to y)) (f x)
    (λ y more. keeps_trans s (of x) (to y) keeps more) (next x)
after t of to s (refused why) f keeps next = tt

abbrev valued : Valued → Scope
valued x = x.scope

abbrev all_valued : AllValued → Scope
all_valued x = x.scope

abbrev behind : Stated → Scope
behind x = x.scope

abbrev all_behind : AllStated → Scope
all_behind x = x.scope

abbrev test_behind : Tested → Scope
test_behind x = x.scope

module _ (t : Table) where
  typing_keeps : (s : Scope) (x : Expr) → Ok (λ y. Keeps t s (valued y)) (typing t s x)
  typing_keeps s x = value_keeps t s (expr_line x) (meaning t s x) (meaning_keeps t s x)

  int_keeps : (l : ℕ) (x : Valued) → Ok (λ y. Keeps t (valued x) (valued y)) (int_at l x)
  int_keeps l x =
      ok_if (λ y. Keeps t x.scope (valued y)) (is_int x.typed.kind) _ _ (λ is. keeps_refl x.scope)
      (λ is. tt)

  condition_keeps : (s : Scope) (l : ℕ) (x : Expr)
      → Ok (λ y. Keeps t s (valued y)) (condition t s l x)
  condition_keeps s l x =
      after t valued valued s (typing t s x) (λ y. int_at l y) (typing_keeps s x) (λ y. int_keeps l y)

  declarations_keep : (s : Scope) (l : ℕ) (h : DeclHead) (ds : Declrs)
      → Ok (λ y. Keeps t s (all_behind y)) (declarations t s l h ds)
  declarations_keep s l h no_declrs = keeps_refl s
  declarations_keep s l h (and_declr ds d) =
      after t all_behind all_behind s (declarations t s l h ds) _ (declarations_keep s l h ds) (λ all.
      after t valued all_behind all.scope (typing t all.scope (tree.declare l h d)) _
      (typing_keeps all.scope (tree.declare l h d)) (λ x. keeps_refl x.scope))

  printed_keeps : (l : ℕ) (xs : AllValued)
      → Ok (λ y. Keeps t (all_valued xs) (behind y)) (printed l xs)
  printed_keeps l xs =
      ok_if (λ y. Keeps t xs.scope (behind y))
      (is_empty xs.typed || list_any (λ x. is_void x.kind) xs.typed) _ _ (λ is. tt)
      (λ is. keeps_refl xs.scope)

  jump_keeps : (o : Surroundings) (s : Scope) (l : ℕ) (made : Place → typed.Stmt)
      → Ok (λ y. Keeps t s (behind y)) (in_loop_only o s l made)
  jump_keeps o s l made =
      ok_if (λ y. Keeps t s (behind y)) o.in_loop _ _ (λ is. keeps_refl s) (λ is. tt)

  returned_keeps : (l : ℕ) (r : Option Kind) (x : Valued)
      → Ok (λ y. Keeps t (valued x) (behind y)) (returned t.parents l r x)
  returned_keeps l None x = tt
  returned_keeps l (Some k) x =
      ok_if (λ y. Keeps t x.scope (behind y)) (e.fits t.parents x.typed k) _ _
      (λ is. keeps_refl x.scope) (λ is. tt)

  bare_keeps : (s : Scope) (l : ℕ) (r : Option Kind)
      → Ok (λ y. Keeps t s (behind y)) (bare_return s l r)
  bare_keeps s l (Some Void) = keeps_refl s
  bare_keeps s l _ = tt

  return_keeps : (o : Surroundings) (s : Scope) (l : ℕ) (x : Option Expr)
      → Ok (λ y. Keeps t s (behind y)) (return_meaning t o s l x)
  return_keeps o s l None = bare_keeps s l o.result
  return_keeps o s l (Some x) =
      after t valued behind s (typing t s x) (λ y. returned t.parents l o.result y) (typing_keeps s x)
      (λ y. returned_keeps l o.result y)

  test_keeps : (s : Scope) (l : ℕ) (c : Stmt) → Ok (λ y. Keeps t s (test_behind y)) (for_test t s l c)
  test_keeps s l (tree.empty k) = keeps_refl s
  test_keeps s l (tree.simple k x) =
      after t valued test_behind s (condition t s l x) (λ y. gives (tested y)) (condition_keeps s l x)
      (λ y. keeps_refl y.scope)
  test_keeps s l (tree.declares k h ds) =
      after t all_behind test_behind s (declarations t s k h ds)
      (λ all. wrong all.scope.file l Mismatch) (declarations_keep s k h ds) (λ all. tt)
  test_keeps s l _ = tt

  step_keeps : (s : Scope) (x : Option Expr) → Ok (λ y. Keeps t s (behind y)) (for_step t s x)
  step_keeps s None = keeps_refl s
  step_keeps s (Some x) =
      after t valued behind s (typing t s x) (λ y. gives (simple (expr_line x) y)) (typing_keeps s x)
      (λ y. keeps_refl y.scope)

  -- what stands in a block
  closed_keeps : (s : Scope) (a : Answer Stated) → Ok (λ y. Keeps t (with_block s) (behind y)) a
      → Ok (λ y. Keeps t s (behind y)) (closed a)
  closed_keeps s (gives y) keeps = block_keeps t s y.scope keeps
  closed_keeps s (refused why) keeps = tt

  in_block : {B : Type 0} (to : B → Scope) (s : Scope) (a : Answer Stated) (f : Stated → Answer B)
      → Ok (λ y. Keeps t (with_block s) (behind y)) a
      → ((y : Stated) → Ok (λ z. Keeps t y.scope (to z)) (f y))
      → Ok (λ z. Keeps t s (to z)) (and_then (closed a) f)
  in_block to s a f keeps next = after t behind to s (closed a) f (closed_keeps s a keeps) next

  all_in_block : (s : Scope) (a : Answer AllStated) (f : AllStated → Answer Stated)
      → Ok (λ y. Keeps t (with_block s) (all_behind y)) a
      → ((y : AllStated) → Ok (λ z. Keeps t (without_block y.scope) (behind z)) (f y))
      → Ok (λ z. Keeps t s (behind z)) (and_then a f)
  all_in_block s (gives y) f keeps next =
      ok_map (λ z. Keeps t (without_block y.scope) (behind z)) (λ z. Keeps t s (behind z)) (f y)
      (λ z more. keeps_trans s (without_block y.scope) (behind z)
      (block_keeps t s y.scope keeps) more) (next y)
  all_in_block s (refused why) f keeps next = tt

  mutual
    pub statement_keeps : (o : Surroundings) (s : Scope) (x : Stmt)
        → Ok (λ y. Keeps t s (behind y)) (statement t o s x)
    statement_keeps o s (tree.block l xs) =
        all_in_block s (statements t o (with_block s) xs) _ (statements_keep o (with_block s) xs)
        (λ all. keeps_refl (without_block all.scope))
    statement_keeps o s (tree.empty l) = keeps_refl s
    statement_keeps o s (tree.simple l x) =
        after t valued behind s (typing t s x) _ (typing_keeps s x) (λ y. keeps_refl y.scope)
    statement_keeps o s (tree.declares l h ds) =
        after t all_behind behind s (declarations t s l h ds) _ (declarations_keep s l h ds)
        (λ all. keeps_refl all.scope)
    statement_keeps o s (tree.print l xs) =
        after t all_valued behind s (values t s xs) _ (values_keep t s xs) (λ ys. printed_keeps l ys)
    statement_keeps o s (tree.if_then l c a) =
        after t valued behind s (condition t s l c) _ (condition_keeps s l c) (λ x.
        in_block behind x.scope (statement t o (with_block x.scope) a) _
        (statement_keeps o (with_block x.scope) a) (λ y. keeps_refl y.scope))
    statement_keeps o s (tree.if_else l c a b) =
        after t valued behind s (condition t s l c) _ (condition_keeps s l c) (λ x.
        in_block behind x.scope (statement t o (with_block x.scope) a) _
        (statement_keeps o (with_block x.scope) a) (λ y.
        in_block behind y.scope (statement t o (with_block y.scope) b) _
        (statement_keeps o (with_block y.scope) b) (λ z. keeps_refl z.scope)))
    statement_keeps o s (tree.while_do l c a) =
        after t valued behind s (condition t s l c) _ (condition_keeps s l c) (λ x.
        in_block behind x.scope (statement t (looped o) (with_block x.scope) a) _
        (statement_keeps (looped o) (with_block x.scope) a)
        (λ y. keeps_refl y.scope))
    statement_keeps o s (tree.until_do l c a) =
        after t valued behind s (condition t s l c) _ (condition_keeps s l c) (λ x.
        in_block behind x.scope (statement t (looped o) (with_block x.scope) a) _
        (statement_keeps (looped o) (with_block x.scope) a)
        (λ y. keeps_refl y.scope))
    statement_keeps o s (tree.do_while l a c) =
        in_block behind s (statement t (looped o) (with_block s) a) _
        (statement_keeps (looped o) (with_block s) a) (λ y.
        after t valued behind y.scope (condition t y.scope l c) _ (condition_keeps y.scope l c)
        (λ x. keeps_refl x.scope))
    statement_keeps o s (tree.do_until l a c) =
        in_block behind s (statement t (looped o) (with_block s) a) _
        (statement_keeps (looped o) (with_block s) a) (λ y.
        after t valued behind y.scope (condition t y.scope l c) _ (condition_keeps y.scope l c)
        (λ x. keeps_refl x.scope))
    statement_keeps o s (tree.for_do l a c x b) =
        ok_then (λ y. Keeps t (with_block s) (behind y)) (λ z. Keeps t s (behind z))
        (statement t o (with_block s) a) _ (statement_keeps o (with_block s) a) (λ start first.
        ok_then (λ y. Keeps t start.scope (test_behind y)) (λ z. Keeps t s (behind z))
        (for_test t start.scope l c) _ (test_keeps start.scope l c) (λ test second.
        ok_then (λ y. Keeps t test.scope (behind y)) (λ z. Keeps t s (behind z))
        (for_step t test.scope x) _ (step_keeps test.scope x) (λ step third.
        ok_then (λ y. Keeps t step.scope (behind y)) (λ z. Keeps t s (behind z))
        (closed (statement t (looped o) (with_block step.scope) b)) _
        (closed_keeps step.scope (statement t (looped o) (with_block step.scope) b)
        (statement_keeps (looped o) (with_block step.scope) b)) (λ body last.
        block_keeps t s body.scope
        (keeps_trans (with_block s) start.scope body.scope first
        (keeps_trans start.scope test.scope body.scope second
        (keeps_trans test.scope step.scope body.scope third last)))))))
    statement_keeps o s (tree.for_each l h n brackets a b) =
        ok_then (λ y. Keeps t (with_block s) (valued y)) (λ z. Keeps t s (behind z))
        (typing t (with_block s) a) _ (typing_keeps (with_block s) a) (λ x first.
        ok_then (λ k. Unit {0}) (λ z. Keeps t s (behind z))
        (local_item t x.scope l h n brackets (item_kind x.typed.kind) h.base) _
        (anything (local_item t x.scope l h n brackets (item_kind x.typed.kind) h.base)) (λ k _.
        let u = with_local x.scope n k in
        ok_then (λ y. Keeps t u (behind y)) (λ z. Keeps t s (behind z))
        (closed (statement t (looped o) (with_block u) b)) _
        (closed_keeps u (statement t (looped o) (with_block u) b)
        (statement_keeps (looped o) (with_block u) b)) (λ y last.
        block_keeps t s y.scope
        (keeps_trans (with_block s) x.scope y.scope first
        (keeps_trans x.scope u y.scope (local_keeps t x.scope n k) last)))))
    statement_keeps o s (tree.repeat l c a) =
        after t valued behind s (condition t s l c) _ (condition_keeps s l c) (λ x.
        in_block behind x.scope (statement t (looped o) (with_block x.scope) a) _
        (statement_keeps (looped o) (with_block x.scope) a)
        (λ y. keeps_refl y.scope))
    statement_keeps o s (tree.break l) = jump_keeps o s l typed.Break
    statement_keeps o s (tree.continue l) = jump_keeps o s l typed.Continue
    statement_keeps o s (tree.return l x) = return_keeps o s l x

    pub statements_keep : (o : Surroundings) (s : Scope) (xs : Stmts)
        → Ok (λ y. Keeps t s (all_behind y)) (statements t o s xs)
    statements_keep o s no_stmts = keeps_refl s
    statements_keep o s (and_stmt xs x) =
        after t all_behind all_behind s (statements t o s xs) _ (statements_keep o s xs) (λ all.
        after t behind all_behind all.scope (statement t o all.scope x) _
        (statement_keeps o all.scope x) (λ y. keeps_refl y.scope))

  pub statement_grows : (o : Surroundings) (s : Scope) (x : Stmt)
      → Ok (λ y. Grows s y.scope) (statement t o s x)
  statement_grows o s x =
      ok_map (λ y. Keeps t s (behind y)) (λ y. Grows s y.scope) (statement t o s x)
      (λ y keeps. keeps.0) (statement_keeps o s x)

  pub statements_grow : (o : Surroundings) (s : Scope) (xs : Stmts)
      → Ok (λ y. Grows s y.scope) (statements t o s xs)
  statements_grow o s xs =
      ok_map (λ y. Keeps t s (all_behind y)) (λ y. Grows s y.scope) (statements t o s xs)
      (λ y keeps. keeps.0) (statements_keep o s xs)
