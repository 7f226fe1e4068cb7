-- A statement lies in the files of the program, and what is wrong with it stands in the file of its
-- scope, which is also that of the scope behind it.
use Rattle.std.proofs.Common.{◌≡◌, ℕ, ◌<◌, ◌||◌, List, [], ◌∷◌, ◌++◌, Option, Some, None}
use Rattle.std.specs.List.{list_any}
use Rattle.std.specs.Prelude.{IfSome, nat_lt}
use Rattle.ck_values.specs.declared.kind.Kind.{Kind}
use Rattle.ck_values.specs.declared.kind.Kind.TheVariants.{Void}
use Rattle.ck_values.specs.declared.trap.Place.{Place}
use Rattle.ck_syntax.specs.declared.declaration.Base.{Base}
use Rattle.ck_syntax.specs.declared.declaration.DeclHead.{DeclHead}
use Rattle.ck_syntax.specs.Tree as tree
use Rattle.ck_syntax.specs.Tree.{Name, Expr, expr_line, Declrs, no_declrs, and_declr, Stmt, Stmts}
use Rattle.ck_syntax.specs.Tree.{no_stmts, and_stmt}
use Rattle.ck_typed.specs.Tree as typed
use Rattle.ck_typed.specs.WellFormed.{LiesIn, ExprLies, ExprsLie, StmtLies, StmtsLie}
use Rattle.type_table.specs.Answer.{Answer, gives, refused, and_then}
use Rattle.type_rules.specs.Fitting.{kind_fits}
use Rattle.type_table.specs.Table.{Table}
use Rattle.type_table.specs.Types.{named_by, is_unknown}
use Rattle.type_table.proofs.FaultFiles.{Placed, InFile, placed_then, placed_if, if_in}
use Rattle.type_table.proofs.Ranges.{Each}
use Rattle.program_laws.specs.declared.surroundings.Surroundings.{Surroundings}
use Rattle.check_scope.specs.Denotations.{Typed, is_void}
use Rattle.check_scope.specs.Expressions as e
use Rattle.check_scope.specs.Expressions.{Valued, AllValued, typing, values, is_int}
use Rattle.check_scope.specs.Scope.{Scope, is_empty, is_declared, with_local, place, with_block}
use Rattle.program_laws.specs.Statements.{Stated, AllStated, in_order, int_at, condition}
use Rattle.program_laws.specs.Statements.{simple, declarations, exprs, printed}
use Rattle.program_laws.specs.Statements.{in_loop_only, returned, bare_return, return_meaning}
use Rattle.program_laws.specs.Statements.{Tested, for_test, for_step, for_made, looped}
use Rattle.program_laws.specs.Statements.{item_kind, head_kind, taken_item, auto_item}
use Rattle.program_laws.specs.Statements.{local_item, left, closed, statement, statements}
use Rattle.expr_laws.proofs.NameFiles.{TypedLies}
use Rattle.expr_laws.proofs.OperationFiles.{taken_lies}
use Rattle.expr_laws.proofs.ExprFiles.{ValuedIn, AllIn, inside, values_in, typing_in}

module _ (files : ℕ) where
  -- parts of statements
  exprs_lie : (xs : List Typed) → Each (TypedLies files) xs → ExprsLie files (exprs xs)
  exprs_lie [] lie = tt
  exprs_lie (x ∷ xs) lie = (lie.0.0, exprs_lie xs lie.1)

  pub more_lie : (xs : List typed.Stmt) (x : typed.Stmt) → StmtsLie files (in_order xs)
      → StmtLies files x → StmtsLie files (in_order (xs ++ x ∷ []))
  more_lie [] x lie lies = (lies, tt)
  more_lie (y ∷ ys) x lie lies = (lie.0, more_lie ys x lie.1 lies)

  made_lies : (test : Option typed.Expr) (start step body : typed.Stmt) (q : Place)
      → IfSome test (ExprLies files) → StmtLies files start → StmtLies files step
      → StmtLies files body → LiesIn files q → StmtLies files (for_made test start step body q)
  made_lies None start step body q test first next last lies = (first, next, last, lies)
  made_lies (Some c) start step body q test first next last lies = (first, test, next, last, lies)

module _ (files f : ℕ) where
  abbrev pub StatedIn : Stated → Type 0
  StatedIn x = (x.scope.file ≡ f) × StmtLies files x.stmt

  abbrev pub AllStatedIn : AllStated → Type 0
  AllStatedIn xs = (xs.scope.file ≡ f) × StmtsLie files (in_order xs.stmts)

  abbrev TestedIn : Tested → Type 0
  TestedIn x = (x.scope.file ≡ f) × IfSome x.test (ExprLies files)

-- a file of the program
module _ (files f : ℕ) (known : f < files) (t : Table) where
  abbrev V : Valued → Type 0
  V x = ValuedIn files f x

  abbrev S : Stated → Type 0
  S x = StatedIn files f x

  abbrev Ss : AllStated → Type 0
  Ss xs = AllStatedIn files f xs

  abbrev T : Tested → Type 0
  T x = TestedIn files f x

  -- the place of a line of it
  within : (s : Scope) → s.file ≡ f → s.file < files
  within = inside files f known

  simple_in : (l : ℕ) (x : Valued) → V x → S (simple l x)
  simple_in l x so = (so.0, (so.1.0, within x.scope so.0))

  int_in : (l : ℕ) (x : Valued) → V x → Placed V f (int_at l x)
  int_in l x so = placed_if V f (is_int x.typed.kind) _ _ so so.0

  condition_in : (s : Scope) → s.file ≡ f → (l : ℕ) (x : Expr) → Placed V f (condition t s l x)
  condition_in s here l x =
      placed_then V V f (typing t s x) _ (typing_in files f known t s here x)
      (λ y so. int_in l y so)

  declarations_in : (s : Scope) → s.file ≡ f → (l : ℕ) (h : DeclHead) (ds : Declrs)
      → Placed Ss f (declarations t s l h ds)
  declarations_in s here l h no_declrs = (here, tt)
  declarations_in s here l h (and_declr ds d) =
      placed_then Ss Ss f (declarations t s l h ds) _ (declarations_in s here l h ds) (λ all so.
      placed_then V Ss f (typing t all.scope (tree.declare l h d)) _
      (typing_in files f known t all.scope so.0 (tree.declare l h d)) (λ x too.
      (too.0, more_lie files all.stmts (simple l x).stmt so.1 (simple_in l x too).1)))

  printed_in : (l : ℕ) (xs : AllValued) → AllIn files f xs → Placed S f (printed l xs)
  printed_in l xs so =
      placed_if S f (is_empty xs.typed || list_any (λ x. is_void x.kind) xs.typed) _ _
      so.0 (so.0, (exprs_lie files xs.typed so.1, within xs.scope so.0))

  jump_in : (o : Surroundings) (s : Scope) → s.file ≡ f → (l : ℕ) (made : Place → typed.Stmt)
      → ((q : Place) → LiesIn files q → StmtLies files (made q)) → Placed S f (in_loop_only o s l made)
  jump_in o s here l made lies =
      placed_if S f o.in_loop _ _ (here, lies (place s l) (within s here)) here

  returned_in : (l : ℕ) (r : Option Kind) (x : Valued) → V x
      → Placed S f (returned t.parents l r x)
  returned_in l None x so = so.0
  returned_in l (Some k) x so =
      placed_if S f (e.fits t.parents x.typed k) _ _
      (so.0, (taken_lies files x.typed k so.1, within x.scope so.0)) so.0

  bare_in : (s : Scope) → s.file ≡ f → (l : ℕ) (r : Option Kind) → Placed S f (bare_return s l r)
  bare_in s here l None = here
  bare_in s here l (Some Void) = (here, (within s here, within s here))
  bare_in s here l (Some _) = here

  return_in : (o : Surroundings) (s : Scope) → s.file ≡ f → (l : ℕ) (x : Option Expr)
      → Placed S f (return_meaning t o s l x)
  return_in o s here l None = bare_in s here l o.result
  return_in o s here l (Some x) =
      placed_then V S f (typing t s x) _ (typing_in files f known t s here x)
      (λ y so. returned_in l o.result y so)

  test_in : (s : Scope) → s.file ≡ f → (l : ℕ) (c : Stmt) → Placed T f (for_test t s l c)
  test_in s here l (tree.empty k) = (here, tt)
  test_in s here l (tree.simple k x) =
      placed_then V T f (condition t s l x) _ (condition_in s here l x) (λ y so. (so.0, so.1.0))
  test_in s here l (tree.declares k h ds) =
      placed_then Ss T f (declarations t s k h ds) _ (declarations_in s here k h ds)
      (λ all so. so.0)
  test_in s here l _ = here

  step_in : (s : Scope) → s.file ≡ f → (x : Option Expr) → Placed S f (for_step t s x)
  step_in s here None = (here, tt)
  step_in s here (Some x) =
      placed_then V S f (typing t s x) _ (typing_in files f known t s here x)
      (λ y so. simple_in (expr_line x) y so)

  -- a statement in a block of its own, and what follows it
  in_block : (a : Answer Stated) (next : Stated → Answer Stated) → Placed S f a
      → ((y : Stated) → S y → Placed S f (next y)) → Placed S f (and_then (closed a) next)
  in_block (gives y) next so go = go (left y.stmt y.scope) so
  in_block (refused why) next so go = so

  -- the name of the items of an array
  taken_item_in : (s : Scope) → s.file ≡ f → (l : ℕ) (item local : Option Kind)
      → InFile f (taken_item t.parents s l item local)
  taken_item_in s here l (Some j) (Some k) = if_in f (kind_fits t.parents j k) _ _ tt here
  taken_item_in s here l None local = here
  taken_item_in s here l (Some j) None = here

  auto_item_in : (s : Scope) → s.file ≡ f → (l : ℕ) (h : DeclHead) (brackets : ℕ)
      (item : Option Kind) → InFile f (auto_item s l h brackets item)
  auto_item_in s here l h brackets None = here
  auto_item_in s here l h brackets (Some k) =
      if_in f (h.is_reference || nat_lt 0 brackets) _ _ here tt

  item_in : (s : Scope) → s.file ≡ f → (l : ℕ) (h : DeclHead) (n : Name) (brackets : ℕ)
      (item : Option Kind) (base : Option Base)
      → InFile f (local_item t s l h n brackets item base)
  item_in s here l h n brackets item None =
      if_in f (is_declared s n) _ _ here (auto_item_in s here l h brackets item)
  item_in s here l h n brackets item (Some b) =
      if_in f (is_unknown (named_by t s.file b)) _ _ here
      (if_in f (is_declared s n) _ _ here
      (taken_item_in s here l item (head_kind h (named_by t s.file b) brackets)))

  mutual
    pub statement_in : (o : Surroundings) (s : Scope) → s.file ≡ f → (x : Stmt)
        → Placed S f (statement t o s x)
    statement_in o s here (tree.block l xs) =
        placed_then Ss S f (statements t o (with_block s) xs) _
        (statements_in o (with_block s) here xs) (λ all so. so)
    statement_in o s here (tree.empty l) = (here, tt)
    statement_in o s here (tree.simple l x) =
        placed_then V S f (typing t s x) _ (typing_in files f known t s here x)
        (λ y so. simple_in l y so)
    statement_in o s here (tree.declares l h ds) =
        placed_then Ss S f (declarations t s l h ds) _ (declarations_in s here l h ds)
        (λ all so. so)
    statement_in o s here (tree.print l xs) =
        placed_then (AllIn files f) S f (values t s xs) _ (values_in files f known t s here xs)
        (λ ys so. printed_in l ys so)
    statement_in o s here (tree.if_then l c a) =
        placed_then V S f (condition t s l c) _ (condition_in s here l c) (λ x so.
        in_block (statement t o (with_block x.scope) a) _
        (statement_in o (with_block x.scope) so.0 a)
        (λ y too. (too.0, (so.1.0, too.1, tt, within y.scope too.0))))
    statement_in o s here (tree.if_else l c a b) =
        placed_then V S f (condition t s l c) _ (condition_in s here l c) (λ x so.
        in_block (statement t o (with_block x.scope) a) _
        (statement_in o (with_block x.scope) so.0 a) (λ y too.
        in_block (statement t o (with_block y.scope) b) _
        (statement_in o (with_block y.scope) too.0 b)
        (λ z last. (last.0, (so.1.0, too.1, last.1, within z.scope last.0)))))
    statement_in o s here (tree.while_do l c a) =
        placed_then V S f (condition t s l c) _ (condition_in s here l c) (λ x so.
        in_block (statement t (looped o) (with_block x.scope) a) _
        (statement_in (looped o) (with_block x.scope) so.0 a)
        (λ y too. (too.0, (so.1.0, too.1, within y.scope too.0))))
    statement_in o s here (tree.until_do l c a) =
        placed_then V S f (condition t s l c) _ (condition_in s here l c) (λ x so.
        in_block (statement t (looped o) (with_block x.scope) a) _
        (statement_in (looped o) (with_block x.scope) so.0 a)
        (λ y too. (too.0, (so.1.0, too.1, within y.scope too.0))))
    statement_in o s here (tree.do_while l a c) =
        in_block (statement t (looped o) (with_block s) a) _
        (statement_in (looped o) (with_block s) here a) (λ y so.
        placed_then V S f (condition t y.scope l c) _ (condition_in y.scope so.0 l c)
        (λ x too. (too.0, (so.1, too.1.0, within x.scope too.0))))
    statement_in o s here (tree.do_until l a c) =
        in_block (statement t (looped o) (with_block s) a) _
        (statement_in (looped o) (with_block s) here a) (λ y so.
        placed_then V S f (condition t y.scope l c) _ (condition_in y.scope so.0 l c)
        (λ x too. (too.0, (so.1, too.1.0, within x.scope too.0))))
    statement_in o s here (tree.for_do l a c x b) =
        placed_then S S f (statement t o (with_block s) a) _
        (statement_in o (with_block s) here a) (λ start first.
        placed_then T S f (for_test t start.scope l c) _ (test_in start.scope first.0 l c)
        (λ test second.
        placed_then S S f (for_step t test.scope x) _ (step_in test.scope second.0 x)
        (λ step third.
        in_block (statement t (looped o) (with_block step.scope) b) _
        (statement_in (looped o) (with_block step.scope) third.0 b) (λ body last. (
          last.0,
          made_lies files test.test start.stmt step.stmt body.stmt (place body.scope l) second.1
              first.1 third.1 last.1 (within body.scope last.0),
        )))))
    statement_in o s here (tree.for_each l h n brackets a b) =
        placed_then V S f (typing t (with_block s) a) _
        (typing_in files f known t (with_block s) here a) (λ x so.
        placed_then (λ k. Unit {0}) S f
        (local_item t x.scope l h n brackets (item_kind x.typed.kind) h.base) _
        (item_in x.scope so.0 l h n brackets (item_kind x.typed.kind) h.base) (λ k _.
        let u = with_local x.scope n k in
        in_block (statement t (looped o) (with_block u) b) _
        (statement_in (looped o) (with_block u) so.0 b)
        (λ y too. (too.0, (so.1.0, too.1, within y.scope too.0)))))
    statement_in o s here (tree.repeat l c a) =
        placed_then V S f (condition t s l c) _ (condition_in s here l c) (λ x so.
        in_block (statement t (looped o) (with_block x.scope) a) _
        (statement_in (looped o) (with_block x.scope) so.0 a)
        (λ y too. (too.0, (so.1.0, too.1, within y.scope too.0))))
    statement_in o s here (tree.break l) = jump_in o s here l typed.Break (λ q lies. lies)
    statement_in o s here (tree.continue l) = jump_in o s here l typed.Continue (λ q lies. lies)
    statement_in o s here (tree.return l x) = return_in o s here l x

    pub statements_in : (o : Surroundings) (s : Scope) → s.file ≡ f → (xs : Stmts)
        → Placed Ss f (statements t o s xs)
    statements_in o s here no_stmts = (here, tt)
    statements_in o s here (and_stmt xs x) =
        placed_then Ss Ss f (statements t o s xs) _ (statements_in o s here xs) (λ all so.
        placed_then S Ss f (statement t o all.scope x) _ (statement_in o all.scope so.0 x)
        (λ y too. (too.0, more_lie files all.stmts y.stmt so.1 too.1)))
