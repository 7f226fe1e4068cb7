-- The walks over statements that hold lists, and over lists of statements and of declarations.
use Rattle.std.proofs.Common.{rules, ◌≡◌, ℕ, ◌+◌, List, [], ◌∷◌, ◌++◌, map, refl, sym, ap, ◌∙◌}
use Rattle.std.proofs.Common.{Box, Global}
use Rattle.std.proofs.lemmas.List.{map-append}
use Rattle.ck_syntax.specs.declared.declaration.DeclHead.{DeclHead}
use Rattle.ck_syntax.specs.declared.expr.Declarator.{Declarator}
use Rattle.ck_syntax.specs.declared.expr.Expr.{Expr}
use Rattle.ck_syntax.specs.declared.stmt.LoopItem.{LoopItem}
use Rattle.ck_syntax.specs.declared.stmt.Stmt.{Stmt}
use Rattle.ck_syntax.specs.declared.stmt.StmtKind.TheVariants as raw
use Rattle.ck_syntax.specs.declared.stmt.StmtKind.TheViews.{the_lemmas}
use Rattle.ck_syntax.specs.Size.{stmt_size, stmts_size}
use Rattle.ck_syntax.specs.Tree as tree
use Rattle.ck_syntax.specs.Tree.{Declrs, no_declrs, and_declr, Stmts, no_stmts, and_stmt}
use Rattle.ck_syntax.specs.View.{view_expr, view_stmt, view_stmt_kind, stmts_of, view_declr, declrs_of}
use Rattle.ck_syntax.proofs.Views.{view-Block}
use Rattle.type_table.specs.Answer.{Answer, gives, and_then}
use Rattle.type_table.specs.Table.{Table}
use Rattle.type_table.proofs.Walks.{run, on}
use Rattle.check_scope.specs.Expressions.{typing}
use Rattle.check_scope.specs.Scope.{Scope}
use Rattle.check_scope.specs.View.{valued}
use Rattle.check_scope.specs.declared.typed.Typed.{Typed as TypedValue}
use Rattle.ck_typed.specs.declared.stmt.TypedStmt.{TypedStmt}
use Rattle.ck_typed.specs.View.{view_stmt as view_typed_stmt}
use Rattle.program_laws.specs.declared.surroundings.Surroundings.{Surroundings}
use Rattle.program_laws.specs.Statements.{Stated, AllStated, and_stated, simple, declarations, statement}
use Rattle.program_laws.specs.Statements.{statements}
use Rattle.check_decls.specs.StatementTyping.{block, for_each}
use Rattle.check_decls.specs.View.{stated_as, all_stated}

pub block_is : (t : Table) (o : Surroundings) (s : Scope) (x : Stmt) (all : List Stmt)
    → x.kind ≡ raw.Block all → statement t o s (view_stmt x) ≡ block t o s all
block_is t o s x all is =
    ap (λ k. statement t o s (view_stmt_kind x.line k)) is
    ∙ ap (statement t o s) (view-Block x.line all)

pub block_size : (x : Stmt) (all : List Stmt) → x.kind ≡ raw.Block all
    → stmt_size (view_stmt x) ≡ stmts_size (stmts_of no_stmts all) + 2
block_size x all is =
    ap (λ k. stmt_size (view_stmt_kind x.line k)) is ∙ ap stmt_size (view-Block x.line all)

view_each : (l : ℕ) (item : Box LoopItem Global) (array : Expr) (body : Box Stmt Global)
    → view_stmt_kind l (raw.ForEach item array body)
    ≡ tree.for_each l item.value.head item.value.name item.value.brackets (view_expr array)
    (view_stmt body.value)
view_each l item array body = search (rules, the_lemmas)

pub each_is : (t : Table) (o : Surroundings) (s : Scope) (x : Stmt) (item : Box LoopItem Global)
    (array : Expr) (body : Box Stmt Global) → x.kind ≡ raw.ForEach item array body
    → statement t o s (view_stmt x) ≡ for_each t o s x.line item.value array body.value
each_is t o s x item array body is =
    ap (λ k. statement t o s (view_stmt_kind x.line k)) is
    ∙ ap (statement t o s) (view_each x.line item array body)

-- one declaration more
abbrev pub one_declaration : Table → ℕ → DeclHead → AllStated → Declarator → Answer AllStated
one_declaration t l h all d =
    and_then (typing t all.scope (tree.declare l h (view_declr d)))
    (λ x. gives (and_stated all (simple l x)))

pub declarations_run : (t : Table) (s : Scope) (l : ℕ) (h : DeclHead) (before : Declrs)
    (ds : List Declarator)
    → declarations t s l h (declrs_of before ds)
    ≡ run (on (one_declaration t l h)) (declarations t s l h before) ds
declarations_run t s l h before [] = refl
declarations_run t s l h before (d ∷ ds) =
    declarations_run t s l h (and_declr before (view_declr d)) ds

-- one statement more
abbrev pub one_statement : Table → Surroundings → AllStated → Stmt → Answer AllStated
one_statement t o all x =
    and_then (statement t o all.scope (view_stmt x)) (λ y. gives (and_stated all y))

pub statements_run : (t : Table) (o : Surroundings) (s : Scope) (before : Stmts) (all : List Stmt)
    → statements t o s (stmts_of before all)
    ≡ run (on (one_statement t o)) (statements t o s before) all
statements_run t o s before [] = refl
statements_run t o s before (x ∷ all) = statements_run t o s (and_stmt before (view_stmt x)) all

-- a statement more in the code's list
module _ (t : Table) (xs more : List TypedStmt) (x : TypedStmt) (before behind : Scope)
    (longer : more ≡ xs ++ x ∷ []) where
  with_last : {y : Stated} → y ≡ stated_as x behind
      → gives (and_stated (all_stated xs before) y) ≡ gives (all_stated more behind)
  with_last is =
      ap (λ y. gives (and_stated (all_stated xs before) y)) is
      ∙ ap (λ ys. gives (record { stmts = ys; scope = behind }))
      (sym (ap (map view_typed_stmt) longer ∙ map-append view_typed_stmt xs (x ∷ [])))

  pub one_more_statement : (o : Surroundings) (s : Stmt)
      → statement t o before (view_stmt s) ≡ gives (stated_as x behind)
      → one_statement t o (all_stated xs before) s ≡ gives (all_stated more behind)
  one_more_statement o s is =
      ap (λ a. and_then a (λ y. gives (and_stated (all_stated xs before) y))) is ∙ with_last refl

  pub one_more_declaration : (l : ℕ) (h : DeclHead) (d : Declarator) (value : TypedValue)
      → typing t before (tree.declare l h (view_declr d)) ≡ gives (valued value behind)
      → stated_as x behind ≡ simple l (valued value behind)
      → one_declaration t l h (all_stated xs before) d ≡ gives (all_stated more behind)
  one_more_declaration l h d value is stated =
      ap (λ a. and_then a (λ y. gives (and_stated (all_stated xs before) (simple l y)))) is
      ∙ with_last (sym stated)
