-- What the definition says of statements that stand in memory, each by its parts.
use Rattle.std.specs.Prelude.{ℕ, Bool, List, length, Option}
use Rattle.std.specs.Global.{Box}
use Rattle.ck_values.specs.declared.trap.Place.{Place}
use Rattle.ck_syntax.specs.declared.declaration.DeclHead.{DeclHead}
use Rattle.ck_syntax.specs.declared.expr.Declarator.{Declarator}
use Rattle.ck_syntax.specs.declared.expr.Expr.{Expr}
use Rattle.ck_syntax.specs.declared.stmt.LoopItem.{LoopItem}
use Rattle.ck_syntax.specs.declared.stmt.Stmt.{Stmt}
use Rattle.ck_syntax.specs.Tree.{no_declrs, no_exprs, no_stmts}
use Rattle.ck_syntax.specs.View.{view_expr, view_option, view_stmt, exprs_of, declrs_of, stmts_of}
use Rattle.ck_typed.specs.declared.expr.TypedExpr.{TypedExpr}
use Rattle.ck_typed.specs.declared.stmt.TypedStmt.{TypedStmt}
use Rattle.ck_typed.specs.Tree as typed
use Rattle.ck_typed.specs.View.{view_stmt as typed_stmt}
use Rattle.type_table.specs.Answer.{Answer, gives, and_then}
use Rattle.type_table.specs.Table.{Table}
use Rattle.check_scope.specs.Expressions.{Valued, typing, values}
use Rattle.check_scope.specs.Scope.{Scope, place, with_block, with_local}
use Rattle.program_laws.specs.declared.surroundings.Surroundings.{Surroundings}
use Rattle.program_laws.specs.Statements as of
use Rattle.program_laws.specs.Statements.{Stated, AllStated, Tested, stated, left, looped}
use Rattle.check_decls.specs.View.{view_test}

-- heads and parts -------------------------------------------------------------------------------

abbrev pub condition : Table → Scope → (line : ℕ) → Expr → Answer Valued
condition t s l e = of.condition t s l (view_expr e)

abbrev pub for_test : Table → Scope → (line : ℕ) → Stmt → Answer Tested
for_test t s l x = of.for_test t s l (view_stmt x)

abbrev pub for_step : Table → Scope → Option (Box Expr) → Answer Stated
for_step t s e = of.for_step t s (view_option e)

abbrev pub for_made : Option (Box TypedExpr) → (start step body : TypedStmt) → Place → typed.Stmt
for_made c a e b p = of.for_made (view_test c) (typed_stmt a) (typed_stmt e) (typed_stmt b) p

-- a value that is dropped
abbrev pub dropped : Table → Scope → (line : ℕ) → Expr → Answer Stated
dropped t s l e = and_then (typing t s (view_expr e)) (λ v. gives (of.simple l v))

abbrev pub declarations : Table → Scope → (line : ℕ) → DeclHead → List Declarator → Answer AllStated
declarations t s l h ds = of.declarations t s l h (declrs_of no_declrs ds)

-- a list of declarations is a statement
abbrev pub declared : Table → Scope → (line : ℕ) → DeclHead → List Declarator → Answer Stated
declared t s l h ds =
    and_then (declarations t s l h ds) (λ all. gives (stated (of.block_of all.stmts) all.scope))

abbrev pub print : Table → Scope → (line : ℕ) → List Expr → Answer Stated
print t s l es = and_then (values t s (exprs_of no_exprs es)) (λ xs. of.printed l xs)

abbrev pub return : Table → Surroundings → Scope → (line : ℕ) → Option (Box Expr) → Answer Stated
return t o s l e = of.return_meaning t o s l (view_option e)

-- statements ------------------------------------------------------------------------------------

abbrev pub statement : Table → Surroundings → Scope → Stmt → Answer Stated
statement t o s x = of.statement t o s (view_stmt x)

abbrev pub statements : Table → Surroundings → Scope → List Stmt → Answer AllStated
statements t o s xs = of.statements t o s (stmts_of no_stmts xs)

-- the bodies of `if` and of loops are blocks, and a `for` is one with its head
abbrev pub block : Table → Surroundings → Scope → List Stmt → Answer Stated
block t o s xs =
    and_then (statements t o (with_block s) xs) (λ all. gives (left (of.block_of all.stmts) all.scope))

-- a statement in a block of its own
abbrev pub in_block : Table → Surroundings → Scope → Stmt → Answer Stated
in_block t o s x = of.closed (statement t o (with_block s) x)

abbrev pub if_then : Table → Surroundings → Scope → (line : ℕ) → (test : Expr) → (chosen : Stmt)
    → Answer Stated
if_then t o s l c a =
    and_then (condition t s l c) (λ x.
    and_then (in_block t o x.scope a) (λ y.
    gives (stated (typed.If x.typed.expr y.stmt of.nothing (place y.scope l)) y.scope)))

abbrev pub if_else : Table → Surroundings → Scope → (line : ℕ) → (test : Expr) → (chosen other : Stmt)
    → Answer Stated
if_else t o s l c a b =
    and_then (condition t s l c) (λ x.
    and_then (in_block t o x.scope a) (λ y.
    and_then (in_block t o y.scope b) (λ z.
    gives (stated (typed.If x.typed.expr y.stmt z.stmt (place z.scope l)) z.scope))))

-- a loop whose test comes first, and one whose test comes last; the test of `until` ends it
abbrev pub while_do : Table → Surroundings → Scope → (line : ℕ) → (until : Bool) → (test : Expr)
    → (body : Stmt) → Answer Stated
while_do t o s l until c a =
    and_then (condition t s l c) (λ x.
    and_then (in_block t (looped o) x.scope a) (λ y.
    gives (stated (typed.Loop until x.typed.expr y.stmt (place y.scope l)) y.scope)))

abbrev pub do_while : Table → Surroundings → Scope → (line : ℕ) → (until : Bool) → (body : Stmt)
    → (test : Expr) → Answer Stated
do_while t o s l until a c =
    and_then (in_block t (looped o) s a) (λ y.
    and_then (condition t y.scope l c) (λ x.
    gives (stated (typed.LoopLast until y.stmt x.typed.expr (place x.scope l)) x.scope)))

abbrev pub for_do : Table → Surroundings → Scope → (line : ℕ) → (start test : Stmt) → (step : Option (Box Expr))
    → (body : Stmt) → Answer Stated
for_do t o s l a c e b =
    and_then (statement t o (with_block s) a) (λ x.
    and_then (for_test t x.scope l c) (λ y.
    and_then (for_step t y.scope e) (λ z.
    and_then (in_block t (looped o) z.scope b) (λ w.
    gives (left (of.for_made y.test x.stmt z.stmt w.stmt (place w.scope l)) w.scope)))))

-- over the items of an array
abbrev pub for_each : Table → Surroundings → Scope → (line : ℕ) → (item : LoopItem) → (array : Expr)
    → (body : Stmt) → Answer Stated
for_each t o s l x a b =
    and_then (typing t (with_block s) (view_expr a)) (λ v.
    and_then
    (of.local_item t v.scope l x.head x.name x.brackets (of.item_kind v.typed.kind) x.head.base)
    (λ k.
    and_then (in_block t (looped o) (with_local v.scope x.name k) b) (λ y.
    gives (left
    (typed.ForEach v.typed.expr (length v.scope.locals) (of.widens v.typed.kind k) y.stmt
    (place y.scope l))
    y.scope))))

abbrev pub repeat : Table → Surroundings → Scope → (line : ℕ) → (count : Expr) → (body : Stmt)
    → Answer Stated
repeat t o s l n a =
    and_then (condition t s l n) (λ x.
    and_then (in_block t (looped o) x.scope a) (λ y.
    gives (stated (typed.Repeat x.typed.expr y.stmt (place y.scope l)) y.scope)))
