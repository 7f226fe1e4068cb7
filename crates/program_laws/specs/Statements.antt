-- What statements become. The parts of a statement come first, in text order, and then the
-- statement itself.
use Rattle.std.specs.Prelude.{ℕ, pos, nat_lt, Bool, true, false, ◌&&◌, ◌||◌, not, List, [], ◌∷◌, ◌++◌, length, map, Option}
use Rattle.std.specs.Prelude.{Some, None, if◌then◌else◌}
use Rattle.std.specs.List.{list_any}
use Rattle.ck_values.specs.declared.kind.Elem.{Elem}
use Rattle.ck_values.specs.declared.kind.Elem.TheVariants as elem
use Rattle.ck_values.specs.declared.kind.Kind.{Kind}
use Rattle.ck_values.specs.declared.kind.Kind.TheVariants.{Void, One, Row, Grid}
use Rattle.ck_values.specs.declared.trap.Place.{Place}
use Rattle.ck_syntax.specs.declared.declaration.Base.{Base}
use Rattle.ck_syntax.specs.declared.declaration.DeclHead.{DeclHead}
use Rattle.ck_syntax.specs.Tree as tree
use Rattle.ck_syntax.specs.Tree.{Name, Expr, expr_line, Declrs, no_declrs, and_declr, Stmt, Stmts}
use Rattle.ck_syntax.specs.Tree.{no_stmts, and_stmt}
use Rattle.ck_typed.specs.declared.operation.Leaf.TheVariants as leaf
use Rattle.ck_typed.specs.Tree as typed
use Rattle.type_rules.specs.Fitting.{is_reference, kind_fits}
use Rattle.type_table.specs.Answer.{Answer, gives, and_then, wrong}
use Rattle.type_table.specs.declared.fault.FaultKind.TheVariants.{UnknownName, Duplicate, Mismatch}
use Rattle.type_table.specs.declared.fault.FaultKind.TheVariants.{BadPlace}
use Rattle.type_table.specs.declared.types.Named.{Named}
use Rattle.type_table.specs.declared.types.Named.TheVariants as named
use Rattle.type_table.specs.Table.{Table}
use Rattle.type_table.specs.Types.{named_by, is_unknown, is_shred, kind_of}
use Rattle.check_scope.specs.Expressions.{Valued, AllValued, fits, taken_as, is_int, values, typing}
use Rattle.check_scope.specs.Denotations.{Typed, is_void}
use Rattle.check_scope.specs.Scope.{Scope, is_empty, is_declared, with_local, place, with_block}
use Rattle.check_scope.specs.Scope.{without_block}
use Rattle.program_laws.specs.declared.surroundings.Surroundings.{Surroundings}

-- a typed statement, and the scope behind it
pub record Stated : Type 0 where
  pub stmt : typed.Stmt
  pub scope : Scope

abbrev pub stated : typed.Stmt → Scope → Stated
stated x s = record { stmt = x; scope = s }

-- several
pub record AllStated : Type 0 where
  pub stmts : List typed.Stmt
  pub scope : Scope

abbrev pub none_stated : Scope → AllStated
none_stated s = record { stmts = []; scope = s }

abbrev pub and_stated : AllStated → Stated → AllStated
and_stated all x = record { stmts = all.stmts ++ x.stmt ∷ []; scope = x.scope }

abbrev pub in_order : List typed.Stmt → typed.Stmts
in_order [] = typed.no_stmts
in_order (x ∷ xs) = typed.more_stmts x (in_order xs)

abbrev pub block_of : List typed.Stmt → typed.Stmt
block_of xs = typed.Block (in_order xs)

-- no code
abbrev pub nothing : typed.Stmt
nothing = block_of []

-- the names of a block are forgotten behind it
abbrev pub left : typed.Stmt → Scope → Stated
left x s = stated x (without_block s)

-- a statement in a block of its own
abbrev pub closed : Answer Stated → Answer Stated
closed a = and_then a (λ y. gives (left y.stmt y.scope))

-- a condition, and the number of a `repeat`, is an int; its fault has the line of the statement
abbrev pub int_at : (line : ℕ) → Valued → Answer Valued
int_at l x = if is_int x.typed.kind then gives x else wrong x.scope.file l Mismatch

abbrev pub condition : Table → Scope → (line : ℕ) → Expr → Answer Valued
condition t s l e = and_then (typing t s e) (λ x. int_at l x)

-- a value that is dropped
abbrev pub simple : (line : ℕ) → Valued → Stated
simple l x = stated (typed.Simple x.typed.expr (place x.scope l)) x.scope

-- each declaration of a list is a statement
abbrev pub declarations : Table → Scope → (line : ℕ) → DeclHead → Declrs → Answer AllStated
declarations t s l h no_declrs = gives (none_stated s)
declarations t s l h (and_declr ds d) =
    and_then (declarations t s l h ds) (λ all.
    and_then (typing t all.scope (tree.declare l h d)) (λ x.
    gives (and_stated all (simple l x))))

-- prints ----------------------------------------------------------------------------------------

abbrev pub exprs : List Typed → typed.Exprs
exprs [] = typed.no_exprs
exprs (x ∷ xs) = typed.more_exprs x.expr (exprs xs)

abbrev pub kinds : List Typed → List Kind
kinds xs = map (λ x. x.kind) xs

-- there is an item, and none is void
abbrev pub printed : (line : ℕ) → AllValued → Answer Stated
printed l xs =
    if is_empty xs.typed || list_any (λ x. is_void x.kind) xs.typed
    then wrong xs.scope.file l Mismatch
    else gives (stated (typed.Print (exprs xs.typed) (kinds xs.typed) (place xs.scope l)) xs.scope)

-- `break`, `continue`, `return` -----------------------------------------------------------------

abbrev pub in_loop_only : Surroundings → Scope → (line : ℕ) → (Place → typed.Stmt) → Answer Stated
in_loop_only o s l made =
    if o.in_loop then gives (stated (made (place s l)) s) else wrong s.file l BadPlace

-- a value fits the result of its function
abbrev pub returned : (parents : List ℕ) → (line : ℕ) → (result : Option Kind) → Valued
    → Answer Stated
returned parents l None x = wrong x.scope.file l BadPlace
returned parents l (Some k) x =
    if fits parents x.typed k
    then gives (stated (typed.Return (taken_as x.typed k) (place x.scope l)) x.scope)
    else wrong x.scope.file l Mismatch

-- a bare `return` stands in a function without result, and gives the int 0
abbrev pub bare_return : Scope → (line : ℕ) → (result : Option Kind) → Answer Stated
bare_return s l None = wrong s.file l BadPlace
bare_return s l (Some Void) =
    gives (stated (typed.Return (typed.Leaf (leaf.Int (pos 0)) (place s l)) (place s l)) s)
bare_return s l (Some k) = wrong s.file l Mismatch

abbrev pub return_meaning : Table → Surroundings → Scope → (line : ℕ) → Option Expr → Answer Stated
return_meaning t o s l None = bare_return s l o.result
return_meaning t o s l (Some e) = and_then (typing t s e) (λ x. returned t.parents l o.result x)

-- `for` -----------------------------------------------------------------------------------------

-- its test, which may be missing
pub record Tested : Type 0 where
  pub test : Option typed.Expr
  pub scope : Scope

abbrev pub tested : Valued → Tested
tested x = record { test = Some x.typed.expr; scope = x.scope }

-- a list of declarations is no condition
abbrev pub for_test : Table → Scope → (line : ℕ) → Stmt → Answer Tested
for_test t s l (tree.empty k) = gives (record { test = None; scope = s })
for_test t s l (tree.simple k e) = and_then (condition t s l e) (λ x. gives (tested x))
for_test t s l (tree.declares k h ds) =
    and_then (declarations t s k h ds) (λ all. wrong all.scope.file l Mismatch)
for_test t s l _ = wrong s.file l Mismatch

abbrev pub for_step : Table → Scope → Option Expr → Answer Stated
for_step t s None = gives (stated nothing s)
for_step t s (Some e) = and_then (typing t s e) (λ x. gives (simple (expr_line e) x))

abbrev pub for_made : Option typed.Expr → (start step body : typed.Stmt) → Place → typed.Stmt
for_made None start step body p = typed.ForEver start step body p
for_made (Some test) start step body p = typed.For start test step body p

-- `for` over an array ---------------------------------------------------------------------------

-- the kind of an array's items
abbrev pub item_kind : Kind → Option Kind
item_kind (Row e) = Some (One e)
item_kind (Grid e) = Some (Row e)
item_kind _ = None

-- `@` is for what may be a reference
abbrev pub may_have_at : Elem → (brackets : ℕ) → Bool
may_have_at e brackets = nat_lt 0 brackets || is_reference e || is_shred e

-- the kind that the head of a `for` gives the name of its items; no object is made
abbrev pub head_kind : DeclHead → Named → (brackets : ℕ) → Option Kind
head_kind h (named.Elem e) brackets =
    if h.is_reference && not (may_have_at e brackets) then None else kind_of e brackets
head_kind h _ brackets = None

-- an item fits its name
abbrev pub taken_item : (parents : List ℕ) → Scope → (line : ℕ) → (item local : Option Kind)
    → Answer Kind
taken_item parents s l (Some j) (Some k) =
    if kind_fits parents j k then gives k else wrong s.file l Mismatch
taken_item parents s l _ _ = wrong s.file l Mismatch

-- or its name takes the kind of the items; then it is written with nothing but that
abbrev pub auto_item : Scope → (line : ℕ) → DeclHead → (brackets : ℕ) → (item : Option Kind)
    → Answer Kind
auto_item s l h brackets None = wrong s.file l Mismatch
auto_item s l h brackets (Some k) =
    if h.is_reference || nat_lt 0 brackets then wrong s.file l BadPlace else gives k

-- the name stands in the block of the loop, and so do those that the array declares
abbrev pub local_item : Table → Scope → (line : ℕ) → DeclHead → Name → (brackets : ℕ)
    → (item : Option Kind) → Option Base → Answer Kind
local_item t s l h n brackets item None =
    if is_declared s n then wrong s.file l Duplicate else auto_item s l h brackets item
local_item t s l h n brackets item (Some b) =
    if is_unknown (named_by t s.file b) then wrong s.file l UnknownName
    else if is_declared s n then wrong s.file l Duplicate
    else taken_item t.parents s l item (head_kind h (named_by t s.file b) brackets)

-- an int is widened to a float
abbrev pub widens : (array local : Kind) → Bool
widens (Row elem.Int) (One elem.Float) = true
widens _ _ = false

-- all statements --------------------------------------------------------------------------------

-- in a loop of the same function
abbrev pub looped : Surroundings → Surroundings
looped o = record o { in_loop = true }

-- the bodies of `if` and of loops are blocks, and a `for` is one with its head
abbrev mutual
  pub statement : Table → Surroundings → Scope → Stmt → Answer Stated
  statement t o s (tree.block l ss) =
      and_then (statements t o (with_block s) ss) (λ all.
      gives (left (block_of all.stmts) all.scope))
  statement t o s (tree.empty l) = gives (stated nothing s)
  statement t o s (tree.simple l e) = and_then (typing t s e) (λ x. gives (simple l x))
  statement t o s (tree.declares l h ds) =
      and_then (declarations t s l h ds) (λ all. gives (stated (block_of all.stmts) all.scope))
  statement t o s (tree.print l es) = and_then (values t s es) (λ xs. printed l xs)
  statement t o s (tree.if_then l c a) =
      and_then (condition t s l c) (λ x.
      and_then (closed (statement t o (with_block x.scope) a)) (λ y.
      gives (stated (typed.If x.typed.expr y.stmt nothing (place y.scope l)) y.scope)))
  statement t o s (tree.if_else l c a b) =
      and_then (condition t s l c) (λ x.
      and_then (closed (statement t o (with_block x.scope) a)) (λ y.
      and_then (closed (statement t o (with_block y.scope) b)) (λ z.
      gives (stated (typed.If x.typed.expr y.stmt z.stmt (place z.scope l)) z.scope))))
  statement t o s (tree.while_do l c a) =
      and_then (condition t s l c) (λ x.
      and_then (closed (statement t (looped o) (with_block x.scope) a)) (λ y.
      gives (stated (typed.Loop false x.typed.expr y.stmt (place y.scope l)) y.scope)))
  statement t o s (tree.until_do l c a) =
      and_then (condition t s l c) (λ x.
      and_then (closed (statement t (looped o) (with_block x.scope) a)) (λ y.
      gives (stated (typed.Loop true x.typed.expr y.stmt (place y.scope l)) y.scope)))
  statement t o s (tree.do_while l a c) =
      and_then (closed (statement t (looped o) (with_block s) a)) (λ y.
      and_then (condition t y.scope l c) (λ x.
      gives (stated (typed.LoopLast false y.stmt x.typed.expr (place x.scope l)) x.scope)))
  statement t o s (tree.do_until l a c) =
      and_then (closed (statement t (looped o) (with_block s) a)) (λ y.
      and_then (condition t y.scope l c) (λ x.
      gives (stated (typed.LoopLast true y.stmt x.typed.expr (place x.scope l)) x.scope)))
  statement t o s (tree.for_do l a c e b) =
      and_then (statement t o (with_block s) a) (λ x.
      and_then (for_test t x.scope l c) (λ y.
      and_then (for_step t y.scope e) (λ z.
      and_then (closed (statement t (looped o) (with_block z.scope) b)) (λ w.
      gives (left (for_made y.test x.stmt z.stmt w.stmt (place w.scope l)) w.scope)))))
  statement t o s (tree.for_each l h n brackets a b) =
      and_then (typing t (with_block s) a) (λ x.
      and_then (local_item t x.scope l h n brackets (item_kind x.typed.kind) h.base) (λ k.
      and_then (closed (statement t (looped o) (with_block (with_local x.scope n k)) b)) (λ y.
      gives (left
      (typed.ForEach x.typed.expr (length x.scope.locals) (widens x.typed.kind k) y.stmt
      (place y.scope l))
      y.scope))))
  statement t o s (tree.repeat l n a) =
      and_then (condition t s l n) (λ x.
      and_then (closed (statement t (looped o) (with_block x.scope) a)) (λ y.
      gives (stated (typed.Repeat x.typed.expr y.stmt (place y.scope l)) y.scope)))
  statement t o s (tree.break l) = in_loop_only o s l typed.Break
  statement t o s (tree.continue l) = in_loop_only o s l typed.Continue
  statement t o s (tree.return l e) = return_meaning t o s l e

  pub statements : Table → Surroundings → Scope → Stmts → Answer AllStated
  statements t o s no_stmts = gives (none_stated s)
  statements t o s (and_stmt ss x) =
      and_then (statements t o s ss) (λ all.
      and_then (statement t o all.scope x) (λ y.
      gives (and_stated all y)))
