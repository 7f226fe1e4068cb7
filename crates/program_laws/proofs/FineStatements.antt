-- A statement is well formed, and so is the scope behind it.
use Rattle.std.proofs.Common.{◌≡◌, ℕ, suc, ◌+◌, ◌-◌, ◌≤◌, pos, Bool, true, false, ◌&&◌, ◌||◌, not}
use Rattle.std.proofs.Common.{List, [], ◌∷◌, ◌++◌, length, Option, Some, None, refl, ap, ◌∙◌, subst}
use Rattle.std.proofs.Common.{arith}
use Rattle.std.specs.List.{list_any}
use Rattle.std.specs.Prelude.{is_some, IsTrue}
use Rattle.ck_values.specs.declared.kind.Elem.TheVariants as elem
use Rattle.ck_values.specs.declared.kind.Kind.{Kind}
use Rattle.ck_values.specs.declared.kind.Kind.TheVariants.{Void, One}
use Rattle.ck_values.specs.declared.trap.Place.{Place}
use Rattle.ck_syntax.specs.declared.declaration.Base.{Base}
use Rattle.ck_syntax.specs.declared.declaration.DeclHead.{DeclHead}
use Rattle.ck_syntax.specs.Tree as tree
use Rattle.ck_syntax.specs.Tree.{Name, Expr, expr_line, Declrs, no_declrs, and_declr, Declr, Stmt, Stmts}
use Rattle.ck_syntax.specs.Tree.{no_stmts, and_stmt}
use Rattle.ck_typed.specs.declared.operation.Leaf.TheVariants as leaf
use Rattle.ck_typed.specs.Tree as typed
use Rattle.ck_typed.specs.Tree.{Program}
use Rattle.type_table.specs.declared.fault.FaultKind.TheVariants.{Mismatch}
use Rattle.type_table.specs.Answer.{Answer, gives, refused, and_then, wrong}
use Rattle.type_table.specs.Table.{Table}
use Rattle.type_table.proofs.Declared.{Declared}
use Rattle.first_walk.proofs.DeclaredFiles.{ListDeclared, StmtDeclared}
use Rattle.type_table.proofs.Ranges.{Each, ValueIn, many}
use Rattle.program_laws.specs.declared.surroundings.Surroundings.{Surroundings}
use Rattle.check_scope.specs.Expressions as e
use Rattle.check_scope.specs.Expressions.{Valued, AllValued, typing, values, is_int, meaning}
use Rattle.check_scope.specs.Expressions.{value_of}
use Rattle.check_scope.specs.Denotations.{Typed, is_void}
use Rattle.ck_typed.specs.Standing.{given}
use Rattle.check_scope.specs.Scope.{Scope, front, is_empty, place, with_block, without_block}
use Rattle.check_scope.specs.Scope.{with_local, declares_globals, settles}
use Rattle.program_laws.specs.Statements.{Stated, AllStated, and_stated, in_order, block_of}
use Rattle.program_laws.specs.Statements.{left, closed, int_at, condition, simple, declarations}
use Rattle.program_laws.specs.Statements.{exprs, kinds, printed, in_loop_only, returned, bare_return}
use Rattle.program_laws.specs.Statements.{return_meaning, Tested, tested, for_test, for_step}
use Rattle.program_laws.specs.Statements.{for_made, item_kind, local_item, widens, looped}
use Rattle.program_laws.specs.Statements.{statement, statements}
use Rattle.ck_typed.specs.WellFormed.{IsNamedKind, HaveKinds, IsFine, AreFine}
use Rattle.expr_laws.proofs.FineDeclarations.{ok_all}
use Rattle.expr_laws.proofs.Growing.{Keeps, same_globals, local_keeps}
use Rattle.expr_laws.proofs.FineForms.{kind_there}
use Rattle.expr_laws.proofs.FineMeanings.{Follows, follows_refl, follows_trans, Behind, V, A}
use Rattle.expr_laws.proofs.FineMeanings.{value_of_is, meaning_is, values_are}
use Rattle.expr_laws.proofs.FineMeanings.{moved}
use Rattle.expr_laws.proofs.Oks.{ok_then, ok_if}
use Rattle.expr_laws.proofs.Premises.{Ends, Ok, Has, IsScope, Valued as Supplies, IsValue}
use Rattle.program_laws.proofs.Found.{all_of}
use Rattle.program_laws.proofs.FineItems.{TakesItems, local_item_is, items_bound}
use Rattle.program_laws.proofs.StatedResults.{Returns}
use Rattle.expr_laws.proofs.ScopeLaws.{ends_before, leads_of, local_ends, same_ends}
use Rattle.expr_laws.proofs.ScopeLaws.{new_local, with_block_is, with_local_is, with_local_grows}
use Rattle.expr_laws.proofs.ScopeLaws.{with_block_grows}
use Rattle.expr_laws.proofs.ScopeLaws.{without_block_is, without_block_grows, grows_trans}
use Rattle.expr_laws.proofs.Standing.{taken}
use Rattle.expr_laws.proofs.FineValues.{int_valued}

-- blocks ------------------------------------------------------------------------------------------

one_block_more : {X : Type 0} (xs : List X) (x : X) → length (xs ++ x ∷ []) ≡ 1 + length xs
one_block_more [] x = refl
one_block_more (y ∷ ys) x = ap suc (one_block_more ys x) ∙ omega arith

one_block_less : {X : Type 0} (xs : List X) → length (front xs) ≡ length xs - 1
one_block_less [] = refl
one_block_less (x ∷ []) = refl
one_block_less (x ∷ y ∷ rest) = ap suc (one_block_less (y ∷ rest)) ∙ omega arith

not_empty : {X : Type 0} (xs : List X) (x : X) → is_empty (xs ++ x ∷ []) ≡ false
not_empty [] x = refl
not_empty (y ∷ ys) x = refl

-- in a block nothing is a file variable or a member
pub block_is_local : (s : Scope) → declares_globals (with_block s) ≡ false
block_is_local s = go (not (is_some s.fun)) (is_empty (with_block s).blocks) (not_empty s.blocks [])
  where
    go : (a b : Bool) → b ≡ false → a && b ≡ false
    go true b is = is
    go false b is = refl

-- so no file variable is settled there
pub nothing_settles : (s : Scope) → settles (with_block s) ≡ false
nothing_settles s = ap (λ b. b && not (is_some s.class)) (block_is_local s)

-- a block that was opened and closed
pub block_keeps : (t : Table) (s u : Scope) → Keeps t (with_block s) u → Keeps t s (without_block u)
block_keeps t s u keeps = (
  grows_trans s (with_block s) (without_block u) (with_block_grows t s)
      (grows_trans (with_block s) u (without_block u) keeps.0 (without_block_grows t u)),
  omega (arith, one_block_less u.blocks, keeps.1, one_block_more s.blocks []),
  λ none. keeps.2 (nothing_settles s),
  keeps.3,
)

-- and what is known of the scope goes on
pub block_follows : (p : Program) (t : Table) (s u : Scope) → Follows p t (with_block s) u
    → Follows p t s (without_block u)
block_follows p t s u follows = (
  block_keeps t s u follows.0,
  λ all leads ends.
      same_ends p t u (without_block u) all refl refl
      (follows.1 all (record { locals = leads.locals; settled = leads.settled })
      (same_ends p t s (with_block s) all refl refl ends)),
)

module _ (p : Program) (t : Table) where
  -- a statement, several, and a condition
  abbrev pub S : Surroundings → Scope → Stated → Type 0
  S o s y =
      Behind p t s y.scope
      × ((all : List Kind) (result : Kind) → Returns o result → Ends p t y.scope all
      → IsFine p all result o.in_loop y.stmt)

  abbrev pub Ss : Surroundings → Scope → AllStated → Type 0
  Ss o s ys =
      Behind p t s ys.scope
      × ((all : List Kind) (result : Kind) → Returns o result → Ends p t ys.scope all
      → AreFine p all result o.in_loop (in_order ys.stmts))

  abbrev Test : Scope → Valued → Type 0
  Test s x =
      Behind p t s x.scope
      × ((all : List Kind) → Ends p t x.scope all → Supplies p t all x.typed.expr (One elem.Int))

  -- from one scope to the next
  later : (o : Surroundings) (s u : Scope) (a : Answer Stated) → Follows p t s u → Ok (S o u) a → Ok (S o s) a
  later o s u (gives y) keeps is = ((is.0.0, follows_trans p t s u y.scope keeps is.0.1), is.1)
  later o s u (refused why) keeps is = tt

  -- behind a block
  left_is : (o : Surroundings) (s : Scope) (x : typed.Stmt) (u : Scope) → Behind p t (with_block s) u
      → ((all : List Kind) (result : Kind) → Returns o result → Ends p t u all
      → IsFine p all result o.in_loop x) → S o s (left x u)
  left_is o s x u behind fine = (
    (without_block_is t u behind.0, block_follows p t s u behind.1),
    λ all result returns ends.
        fine all result returns (same_ends p t (without_block u) u all refl refl ends),
  )

  closed_is : (o : Surroundings) (s : Scope) (a : Answer Stated) → Ok (S o (with_block s)) a
      → Ok (S o s) (closed a)
  closed_is o s (gives y) is = left_is o s y.stmt y.scope is.0 is.1
  closed_is o s (refused why) is = tt

  more_fine : (all : List Kind) (result : Kind) (loop : Bool) (xs : List typed.Stmt)
      (x : typed.Stmt) → AreFine p all result loop (in_order xs) → IsFine p all result loop x
      → AreFine p all result loop (in_order (xs ++ x ∷ []))
  more_fine all result loop [] x are is = (is, tt)
  more_fine all result loop (y ∷ ys) x are is = (are.0, more_fine all result loop ys x are.1 is)

  -- one statement more
  and_stated_is : (o : Surroundings) (s : Scope) (all : AllStated) (y : Stated) → Ss o s all
      → S o all.scope y → Ss o s (and_stated all y)
  and_stated_is o s all y are is = (
    (is.0.0, follows_trans p t s all.scope y.scope are.0.1 is.0.1),
    λ every result returns within. more_fine every result o.in_loop all.stmts y.stmt
        (are.1 every result returns (ends_before p t all.scope y.scope every is.0.1.0.0 within))
        (is.1 every result returns within),
  )

  -- a `break` and a `continue`
  jump_is : (o : Surroundings) (s : Scope) (l : ℕ) (made : Place → typed.Stmt) → IsScope t s
      → ((all : List Kind) (result : Kind) (q : Place) → IsTrue o.in_loop
      → IsFine p all result o.in_loop (made q)) → Ok (S o s) (in_loop_only o s l made)
  jump_is o s l made scope fine =
      ok_if (S o s) o.in_loop _ _
      (λ is. (
        (scope, follows_refl p t s),
        λ all result returns within. fine all result (place s l) is,
      )) (λ is. tt)

-- in a block nothing need be known of the table
nothing_known : {P : Type 0} (s : Scope) → declares_globals (with_block s) ≡ true → P
nothing_known s is = absurd (cc (block_is_local s, is))

module _ (p : Program) (t : Table) (has : Has p t) where
  -- values ------------------------------------------------------------------------------------

  pub typing_is : (s : Scope) (x : Expr) → IsScope t s
      → (declares_globals s ≡ true → Declared t s.file s.class x) → Ok (V p t s) (typing t s x)
  typing_is s x scope known =
      value_of_is p t has s (expr_line x) (meaning t s x) (meaning_is p t has s x scope known)

  simple_is : (o : Surroundings) (s : Scope) (l : ℕ) (x : Valued) → V p t s x → S p t o s (simple l x)
  simple_is o s l x is =
      (is.0, λ all result returns within. let v = (is.1 all within).0 in (v.0, v.1))

  test_is : (s : Scope) (l : ℕ) (x : Valued) → V p t s x → Ok (Test p t s) (int_at l x)
  test_is s l x is =
      ok_if (Test p t s) (is_int x.typed.kind) _ _
      (λ int. (is.0, λ all within. int_valued p t has all x.typed (is.1 all within) int))
      (λ other. tt)

  condition_is : (s : Scope) (l : ℕ) (x : Expr) → IsScope t s
      → (declares_globals s ≡ true → Declared t s.file s.class x)
      → Ok (Test p t s) (condition t s l x)
  condition_is s l x scope known =
      ok_then (V p t s) (Test p t s) (typing t s x) (λ y. int_at l y) (typing_is s x scope known)
      (λ y is. test_is s l y is)

  -- each declaration of a list
  declarations_are : (o : Surroundings) (s : Scope) (l : ℕ) (h : DeclHead) (ds : Declrs) → IsScope t s
      → (declares_globals s ≡ true → ListDeclared t s.file s.class h ds)
      → Ok (Ss p t o s) (declarations t s l h ds)
  declarations_are o s l h no_declrs scope known =
      ((scope, follows_refl p t s), λ all result returns within. tt)
  declarations_are o s l h (and_declr ds d) scope known =
      ok_then (Ss p t o s) (Ss p t o s) (declarations t s l h ds)
      (λ all. and_then (typing t all.scope (tree.declare l h d))
      (λ x. gives (and_stated all (simple l x))))
      (declarations_are o s l h ds scope (λ is. (known is).0))
      (λ all are. ok_then (V p t all.scope) (Ss p t o s)
      (typing t all.scope (tree.declare l h d))
      (λ x. gives (and_stated all (simple l x)))
      (typing_is all.scope (tree.declare l h d) are.0.0
      (moved p t (λ f c. Declared t f c (tree.declare l h d)) s all.scope are.0.1
      (λ is. ((known is).1, (known is).2))))
      (λ x is. and_stated_is p t o s all (simple l x) are (simple_is o all.scope l x is)))

  -- prints --------------------------------------------------------------------------------------

  unvoid : (k : Kind) → is_void k ≡ false → given k ≡ k
  unvoid Void is = absurd (cc)
  unvoid _ is = refl

  neither : (a b : Bool) → a || b ≡ false → (a ≡ false) × (b ≡ false)
  neither true b is = absurd (cc)
  neither false b is = (refl, is)

  items_are : (all : List Kind) (xs : List Typed) → Each (IsValue p t all) xs
      → list_any (λ x. is_void x.kind) xs ≡ false → HaveKinds p all (exprs xs) (kinds xs)
  items_are all [] are none = tt
  items_are all (x ∷ xs) are none =
      let n = neither (is_void x.kind) (list_any (λ y. is_void y.kind) xs) none in
      (subst (λ k. Supplies p t all x.expr k) (unvoid x.kind n.0) are.0.0, items_are all xs are.1 n.1)

  named_are : (all : List Kind) (xs : List Typed) → Each (IsValue p t all) xs
      → Each (IsNamedKind p.classes) (kinds xs)
  named_are all [] are = tt
  named_are all (x ∷ xs) are = (kind_there p t has x.kind are.0.1, named_are all xs are.1)

  some_items : (xs : List Typed) → is_empty xs ≡ false → 1 ≤ length (kinds xs)
  some_items [] is = absurd (cc)
  some_items (x ∷ xs) is = omega arith

  printed_is : (o : Surroundings) (s : Scope) (l : ℕ) (xs : AllValued) → A p t s xs
      → Ok (S p t o s) (printed l xs)
  printed_is o s l xs are =
      ok_if (S p t o s) (is_empty xs.typed || list_any (λ x. is_void x.kind) xs.typed) _ _
      (λ is. tt)
      (λ is. let n = neither (is_empty xs.typed) (list_any (λ x. is_void x.kind) xs.typed) is in (
        are.0,
        λ all result returns within. (
          some_items xs.typed n.0,
          all_of (IsNamedKind p.classes) (kinds xs.typed) (named_are all xs.typed (are.1 all within)),
          items_are all xs.typed (are.1 all within) n.1,
        ),
      ))

  -- `return` --------------------------------------------------------------------------------------

  returned_is : (o : Surroundings) (s : Scope) (l : ℕ) (r : Option Kind) (x : Valued) → o.result ≡ r
      → V p t s x → Ok (S p t o s) (returned t.parents l r x)
  returned_is o s l None x same is = tt
  returned_is o s l (Some k) x same is =
      ok_if (S p t o s) (e.fits t.parents x.typed k) _ _
      (λ fit. (
        is.0,
        λ all result returns within. subst (λ j. Supplies p t all (e.taken_as x.typed k) j)
            (returns k same) (taken p t has all x.typed k (is.1 all within) fit),
      ))
      (λ unfit. tt)

  bare_is : (o : Surroundings) (s : Scope) (l : ℕ) (r : Option Kind) → o.result ≡ r → IsScope t s
      → Ok (S p t o s) (bare_return s l r)
  bare_is o s l (Some Void) same scope = (
    (scope, follows_refl p t s),
    λ all result returns within.
        subst (λ j. Supplies p t all (typed.Leaf (leaf.Int (pos 0)) (place s l)) j)
        (returns Void same) (One elem.Int, refl, refl),
  )
  bare_is o s l _ same scope = tt

  return_is : (o : Surroundings) (s : Scope) (l : ℕ) (x : Option Expr) → IsScope t s
      → (declares_globals s ≡ true → StmtDeclared t s.file s.class (tree.return l x))
      → Ok (S p t o s) (return_meaning t o s l x)
  return_is o s l None scope known = bare_is o s l o.result refl scope
  return_is o s l (Some x) scope known =
      ok_then (V p t s) (S p t o s) (typing t s x) (λ y. returned t.parents l o.result y)
      (typing_is s x scope known) (λ y is. returned_is o s l o.result y refl is)

  -- the parts of a `for` --------------------------------------------------------------------------

  -- its test, which may be missing
  abbrev IsTested : Scope → Tested → Type 0
  IsTested s y =
      Behind p t s y.scope
      × ((all : List Kind) (c : typed.Expr) → y.test ≡ Some c → Ends p t y.scope all
      → Supplies p t all c (One elem.Int))

  for_test_is : (s : Scope) (l : ℕ) (c : Stmt) → IsScope t s → declares_globals s ≡ false
      → Ok (IsTested s) (for_test t s l c)
  for_test_is s l (tree.empty k) scope local =
      ((scope, follows_refl p t s), λ all c is within. absurd (cc))
  for_test_is s l (tree.simple k x) scope local =
      ok_then (Test p t s) (IsTested s) (condition t s l x) (λ y. gives (tested y))
      (condition_is s l x scope (λ is. absurd (cc (local, is))))
      (λ y is. (
        is.0,
        λ all c same within. subst (λ d. Supplies p t all d (One elem.Int))
            (some_same y.typed.expr c same) (is.1 all within),
      ))
    where
      some_same : (a b : typed.Expr) → Some a ≡ Some b → a ≡ b
      some_same a b same = cc
  for_test_is s l (tree.declares k h ds) scope local = never (declarations t s k h ds)
    where
      never : (a : Answer AllStated)
          → Ok (IsTested s) (and_then a (λ all. wrong all.scope.file l Mismatch))
      never (gives all) = tt
      never (refused why) = tt
  for_test_is s l _ scope local = tt

  for_step_is : (o : Surroundings) (s : Scope) (x : Option Expr) → IsScope t s
      → declares_globals s ≡ false → Ok (S p t o s) (for_step t s x)
  for_step_is o s None scope local = ((scope, follows_refl p t s), λ all result returns within. tt)
  for_step_is o s (Some x) scope local =
      ok_then (V p t s) (S p t o s) (typing t s x) (λ y. gives (simple (expr_line x) y))
      (typing_is s x scope (λ is. absurd (cc (local, is))))
      (λ y is. simple_is o s (expr_line x) y is)

  made_is : (all : List Kind) (result : Kind) (loop : Bool) (test : Option typed.Expr)
      (start step body : typed.Stmt) (q : Place)
      → ((c : typed.Expr) → test ≡ Some c → Supplies p t all c (One elem.Int))
      → IsFine p all result loop start → IsFine p all result loop step
      → IsFine p all result true body → IsFine p all result loop (for_made test start step body q)
  made_is all result loop None start step body q is first next last = (first, next, last)
  made_is all result loop (Some c) start step body q is first next last =
      (is c refl, first, next, last)

  -- `for` over an array ---------------------------------------------------------------------------

  -- a kind of its name
  abbrev IsItem : Valued → Kind → Type 0
  IsItem x k =
      (all : List Kind) → Ends p t x.scope all
      → ValueIn (many t) k × TakesItems p t has x.typed.kind k

  item_is : (s : Scope) (x : Valued) → V p t s x → (l : ℕ) (h : DeclHead) (n : Name)
      (brackets : ℕ) (base : Option Base)
      → Ok (IsItem x) (local_item t x.scope l h n brackets (item_kind x.typed.kind) base)
  item_is s x is l h n brackets base =
      ok_all (Ends p t x.scope)
      (λ all k. ValueIn (many t) k × TakesItems p t has x.typed.kind k)
      (local_item t x.scope l h n brackets (item_kind x.typed.kind) base)
      (λ all ends. local_item_is p t has x.typed.kind (is.1 all ends).1 x.scope l h n brackets base)

  item_follows : (x : Valued) (n : Name) (k : Kind) → IsItem x k
      → Follows p t x.scope (with_local x.scope n k)
  item_follows x n k item = (
    local_keeps t x.scope n k,
    λ all leads ends. local_ends p t x.scope n k all (item all ends).0 leads ends,
  )

  -- all statements --------------------------------------------------------------------------------

  mutual
    pub statement_is : (o : Surroundings) (s : Scope) (x : Stmt) → IsScope t s
        → (declares_globals s ≡ true → StmtDeclared t s.file s.class x)
        → Ok (S p t o s) (statement t o s x)
    statement_is o s (tree.block l xs) scope known =
        ok_then (Ss p t o (with_block s)) (S p t o s) (statements t o (with_block s) xs) _
        (statements_are o (with_block s) xs (with_block_is t s scope) (block_is_local s))
        (λ all are. left_is p t o s (block_of all.stmts) all.scope are.0 are.1)
    statement_is o s (tree.empty l) scope known =
        ((scope, follows_refl p t s), λ all result returns within. tt)
    statement_is o s (tree.simple l x) scope known =
        ok_then (V p t s) (S p t o s) (typing t s x) _ (typing_is s x scope known)
        (λ y is. simple_is o s l y is)
    statement_is o s (tree.declares l h ds) scope known =
        ok_then (Ss p t o s) (S p t o s) (declarations t s l h ds) _
        (declarations_are o s l h ds scope known) (λ all are. (are.0, are.1))
    statement_is o s (tree.print l xs) scope known =
        ok_then (A p t s) (S p t o s) (values t s xs) _ (values_are p t has s xs scope known)
        (λ ys are. printed_is o s l ys are)
    statement_is o s (tree.if_then l c a) scope known =
        ok_then (Test p t s) (S p t o s) (condition t s l c) _ (condition_is s l c scope known)
        (λ x test.
        later p t o s x.scope _ test.0.1
        (ok_then (S p t o x.scope) (S p t o x.scope)
        (closed (statement t o (with_block x.scope) a)) _
        (closed_is p t o x.scope (statement t o (with_block x.scope) a)
        (statement_is o (with_block x.scope) a (with_block_is t x.scope test.0.0)
        (nothing_known x.scope))) (λ y is. (
          is.0,
          λ all result returns within. (
            test.1 all (ends_before p t x.scope y.scope all is.0.1.0.0 within),
            is.1 all result returns within,
            tt,
          ),
        ))))
    statement_is o s (tree.if_else l c a b) scope known =
        ok_then (Test p t s) (S p t o s) (condition t s l c) _ (condition_is s l c scope known)
        (λ x test.
        later p t o s x.scope _ test.0.1
        (ok_then (S p t o x.scope) (S p t o x.scope)
        (closed (statement t o (with_block x.scope) a)) _
        (closed_is p t o x.scope (statement t o (with_block x.scope) a)
        (statement_is o (with_block x.scope) a (with_block_is t x.scope test.0.0)
        (nothing_known x.scope))) (λ y is.
        later p t o x.scope y.scope _ is.0.1
        (ok_then (S p t o y.scope) (S p t o y.scope)
        (closed (statement t o (with_block y.scope) b)) _
        (closed_is p t o y.scope (statement t o (with_block y.scope) b)
        (statement_is o (with_block y.scope) b (with_block_is t y.scope is.0.0)
        (nothing_known y.scope))) (λ z so. (
          so.0,
          λ all result returns within.
              let kept = ends_before p t y.scope z.scope all so.0.1.0.0 within in (
                test.1 all (ends_before p t x.scope y.scope all is.0.1.0.0 kept),
                is.1 all result returns kept,
                so.1 all result returns within,
              ),
        ))))))
    statement_is o s (tree.while_do l c a) scope known =
        ok_then (Test p t s) (S p t o s) (condition t s l c) _ (condition_is s l c scope known)
        (λ x test.
        later p t o s x.scope _ test.0.1
        (ok_then (S p t (looped o) x.scope) (S p t o x.scope)
        (closed (statement t (looped o) (with_block x.scope) a)) _
        (closed_is p t (looped o) x.scope (statement t (looped o) (with_block x.scope) a)
        (statement_is (looped o) (with_block x.scope) a (with_block_is t x.scope test.0.0)
        (nothing_known x.scope))) (λ y is. (
          is.0,
          λ all result returns within. (
            test.1 all (ends_before p t x.scope y.scope all is.0.1.0.0 within),
            is.1 all result returns within,
          ),
        ))))
    statement_is o s (tree.until_do l c a) scope known =
        ok_then (Test p t s) (S p t o s) (condition t s l c) _ (condition_is s l c scope known)
        (λ x test.
        later p t o s x.scope _ test.0.1
        (ok_then (S p t (looped o) x.scope) (S p t o x.scope)
        (closed (statement t (looped o) (with_block x.scope) a)) _
        (closed_is p t (looped o) x.scope (statement t (looped o) (with_block x.scope) a)
        (statement_is (looped o) (with_block x.scope) a (with_block_is t x.scope test.0.0)
        (nothing_known x.scope))) (λ y is. (
          is.0,
          λ all result returns within. (
            test.1 all (ends_before p t x.scope y.scope all is.0.1.0.0 within),
            is.1 all result returns within,
          ),
        ))))
    statement_is o s (tree.do_while l a c) scope known =
        ok_then (S p t (looped o) s) (S p t o s)
        (closed (statement t (looped o) (with_block s) a)) _
        (closed_is p t (looped o) s (statement t (looped o) (with_block s) a)
        (statement_is (looped o) (with_block s) a (with_block_is t s scope) (nothing_known s)))
        (λ y is.
        later p t o s y.scope _ is.0.1
        (ok_then (Test p t y.scope) (S p t o y.scope) (condition t y.scope l c) _
        (condition_is y.scope l c is.0.0
        (moved p t (λ f d. Declared t f d c) s y.scope is.0.1 known)) (λ x test. (
          test.0,
          λ all result returns within. (
            test.1 all within,
            is.1 all result returns (ends_before p t y.scope x.scope all test.0.1.0.0 within),
          ),
        ))))
    statement_is o s (tree.do_until l a c) scope known =
        ok_then (S p t (looped o) s) (S p t o s)
        (closed (statement t (looped o) (with_block s) a)) _
        (closed_is p t (looped o) s (statement t (looped o) (with_block s) a)
        (statement_is (looped o) (with_block s) a (with_block_is t s scope) (nothing_known s)))
        (λ y is.
        later p t o s y.scope _ is.0.1
        (ok_then (Test p t y.scope) (S p t o y.scope) (condition t y.scope l c) _
        (condition_is y.scope l c is.0.0
        (moved p t (λ f d. Declared t f d c) s y.scope is.0.1 known)) (λ x test. (
          test.0,
          λ all result returns within. (
            test.1 all within,
            is.1 all result returns (ends_before p t y.scope x.scope all test.0.1.0.0 within),
          ),
        ))))
    statement_is o s (tree.for_do l a c x b) scope known =
        let inner = block_is_local s in
        ok_then (S p t o (with_block s)) (S p t o s) (statement t o (with_block s) a) _
        (statement_is o (with_block s) a (with_block_is t s scope) (nothing_known s))
        (λ start first.
        ok_then (IsTested start.scope) (S p t o s) (for_test t start.scope l c) _
        (for_test_is start.scope l c first.0.0
        (same_globals (with_block s) start.scope first.0.1.0 ∙ inner)) (λ test second.
        let kept = follows_trans p t (with_block s) start.scope test.scope first.0.1 second.0.1 in
        ok_then (S p t o test.scope) (S p t o s) (for_step t test.scope x) _
        (for_step_is o test.scope x second.0.0
        (same_globals (with_block s) test.scope kept.0 ∙ inner)) (λ step third.
        let keeps = follows_trans p t (with_block s) test.scope step.scope kept third.0.1 in
        ok_then (S p t (looped o) step.scope) (S p t o s)
        (closed (statement t (looped o) (with_block step.scope) b)) _
        (closed_is p t (looped o) step.scope (statement t (looped o) (with_block step.scope) b)
        (statement_is (looped o) (with_block step.scope) b (with_block_is t step.scope third.0.0)
        (nothing_known step.scope))) (λ body last.
        left_is p t o s (for_made test.test start.stmt step.stmt body.stmt (place body.scope l))
        body.scope (last.0.0, follows_trans p t (with_block s) step.scope body.scope keeps last.0.1)
        (λ all result returns within.
        let in_step = ends_before p t step.scope body.scope all last.0.1.0.0 within in
        let in_test = ends_before p t test.scope step.scope all third.0.1.0.0 in_step in
        made_is all result o.in_loop test.test start.stmt step.stmt body.stmt (place body.scope l)
        (λ d same. second.1 all d same in_test)
        (first.1 all result returns (ends_before p t start.scope test.scope all second.0.1.0.0 in_test))
        (third.1 all result returns in_step) (last.1 all result returns within))))))
    statement_is o s (tree.for_each l h n brackets a b) scope known =
        ok_then (V p t (with_block s)) (S p t o s) (typing t (with_block s) a) _
        (typing_is (with_block s) a (with_block_is t s scope) (nothing_known s)) (λ x first.
        ok_then (IsItem x) (S p t o s)
        (local_item t x.scope l h n brackets (item_kind x.typed.kind) h.base) _
        (item_is (with_block s) x first l h n brackets h.base) (λ k item.
        let u = with_local x.scope n k in
        ok_then (S p t (looped o) u) (S p t o s)
        (closed (statement t (looped o) (with_block u) b)) _
        (closed_is p t (looped o) u (statement t (looped o) (with_block u) b)
        (statement_is (looped o) (with_block u) b
        (with_block_is t u (with_local_is t x.scope n k first.0.0)) (nothing_known u)))
        (λ y last.
        left_is p t o s
        (typed.ForEach x.typed.expr (length x.scope.locals) (widens x.typed.kind k) y.stmt
        (place y.scope l))
        y.scope (
          last.0.0,
          follows_trans p t (with_block s) x.scope y.scope first.0.1
              (follows_trans p t x.scope u y.scope (item_follows x n k item) last.0.1),
        )
        (λ all result returns within.
        let bound = ends_before p t u y.scope all last.0.1.0.0 within in
        let array = ends_before p t x.scope u all (with_local_grows t x.scope n k) bound in (
          items_bound p t has all x.typed (length x.scope.locals) k (first.1 all array)
              (item all array).1
              (new_local t x.scope n k all (leads_of p t u all bound)),
          last.1 all result returns within,
        )))))
    statement_is o s (tree.repeat l c a) scope known =
        ok_then (Test p t s) (S p t o s) (condition t s l c) _ (condition_is s l c scope known)
        (λ x test.
        later p t o s x.scope _ test.0.1
        (ok_then (S p t (looped o) x.scope) (S p t o x.scope)
        (closed (statement t (looped o) (with_block x.scope) a)) _
        (closed_is p t (looped o) x.scope (statement t (looped o) (with_block x.scope) a)
        (statement_is (looped o) (with_block x.scope) a (with_block_is t x.scope test.0.0)
        (nothing_known x.scope))) (λ y is. (
          is.0,
          λ all result returns within. (
            test.1 all (ends_before p t x.scope y.scope all is.0.1.0.0 within),
            is.1 all result returns within,
          ),
        ))))
    statement_is o s (tree.break l) scope known =
        jump_is p t o s l typed.Break scope (λ all result q is. is)
    statement_is o s (tree.continue l) scope known =
        jump_is p t o s l typed.Continue scope (λ all result q is. is)
    statement_is o s (tree.return l x) scope known = return_is o s l x scope known

    pub statements_are : (o : Surroundings) (s : Scope) (xs : Stmts) → IsScope t s
        → declares_globals s ≡ false → Ok (Ss p t o s) (statements t o s xs)
    statements_are o s no_stmts scope local =
        ((scope, follows_refl p t s), λ all result returns within. tt)
    statements_are o s (and_stmt xs x) scope local =
        ok_then (Ss p t o s) (Ss p t o s) (statements t o s xs) _
        (statements_are o s xs scope local) (λ all are.
        ok_then (S p t o all.scope) (Ss p t o s) (statement t o all.scope x) _
        (statement_is o all.scope x are.0.0
        (λ is. absurd (cc (local, is, same_globals s all.scope are.0.1.0))))
        (λ y is. and_stated_is p t o s all y are is))
