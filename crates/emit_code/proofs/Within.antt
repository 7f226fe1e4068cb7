-- The jumps of a statement's breaks and continues stand in its code.
use Rattle.std.proofs.Common.{◌≡◌, ℕ, ◌+◌, ◌<◌, ◌≤◌, List, [], ◌∷◌, ◌++◌, Bool, true, false, All, sym, subst, arith}
use Rattle.std.proofs.lemmas.List.Elements.{All-nil, All-cons, All-append, All-weaker}
use Rattle.ck_typed.specs.declared.class.Class.{Class}
use Rattle.ck_typed.specs.Tree.{Expr, Stmt, Stmts, no_stmts, more_stmts, Simple, Block, Print, If, Loop, LoopLast, For, ForEver, Repeat, ForEach, Break, Continue, Return}
use Rattle.ck_scheme.specs.Scheme.{test_end, expr_end, stmt_end, block_end}
use Rattle.ck_scheme.proofs.Stands.{expr_length, stmt_length, block_length}
use Rattle.emit_code.specs.declared.jumps.Held.{Held}
use Rattle.emit_code.specs.Exits.{exits_of, all_exits_of}

-- it stands in a code of so many steps
abbrev Stands : (steps : ℕ) → Held → Type 0
Stands steps it = it.at < steps

none : (steps : ℕ) → All (Stands steps) []
none steps = All-nil (Stands steps)

one : (it : Held) (steps : ℕ) → it.at < steps → All (Stands steps) (it ∷ [])
one it steps stands = All-cons (Stands steps) it [] stands (none steps)

more : (all : List Held) (m n : ℕ) → m ≤ n → All (Stands m) all → All (Stands n) all
more all m n le stand =
    All-weaker (Stands m) (Stands n) (λ it within. omega (arith, le, within)) all stand

-- a code's length is that of its parts
both : (first second : List Held) (m n : ℕ) → m ≤ n → All (Stands m) first → All (Stands n) second
    → All (Stands n) (first ++ second)
both first second m n le some others =
    All-append (Stands n) first second (more first m n le some) others

module _ (classes : List Class) where
  pub stmt_above : (t : Stmt) (p : ℕ) → p ≤ stmt_end classes p t
  stmt_above t p = omega (arith, stmt_length classes [] t 0 0 p)

  pub test_above : (until : Bool) (e : Expr) (p : ℕ) → p ≤ test_end classes until p e
  test_above false e p = omega (arith, expr_length classes [] e p)
  test_above true e p = omega (arith, expr_length classes [] e p)

  mutual
    pub exits_within : (t : Stmt) (p : ℕ) → All (Stands (stmt_end classes p t)) (exits_of classes p t)
    exits_within (Simple e place) p = none (stmt_end classes p (Simple e place))
    exits_within (Block all) p = all_within all p
    exits_within (Print items kinds place) p = none (stmt_end classes p (Print items kinds place))
    exits_within (If e a b place) p =
        let first = expr_end classes p e + 1 in
        let second = stmt_end classes first a + 1 in
        let le : stmt_end classes first a ≤ stmt_end classes second b =
        omega (arith, stmt_above b second) in
        both (exits_of classes first a) (exits_of classes second b) (stmt_end classes first a)
        (stmt_end classes second b) le (exits_within a first) (exits_within b second)
    exits_within (Loop until e body place) p = none (stmt_end classes p (Loop until e body place))
    exits_within (LoopLast until body e place) p =
        none (stmt_end classes p (LoopLast until body e place))
    exits_within (For start e step body place) p =
        let test = stmt_end classes p start in
        let first = expr_end classes test e + 1 + 1 in
        let next = stmt_end classes first body in
        let le : test ≤ stmt_end classes next step + 1 =
        omega (arith, expr_length classes [] e test, stmt_above body first, stmt_above step next) in
        more (exits_of classes p start) test (stmt_end classes next step + 1) le
        (exits_within start p)
    exits_within (ForEver start step body place) p =
        let round = stmt_end classes p start in
        let next = stmt_end classes (round + 1) body in
        let le : round ≤ stmt_end classes next step + 1 =
        omega (arith, stmt_above body (round + 1), stmt_above step next) in
        more (exits_of classes p start) round (stmt_end classes next step + 1) le
        (exits_within start p)
    exits_within (Repeat e body place) p = none (stmt_end classes p (Repeat e body place))
    exits_within (ForEach array local widens body place) p = none p
    exits_within (Break place) p =
        one (record { at = p; leaves = true; place = place }) (p + 1) (omega arith)
    exits_within (Continue place) p =
        one (record { at = p; leaves = false; place = place }) (p + 1) (omega arith)
    exits_within (Return e place) p = none (stmt_end classes p (Return e place))

    all_within : (all : Stmts) (p : ℕ) → All (Stands (block_end classes p all)) (all_exits_of classes p all)
    all_within no_stmts p = none p
    all_within (more_stmts t rest) p =
        let next = stmt_end classes p t in
        let le : next ≤ block_end classes next rest = omega (arith, block_length classes [] rest 0 0 next) in
        both (exits_of classes p t) (all_exits_of classes next rest) next
        (block_end classes next rest) le (exits_within t p) (all_within rest next)

  -- so do those that are held of a body, whatever stands behind it
  pub held_stand : (t : Stmt) (p steps : ℕ) (held : List Held) → held ≡ exits_of classes p t
      → stmt_end classes p t ≤ steps → All (λ it. it.at < steps) held
  held_stand t p steps held is le =
      more held (stmt_end classes p t) steps le
      (subst (All (Stands (stmt_end classes p t))) (sym is) (exits_within t p))
