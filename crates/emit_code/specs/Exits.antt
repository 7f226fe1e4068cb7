-- The jumps of breaks and continues, which are written once their loop stands.
use Rattle.std.specs.Prelude.{ℕ, ◌+◌, true, false, List, [], ◌∷◌, ◌++◌, if◌then◌else◌, slice_set}
use Rattle.ck_typed.specs.declared.class.Class.{Class}
use Rattle.ck_typed.specs.Tree.{Stmt, Stmts, no_stmts, more_stmts, Block, If, For, ForEver, Break, Continue}
use Rattle.ck_code.specs.declared.code.Step.{Step}
use Rattle.ck_code.specs.declared.instr.Instr.TheVariants.{Jump}
use Rattle.ck_scheme.specs.Scheme.{at, expr_end, stmt_end}
use Rattle.emit_code.specs.declared.jumps.Held.{Held}

-- the jumps of the breaks and continues of the loop around a statement whose code stands from p on
module _ (classes : List Class) where
  abbrev mutual
    pub exits_of : (p : ℕ) → Stmt → List Held
    exits_of p (Block all) = all_exits_of p all
    exits_of p (If c a b place) =
        let first = expr_end classes p c + 1 in
        exits_of first a ++ exits_of (stmt_end classes first a + 1) b
    exits_of p (For start c step body place) = exits_of p start
    exits_of p (ForEver start step body place) = exits_of p start
    exits_of p (Break place) = record { at = p; leaves = true; place = place } ∷ []
    exits_of p (Continue place) = record { at = p; leaves = false; place = place } ∷ []
    exits_of p _ = []

    pub all_exits_of : (p : ℕ) → Stmts → List Held
    all_exits_of p no_stmts = []
    all_exits_of p (more_stmts t rest) =
        exits_of p t ++ all_exits_of (stmt_end classes p t) rest

-- a code with these jumps written: a break goes to the place out, a continue to the place again
abbrev pub written : (out again : ℕ) → List Held → List Step → List Step
written out again [] code = code
written out again (it ∷ held) code =
    written out again held
    (slice_set code it.at (at (Jump (if it.leaves then out else again)) it.place))
