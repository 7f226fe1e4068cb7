-- The round of a `for`, behind its test.
use Rattle.std.specs.Prelude.{ℕ, ◌+◌, List, [], ◌∷◌, ◌++◌}
use Rattle.ck_values.specs.declared.trap.Place.{Place}
use Rattle.ck_typed.specs.declared.class.Class.{Class}
use Rattle.ck_typed.specs.Tree.{Stmt}
use Rattle.ck_code.specs.declared.code.Step.{Step}
use Rattle.ck_code.specs.declared.instr.Instr.TheVariants.{Jump}
use Rattle.ck_scheme.specs.Scheme.{at, stmt_end, stmt_code}

module _ (classes : List Class) (texts : List (List ℕ)) where
  -- the body of a `for`, its step, and the jump back to where the round begins
  abbrev pub round_code : (round p : ℕ) (step body : Stmt) → Place → List Step
  round_code round p step body place =
      let next = stmt_end classes p body in
      let end = stmt_end classes next step + 1 in
      stmt_code classes texts end next p body
      ++ (stmt_code classes texts end round next step ++ at (Jump round) place ∷ [])
