-- What a call of the code gives, beside what the definition says.
use Rattle.std.specs.Prelude.{ℕ, ◌≡◌, ◌<◌, List, Option, Result, IfOk, IfErr}
use Rattle.std.specs.Global.{Box}
use Rattle.ck_typed.specs.declared.expr.TypedExpr.{TypedExpr}
use Rattle.ck_typed.specs.declared.stmt.TypedStmt.{TypedStmt}
use Rattle.type_table.specs.Answer.{Answer, gives, fault, fault_of, IsFault}
use Rattle.type_table.specs.declared.fault.TypeFault.{TypeFault}
use Rattle.check_scope.specs.declared.typed.Typed.{Typed}
use Rattle.check_scope.specs.Expressions.{Valued}
use Rattle.check_scope.specs.Scope.{Scope}
use Rattle.check_scope.specs.View.{valued}
use Rattle.program_laws.specs.Statements.{Stated, AllStated, Tested}
use Rattle.check_decls.specs.View.{stated_as, all_stated, tested_as}

-- the statement that a call gives, and the scope behind it, are the definition's
abbrev pub IsStated : Result (Box TypedStmt) TypeFault → Scope → Answer Stated → Type 0
IsStated r s answer = IfOk r (λ x. answer ≡ gives (stated_as x.value s))

-- and so are several
abbrev pub AreStated : Result (List TypedStmt) TypeFault → Scope → Answer AllStated → Type 0
AreStated r s answer = IfOk r (λ xs. answer ≡ gives (all_stated xs s))

-- a value
abbrev pub IsTyped : Result Typed TypeFault → Scope → Answer Valued → Type 0
IsTyped r s answer = IfOk r (λ x. answer ≡ gives (valued x s))

-- the test of a `for`, which may be missing
abbrev pub IsTested : Result (Option (Box TypedExpr)) TypeFault → Scope → Answer Tested → Type 0
IsTested r s answer = IfOk r (λ x. answer ≡ gives (tested_as x s))

-- the fault that a call gives is the definition's, where memory wasn't wanting
abbrev pub IsRefused : {X A : Type 0} → Result X TypeFault → Answer A → Type 0
IsRefused r answer = IfErr r (λ why. IsFault why → answer ≡ fault why)

-- the fault that a call gives stands in one of so many files, where memory wasn't wanting
abbrev pub IsPlaced : {X : Type 0} → Result X TypeFault → (files : ℕ) → Type 0
IsPlaced r files = IfErr r (λ why. IsFault why → (fault_of why).file < files)
