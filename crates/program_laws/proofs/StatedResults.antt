-- What is right of typed statements: the scope behind, and, whatever locals the function has in the
-- end, the statement.
use Rattle.std.specs.Prelude.{◌≡◌, List, Some}
use Rattle.ck_values.specs.declared.kind.Kind.{Kind}
use Rattle.ck_typed.specs.Tree.{Program}
use Rattle.type_table.specs.Table.{Table}
use Rattle.program_laws.specs.declared.surroundings.Surroundings.{Surroundings}
use Rattle.ck_typed.specs.Standing.{given}
use Rattle.check_scope.specs.Scope.{Scope}
use Rattle.program_laws.specs.Statements.{Stated, AllStated, in_order}
use Rattle.ck_typed.specs.WellFormed.{IsFine, AreFine}
use Rattle.expr_laws.proofs.Premises.{Ends}
use Rattle.expr_laws.proofs.Results.{IsBehind}

-- the result of the function around, where it is known
abbrev pub Returns : Surroundings → (result : Kind) → Type 0
Returns o result = (k : Kind) → o.result ≡ Some k → given k ≡ result

abbrev pub IsStated : Program → Table → Surroundings → Scope → Stated → Type 0
IsStated p t o s x =
    IsBehind p t s x.scope
    × ((all : List Kind) (result : Kind) → Returns o result → Ends p t x.scope all
    → IsFine p all result o.in_loop x.stmt)

abbrev pub AreStated : Program → Table → Surroundings → Scope → AllStated → Type 0
AreStated p t o s xs =
    IsBehind p t s xs.scope
    × ((all : List Kind) (result : Kind) → Returns o result → Ends p t xs.scope all
    → AreFine p all result o.in_loop (in_order xs.stmts))
