-- What is right of the results of typing: the scope behind, and, whatever locals the function has in the end, what was
-- typed.
use Rattle.std.specs.Prelude.{◌≡◌, List, Some}
use Rattle.ck_values.specs.declared.kind.Kind.{Kind}
use Rattle.ck_typed.specs.Tree.{Program}
use Rattle.type_table.proofs.Ranges.{Each}
use Rattle.type_table.specs.Table.{Table}
use Rattle.check_scope.specs.Expressions.{Meant, Valued, AllValued}
use Rattle.check_scope.specs.Scope.{Scope}
use Rattle.expr_laws.proofs.Premises.{Leads, Ends, IsScope, Grows, IsValue, IsMeaning}

-- what is known of a scope is known of one behind it
abbrev pub Carries : Program → Table → (before behind : Scope) → Type 0
Carries p t s u = (all : List Kind) → Leads p u all → Ends p t s all → Ends p t u all

-- a scope behind another one
abbrev pub IsBehind : Program → Table → (before behind : Scope) → Type 0
IsBehind p t s u = IsScope t u × Grows s u × Carries p t s u

abbrev pub IsMeant : Program → Table → Scope → Meant → Type 0
IsMeant p t s m = IsBehind p t s m.scope × ((all : List Kind) → Ends p t m.scope all → IsMeaning p t all m.means)

abbrev pub IsValued : Program → Table → Scope → Valued → Type 0
IsValued p t s x = IsBehind p t s x.scope × ((all : List Kind) → Ends p t x.scope all → IsValue p t all x.typed)

abbrev pub AreValued : Program → Table → Scope → AllValued → Type 0
AreValued p t s xs = IsBehind p t s xs.scope × ((all : List Kind) → Ends p t xs.scope all
    → Each (IsValue p t all) xs.typed)
