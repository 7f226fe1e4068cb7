-- What holds of each built-in name.
use Rattle.std.proofs.Common.{◌≡◌, Option, Some, None, option_map, refl}
use Rattle.ugen_names.specs.declared.table.UgenKind.{UgenKind}
use Rattle.ck_syntax.specs.Tree.{Name}
use Rattle.ugen_names.specs.Table.{unit_named}
use Rattle.type_table.specs.declared.built_ins.BuiltInName.{BuiltInName}
use Rattle.type_table.specs.Names.{lookup, built_in_names, unit_type, built_in}
use Rattle.type_table.proofs.ListFacts.{Holds, holds_else, found_holds}
use Rattle.type_table.proofs.Ranges.{Each}

units_hold : (P : BuiltInName → Type 0) (o : Option UgenKind)
    → ((k : UgenKind) → o ≡ Some k → P (unit_type k)) → Holds P (option_map unit_type o)
units_hold P None each = tt
units_hold P (Some k) each = each k refl

-- it holds of the names in the list, and of the type of each kind that has a name
pub built_in_holds : (P : BuiltInName → Type 0) (n : Name)
    → Each (λ (e : Name × BuiltInName). P e.1) built_in_names
    → ((k : UgenKind) → unit_named n ≡ Some k → P (unit_type k)) → Holds P (built_in n)
built_in_holds P n named units =
    holds_else P (lookup n built_in_names) (option_map unit_type (unit_named n))
    (found_holds P n built_in_names named) (units_hold P (unit_named n) units)
