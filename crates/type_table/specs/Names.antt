-- The names that every program has, and how a name is sought.
use Rattle.std.specs.Prelude.{ℕ, List, [], ◌∷◌, ◌++◌, codes, Option, Some, None, option_map, if◌then◌else◌}
pub use Rattle.std.specs.Prelude.{is_some}
use Rattle.std.specs.Str.{bytes_eq}
use Rattle.ck_values.specs.declared.kind.Elem.TheVariants.{Shred, Class, Unit}
use Rattle.ugen_names.specs.declared.table.UgenKind.{UgenKind}
use Rattle.ck_syntax.specs.Tree.{Name}
use Rattle.ugen_names.specs.Table.{unit_named}
use Rattle.type_rules.specs.declared.calls.Holder.TheVariants.{Std, Math, Machine}
use Rattle.type_table.specs.declared.built_ins.BuiltInName.{BuiltInName}
use Rattle.type_table.specs.declared.built_ins.BuiltInName.TheVariants.{Elem as elem, Module}

-- what the first of this name is
abbrev pub lookup : {A : Type 0} → Name → List (Name × A) → Option A
lookup n [] = None
lookup n ((m, a) ∷ rest) = if bytes_eq n m then Some a else lookup n rest

-- what has no name yet gets this one
abbrev pub and_first : {A : Type 0} → Name → A → List (Name × A) → List (Name × A)
and_first n a known = if is_some (lookup n known) then known else known ++ (n, a) ∷ []

-- this, and where there is none, that
abbrev pub or_else : {A : Type 0} → Option A → Option A → Option A
or_else None other = other
or_else (Some a) other = Some a

-- the types and the holders of calls that every program has, beside the kinds of unit generators
unfoldable pub built_in_names : List (Name × BuiltInName)
built_in_names =
    (codes "Object", elem (Class 0)) ∷
    (codes "Event", elem (Class 1)) ∷
    (codes "Shred", elem Shred) ∷
    (codes "Math", Module Math) ∷
    (codes "Std", Module Std) ∷
    (codes "Machine", Module Machine) ∷ []

-- the type of the unit generators of a kind
abbrev pub unit_type : UgenKind → BuiltInName
unit_type kind = elem (Unit kind)

abbrev pub built_in : Name → Option BuiltInName
built_in n = or_else (lookup n built_in_names) (option_map unit_type (unit_named n))

-- the class that a built-in name is
abbrev pub as_class : Option BuiltInName → Option ℕ
as_class (Some (elem (Class c))) = Some c
as_class _ = None
