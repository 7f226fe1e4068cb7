-- What is settled is the kind of a file variable that had none so far.
use Rattle.std.specs.Prelude.{◌≡◌, ℕ, true, false, List, [], ◌∷◌, ◌++◌, Some}
use Rattle.ck_values.specs.declared.kind.Kind.{Kind}
use Rattle.ck_syntax.specs.Tree.{Name}
use Rattle.type_table.specs.declared.table.Variable.{Variable}
use Rattle.type_table.specs.Table.{Table, variable_named}
use Rattle.check_scope.specs.Denotations.{is_void}
use Rattle.check_scope.specs.Expressions.{is_no_type}
use Rattle.check_scope.specs.Scope.{settled_or, settled_at}

-- these kinds, and more: each is that of a value, and its variable was void until then
pub data Settles (t : Table) (before : List (ℕ × Kind)) : List (ℕ × Kind) → Type 0 where
  as_before : Settles t before before
  one_more : {so_far : List (ℕ × Kind)} (file : ℕ) (n : Name) (v : Variable) (k : Kind)
      → Settles t before so_far → variable_named t file n ≡ Some v
      → is_void (settled_or v.kind (settled_at v.index so_far)) ≡ true → is_no_type k ≡ false
      → Settles t before (so_far ++ (v.index, k) ∷ [])

pub settles_trans : {t : Table} {xs ys zs : List (ℕ × Kind)} → Settles t xs ys → Settles t ys zs
    → Settles t xs zs
settles_trans first as_before = first
settles_trans first (one_more file n v k second named void some) =
    one_more file n v k (settles_trans first second) named void some
