-- Lists of numbers of classes.
use Rattle.std.specs.Prelude.{ℕ, List, [], ◌∷◌, ◌++◌, Option, Some, None, slice_get, slice_set}

-- the numbers in a list; none where there is no list
abbrev pub or_none : Option (List ℕ) → List ℕ
or_none None = []
or_none (Some numbers) = numbers

abbrev pub list_at : List (List ℕ) → ℕ → List ℕ
list_at lists i = or_none (slice_get lists i)

-- a number more in a list
abbrev pub and_number : List (List ℕ) → (list number : ℕ) → List (List ℕ)
and_number lists i x = slice_set lists i (list_at lists i ++ x ∷ [])
