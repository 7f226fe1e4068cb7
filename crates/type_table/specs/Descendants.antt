-- What the table keeps beside its lists so that the classes below one are found at once. No
-- definition of what a program means speaks of it.
use Rattle.std.specs.Prelude.{◌≡◌, ℕ, zero, suc, ◌+◌, ◌<◌, Bool, true, ◌&&◌, List, length, drop, nat_lt, slice_get, Option, Some, None}
use Rattle.type_rules.specs.Fitting.{parent_or}
use Rattle.type_table.specs.Lists.{list_at}
use Rattle.type_table.specs.Table.{line_by}
use Rattle.type_table.specs.MemberIndex.{IsIn}

-- the ancestors of a class
abbrev pub ancestors_by : (parents : List ℕ) → ℕ → List ℕ
ancestors_by parents c = drop 1 (line_by parents c)

-- the lists are those of the classes from the first one on: a class is put into those of its
-- ancestors, and what was in a list is there still
pub record ArePut (old new : List (List ℕ)) (first class : ℕ) (ancestors : List ℕ) : Type 0 where
  pub many : length new ≡ length old
  pub kept : (i d : ℕ) → IsIn d (list_at old i) → IsIn d (list_at new i)
  pub put : (i : ℕ) → i < length old → IsIn (first + i) ancestors → IsIn class (list_at new i)

-- the parents of so many classes stand before this one
abbrev pub are_before : (parents : List ℕ) → (first many : ℕ) → Bool
are_before parents first zero = true
are_before parents first (suc d) =
    are_before parents first d && nat_lt (parent_or (slice_get parents d)) first

-- each of so many classes that stands below this one is in the list
abbrev pub AreAllBelow : (parents : List ℕ) → (class many : ℕ) → List ℕ → Type 0
AreAllBelow parents c many below =
    (d : ℕ) → d < many → IsIn c (ancestors_by parents d) → IsIn d below

-- so many classes are in the lists of all their ancestors
abbrev pub AreListed : (parents : List ℕ) → (first many : ℕ) → List (List ℕ) → Type 0
AreListed parents first many lists =
    (i : ℕ) → i < length lists → AreAllBelow parents (first + i) many (list_at lists i)

-- where there are lists, all classes below one are in its list
abbrev pub AreBelowLists : (parents : List ℕ) → (first : ℕ) → Option (List (List ℕ)) → Type 0
AreBelowLists parents first None = Unit {0}
AreBelowLists parents first (Some lists) = AreListed parents first (length parents) lists
