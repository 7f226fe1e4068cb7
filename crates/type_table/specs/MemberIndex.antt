-- What the table keeps beside its lists so that the classes with a member of one name are found at
-- once. No definition of what a program means speaks of it.
use Rattle.std.specs.Prelude.{◌≡◌, ℕ, ◌<◌, true, List, [], ◌∷◌, ◌++◌, length, nat_eq, Option, Some, None, slice_get}
use Rattle.std.specs.List.{list_any}
use Rattle.ck_syntax.specs.Tree.{Name}
use Rattle.type_table.specs.declared.member_index.MemberIndex.{MemberIndex}
use Rattle.type_table.specs.Lists.{list_at, and_number}
use Rattle.type_table.specs.Names.{lookup, is_some}
use Rattle.type_table.specs.Table.{Class, or_no_class}

abbrev pub no_owners : MemberIndex
no_owners = record { names = []; lists = [] }

abbrev pub listed : List (List ℕ) → Option ℕ → List ℕ
listed lists None = []
listed lists (Some i) = list_at lists i

-- the classes that have a member of this name
abbrev pub owners_of : MemberIndex → Name → List ℕ
owners_of ts n = listed ts.lists (lookup n ts.names)

-- a class more for a name whose list has this number, where it has one
abbrev pub with_owner_at : MemberIndex → Name → (class : ℕ) → Option ℕ → MemberIndex
with_owner_at ts n c (Some i) = record ts { lists = and_number ts.lists i c }
with_owner_at ts n c None =
    record {
      names = ts.names ++ (n, length ts.lists) ∷ [];
      lists = ts.lists ++ (c ∷ []) ∷ [];
    }

abbrev pub with_owner : MemberIndex → Name → (class : ℕ) → MemberIndex
with_owner ts n c = with_owner_at ts n c (lookup n ts.names)

abbrev pub IsIn : ℕ → List ℕ → Type 0
IsIn x xs = list_any (nat_eq x) xs ≡ true

-- each class that has a member of this name is among these
abbrev pub AreAllWith : List Class → Name → List ℕ → Type 0
AreAllWith classes n owners =
    (d : ℕ) → is_some (lookup n (or_no_class (slice_get classes d)).members) ≡ true → IsIn d owners

-- each name has a list, and each class that has a member is among the owners of its name
pub record AreOwners (classes : List Class) (ts : MemberIndex) : Type 0 where
  pub lists : (n : Name) (i : ℕ) → lookup n ts.names ≡ Some i → i < length ts.lists
  pub all : (n : Name) → AreAllWith classes n (owners_of ts n)

-- whichever classes have members, all are among their owners still
abbrev pub AreKept : (old new : MemberIndex) → Type 0
AreKept old new = (classes : List Class) → AreOwners classes old → AreOwners classes new
