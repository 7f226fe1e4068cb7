-- Where the classes are sought that take a name below one.
use Rattle.std.specs.Prelude.{◌≡◌, ℕ, Bool, true, List}
use Rattle.ck_syntax.specs.Tree.{Name}
use Rattle.type_table.specs.Table.{Table}
use Rattle.type_table.specs.NameClash.{takes_below}
use Rattle.type_table.specs.MemberIndex.{IsIn}

-- each class that has a member of this name and stands below this one is among these
abbrev pub AreAllTaking : Table → (class : ℕ) → Name → List ℕ → Type 0
AreAllTaking t c n classes =
    (beside_fun : Bool) (d : ℕ) → takes_below t c n beside_fun d ≡ true → IsIn d classes
