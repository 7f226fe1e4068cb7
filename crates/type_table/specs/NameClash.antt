-- Two declarations of one name: which members a class has already, and what is called of an event.
use Rattle.std.specs.Prelude.{ℕ, Bool, true, false, not, ◌&&◌, ◌||◌, length, Option, Some, None, nat_eq}
use Rattle.std.specs.List.{list_any}
use Rattle.ck_syntax.specs.Tree.{Name}
use Rattle.type_rules.specs.Calls.{has_call}
use Rattle.type_rules.specs.Fitting.{is_below}
use Rattle.type_rules.specs.declared.calls.Holder.TheVariants.{Event}
use Rattle.type_table.specs.declared.class.Own.{Own}
use Rattle.type_table.specs.declared.class.Own.TheVariants as own
use Rattle.type_table.specs.Finished.{numbers}
use Rattle.type_table.specs.Names.{lookup}
use Rattle.type_table.specs.Table.{Table, class_of, ancestors}

abbrev pub is_fun : Own → Bool
is_fun (own.Fun f d) = true
is_fun _ = false

-- what a class has under the name is there, and isn't a function beside a function
abbrev pub is_other : (beside_fun : Bool) → Option Own → Bool
is_other beside_fun None = false
is_other beside_fun (Some o) = not (beside_fun && is_fun o)

-- a class has a member of this name; a function may stand beside an ancestor's
abbrev pub has_other : Table → Name → (beside_fun : Bool) → (class : ℕ) → Bool
has_other t n beside_fun c = is_other beside_fun (lookup n (class_of t c).members)

-- a class stands below each of its ancestors
abbrev pub stands_below : Table → (class ancestor : ℕ) → Bool
stands_below t d c = list_any (nat_eq c) (ancestors t d)

-- a class has a member of this name, and stands below this one
abbrev pub takes_below : Table → (class : ℕ) → Name → (beside_fun : Bool) → (below : ℕ) → Bool
takes_below t c n beside_fun d = has_other t n beside_fun d && stands_below t d c

-- some class below this one has a member of this name
abbrev pub is_taken_below : Table → (class : ℕ) → Name → (beside_fun : Bool) → Bool
is_taken_below t c n beside_fun =
    list_any (takes_below t c n beside_fun) (numbers (length t.classes))

-- `signal` and `broadcast` count as functions of Event
abbrev pub is_event_call : Table → (class : ℕ) → Name → Bool
is_event_call t c n = is_below t.parents c 1 && has_call Event n

-- a class, its ancestors or the classes below it have a member of this name already
abbrev pub is_member_taken : Table → (class : ℕ) → Name → (beside_fun : Bool) → Bool
is_member_taken t c n beside_fun =
    has_other t n false c || list_any (has_other t n beside_fun) (ancestors t c)
    || is_taken_below t c n beside_fun || (not beside_fun && is_event_call t c n)
