-- Which types fit which: where one is wanted, a value of the other may stand.
use Rattle.std.specs.Prelude.{ℕ, zero, suc, Bool, true, false, ◌||◌, if◌then◌else◌, nat_eq, List, Option, Some, None, slice_get}
use Rattle.ck_values.specs.declared.kind.Elem.{Elem}
use Rattle.ck_values.specs.declared.kind.Elem.TheVariants.{Int, Float, Dur, Time, Text, Shred, Class, Unit}
use Rattle.ck_values.specs.declared.kind.Kind.{Kind}
use Rattle.ck_values.specs.declared.kind.Kind.TheVariants.{Void, Null, One, Row, Grid}
use Rattle.ck_base.specs.declared.limits.TheConstants.{MAX_ANCESTORS}
use Rattle.ugen_names.specs.declared.table.UgenKind.{UgenKind}
use Rattle.ugen_names.specs.declared.table.UgenKind.TheVariants.{UGen}
use Rattle.ugen_names.specs.contracts.table.UgenKind as ugen_kind
use denote.Enum.Bare.{sameb}

abbrev pub same_ugen : UgenKind → UgenKind → Bool
same_ugen a b = sameb ugen_kind.the_type a b

-- the parent of a class, by the parents of the classes in order; where it has none, Object
abbrev pub parent_or : Option ℕ → ℕ
parent_or None = 0
parent_or (Some parent) = parent

-- the class is this one, or at most so many steps below it
abbrev pub below : (parents : List ℕ) → (steps : ℕ) → (class ancestor : ℕ) → Bool
below parents zero c d = nat_eq c d
below parents (suc n) c d = nat_eq c d || below parents n (parent_or (slice_get parents c)) d

-- the class is this one, or one of its ancestors is
unfoldable pub is_below : (parents : List ℕ) → (class ancestor : ℕ) → Bool
is_below parents c d = below parents MAX_ANCESTORS c d

abbrev pub same_elem : Elem → Elem → Bool
same_elem Int Int = true
same_elem Float Float = true
same_elem Dur Dur = true
same_elem Time Time = true
same_elem Text Text = true
same_elem Shred Shred = true
same_elem (Class c) (Class d) = nat_eq c d
same_elem (Unit a) (Unit b) = same_ugen a b
same_elem _ _ = false

-- int fits float, a class its ancestors, a unit generator UGen, and each type itself
abbrev pub elem_fits : (parents : List ℕ) → (from to : Elem) → Bool
elem_fits parents Int Float = true
elem_fits parents (Class c) (Class d) = is_below parents c d
elem_fits parents (Unit a) (Unit b) = same_ugen b UGen || same_ugen a b
elem_fits parents a b = same_elem a b

-- a value of this type is a reference
abbrev pub is_reference : Elem → Bool
is_reference (Class c) = true
is_reference (Unit k) = true
is_reference _ = false

-- null fits every reference, and an array fits its own type alone
abbrev pub kind_fits : (parents : List ℕ) → (from to : Kind) → Bool
kind_fits parents Void Void = true
kind_fits parents Null Null = true
kind_fits parents Null (One e) = is_reference e
kind_fits parents Null (Row e) = true
kind_fits parents Null (Grid e) = true
kind_fits parents (One a) (One b) = elem_fits parents a b
kind_fits parents (Row a) (Row b) = same_elem a b
kind_fits parents (Grid a) (Grid b) = same_elem a b
kind_fits parents _ _ = false

-- the type of a choice between values of two types: the one that the other fits
abbrev pub chosen : (parents : List ℕ) → (first second : Kind) → Option Kind
chosen parents a b =
    if kind_fits parents a b then Some b
    else if kind_fits parents b a then Some a
    else None
