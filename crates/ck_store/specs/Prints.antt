-- The lines that prints write.
use Rattle.std.specs.Prelude.{ℕ, true, false, List, [], ◌∷◌, ◌++◌, Option, Some, None, slice_get, codes}
use Rattle.ck_values.specs.declared.kind.Elem.{Elem}
use Rattle.ck_values.specs.declared.kind.Elem.TheVariants.{Int, Float, Dur, Time, Text, Shred, Class as OfClass, Unit as OfUnit}
use Rattle.ck_values.specs.declared.kind.Kind.{Kind}
use Rattle.ck_values.specs.declared.kind.Kind.TheVariants.{Void, Null, One, Row, Grid}
use Rattle.ck_values.specs.Datum.{Datum}
use Rattle.ugen_names.specs.Table.{unit_name}
use Rattle.ck_typed.specs.declared.class.Class.{Class}
use Rattle.ck_store.specs.Store.{State, Printed}
use Rattle.ck_store.specs.Strings.{printed}

-- the name of a class; one that isn't there has none
abbrev pub class_name : Option Class → List ℕ
class_name None = []
class_name (Some class) = class.name

-- the names of types; a unit generator of the run's own has that of all
abbrev pub elem_name : List Class → Elem → List ℕ
elem_name classes Int = codes "int"
elem_name classes Float = codes "float"
elem_name classes Dur = codes "dur"
elem_name classes Time = codes "time"
elem_name classes Text = codes "string"
elem_name classes Shred = codes "Shred"
elem_name classes (OfClass c) = class_name (slice_get classes c)
elem_name classes (OfUnit u) = unit_name u

abbrev pub kind_name : List Class → Kind → List ℕ
kind_name classes Void = codes "void"
kind_name classes Null = codes "null"
kind_name classes (One e) = elem_name classes e
kind_name classes (Row e) = elem_name classes e ++ codes "[]"
kind_name classes (Grid e) = elem_name classes e ++ codes "[][]"

-- the values with a space between
abbrev pub spaced : List Datum → List ℕ
spaced [] = []
spaced (v ∷ []) = printed false v
spaced (v ∷ w ∷ rest) = printed false v ++ 32 ∷ spaced (w ∷ rest)

-- the line of a print: an only item with its type, and several with a space between
abbrev pub print_line : List Class → List Kind → List Datum → List ℕ
print_line classes (k ∷ []) (v ∷ []) =
    printed true v ++ codes " :(" ++ kind_name classes k ++ codes ")" ++ 10 ∷ []
print_line classes kinds values = spaced values ++ 10 ∷ []

-- a line is printed when the slice stops
abbrev pub with_line : List ℕ → State → State
with_line line s = record s { acts = s.acts ++ Printed line ∷ [] }
