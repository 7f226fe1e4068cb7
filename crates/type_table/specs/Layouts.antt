-- The layouts of classes, as they are found one after another.
use Rattle.std.specs.Prelude.{◌≡◌, ℕ, List, [], ◌++◌, Option, Some, None, slice_get}
use Rattle.type_table.specs.declared.layout.Layout.{Layout}
use Rattle.type_table.specs.Finished.{with_all, all_fields, all_slots}
use Rattle.type_table.specs.Table.{Table, class_of, line}

-- no field, and no slot
abbrev pub no_layout : Layout
no_layout = record { fields = []; virtuals = [] }

-- the layout of the ancestors, with what their descendant declares
abbrev pub with_class : Table → (above : List ℕ) → ℕ → Layout → Layout
with_class t above c l =
    record {
      fields = l.fields ++ (class_of t c).fields;
      virtuals = with_all t above l.virtuals (class_of t c).members;
    }

-- the layout of a line of classes
abbrev pub layout_of : Table → List ℕ → Layout
layout_of t classes = record { fields = all_fields t classes; virtuals = all_slots t classes }

abbrev pub or_none_found : Option (Option Layout) → Option Layout
or_none_found None = None
or_none_found (Some l) = l

-- what is found of a class
abbrev pub found_at : List (Option Layout) → ℕ → Option Layout
found_at found c = or_none_found (slice_get found c)

-- what is found of each class is the layout of its line
abbrev pub IsFound : Table → ℕ → Option Layout → Type 0
IsFound t c None = Unit {0}
IsFound t c (Some l) = l ≡ layout_of t (line t c)

abbrev pub AreFound : Table → List (Option Layout) → Type 0
AreFound t found = (c : ℕ) → IsFound t c (found_at found c)
