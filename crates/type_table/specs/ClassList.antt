-- One class of a list.
use Rattle.std.specs.Prelude.{ℕ, List, slice_get, slice_set}
use Rattle.type_table.specs.Table.{Class, or_no_class}

abbrev pub class_at : List Class → ℕ → Class
class_at classes c = or_no_class (slice_get classes c)

abbrev pub with_class_at : List Class → ℕ → Class → List Class
with_class_at classes c changed = slice_set classes c changed
