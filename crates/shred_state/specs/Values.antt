-- What variables begin with.
use Rattle.std.specs.Prelude.{ℕ, pos, List, [], ◌++◌, map, drop}
use Rattle.ck_values.specs.declared.kind.Elem.{Elem}
use Rattle.ck_values.specs.declared.kind.Elem.TheVariants as elem
use Rattle.ck_values.specs.declared.kind.Kind.{Kind}
use Rattle.ck_values.specs.declared.kind.Kind.TheVariants.{Void, Null, One, Row, Grid}
use Rattle.ck_values.specs.declared.value.Value.{Value}
use Rattle.ck_values.specs.declared.value.Value.TheVariants.{Int, Float, Dur, Time, Text, Shred, Ref}

-- the null of references
abbrev pub null : Value
null = Ref (record { serial = 0; slot = 0 })

-- what a variable of this type begins with
abbrev pub default_of : Elem → Value
default_of elem.Int = Int (pos 0)
default_of elem.Float = Float (pos 0)
default_of elem.Dur = Dur (pos 0)
default_of elem.Time = Time (pos 0)
default_of elem.Text = Text []
default_of elem.Shred = Shred 0
default_of (elem.Class c) = null
default_of (elem.Unit u) = null

-- what a variable of this kind begins with
abbrev pub first_value : Kind → Value
first_value Void = null
first_value Null = null
first_value (One e) = default_of e
first_value (Row e) = null
first_value (Grid e) = null

-- the locals of a call of so many parameters: its arguments, then the first values of the others
abbrev pub first_locals : List Kind → (params : ℕ) → (arguments : List Value) → List Value
first_locals kinds params arguments = arguments ++ map first_value (drop params kinds)
