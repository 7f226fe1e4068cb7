-- The table of unit generators against what they keep.
use Rattle.std.specs.Prelude.{ℤ, Bool, true, false, not, ◌&&◌, Option, Some, None}
use Rattle.ck_values.specs.Datum.{Datum, AnInt, AFloat, ADur, AText}
use Rattle.ugen_names.specs.declared.param.Param.{Param}
use Rattle.ugen_names.specs.declared.param.ParamType.{ParamType}
use Rattle.ugen_names.specs.declared.param.ParamType.TheVariants.{Int, Float, Dur, Text}
use Rattle.ugen_names.specs.declared.table.UgenKind.{UgenKind}
use Rattle.ugen_names.specs.declared.table.UgenKind.TheVariants.{Pan2}
use Rattle.ugen_names.specs.Table.{Parameter, among, own_parameters}

-- the kinds that have a row where they have parameters: all but Pan2, which is no type yet
abbrev pub is_in_table : UgenKind → Bool
is_in_table Pan2 = false
is_in_table _ = true

-- what the table says of a parameter that a kind has of its own
abbrev pub own_row : UgenKind → Param → Option Parameter
own_row kind p = among p (own_parameters kind)

-- a value has the type of a parameter
abbrev pub is_of_type : ParamType → Datum → Bool
is_of_type Int (AnInt n) = true
is_of_type Float (AFloat x) = true
is_of_type Dur (ADur n) = true
is_of_type Text (AText bytes) = true
is_of_type _ _ = false

-- what is read is a value of the type that the table says, and nothing where it has no such parameter
abbrev pub reads : Option Parameter → Option Datum → Bool
reads None None = true
reads (Some q) (Some v) = is_of_type q.values v
reads _ _ = false

-- a value can be set: the table has the parameter, it isn't read only, and the value has its type
abbrev pub can_be_set : Option Parameter → Datum → Bool
can_be_set None v = false
can_be_set (Some q) v = not q.is_read_only && is_of_type q.values v

-- a number as a value of a type
abbrev pub value_of : ParamType → ℤ → Datum
value_of Int n = AnInt n
value_of Dur n = ADur n
value_of _ n = AFloat n

-- what the table says that a new one reads
abbrev pub first_by : Parameter → Datum
first_by q = value_of q.values q.first
