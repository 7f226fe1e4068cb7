-- The types of the values of parameters.
use Rattle.ugen_names.specs.declared.param.ParamType.{ParamType}
use Rattle.ugen_names.specs.declared.param.ParamType.TheVariants.{Int, Float, Dur, Text}
use Rattle.ck_values.specs.declared.kind.Elem.{Elem}
use Rattle.ck_values.specs.declared.kind.Elem.TheVariants as elem

-- the values of a parameter are of a type of the language
abbrev pub elem_of : ParamType → Elem
elem_of Int = elem.Int
elem_of Float = elem.Float
elem_of Dur = elem.Dur
elem_of Text = elem.Text
