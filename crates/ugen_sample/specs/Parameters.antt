-- The parameters of unit generators: how they are read and set.
use Rattle.std.specs.Prelude.{ℤ, pos, negsuc, List, Option, Some, None, option_map, if◌then◌else◌}
use Rattle.std.specs.Ordering.{int_eq}
use Rattle.ck_values.specs.Datum.{Datum, AnInt, AFloat}
use Rattle.ugen_names.specs.declared.param.Param.{Param}
use Rattle.ugen_names.specs.declared.param.Param.TheVariants as param
use Rattle.ugen_kinds.specs.SoundFile.{SoundFile}
use Rattle.ugen_kinds.specs.Output.{mean_of}
use Rattle.ugen_kinds.specs.Generator.{own_parameter, with_own_parameter}
use Rattle.ugen_sample.specs.declared.choices.Joining.{Joining}
use Rattle.ugen_sample.specs.declared.choices.Joining.TheVariants.{Through, Off, Sum, Difference, Product, Quotient}
use Rattle.ugen_sample.specs.declared.unit.UnitState.{UnitState}

-- the number of how a unit generator joins its sources, its parameter `op`
abbrev pub joining_number : Joining → ℤ
joining_number Through = negsuc 0
joining_number Off = pos 0
joining_number Sum = pos 1
joining_number Difference = pos 2
joining_number Product = pos 3
joining_number Quotient = pos 4

-- how it joins them by this number; another number leaves how it did before
abbrev pub joining_of : ℤ → (before : Joining) → Joining
joining_of n before =
    if int_eq n (negsuc 0) then Through
    else if int_eq n (pos 0) then Off
    else if int_eq n (pos 1) then Sum
    else if int_eq n (pos 2) then Difference
    else if int_eq n (pos 3) then Product
    else if int_eq n (pos 4) then Quotient
    else before

-- the value of a parameter, where the unit generator has it
unfoldable pub unit_parameter : List SoundFile → Param → UnitState → Option Datum
unit_parameter waves param.Gain unit = Some (AFloat unit.gain)
unit_parameter waves param.Op unit = Some (AnInt (joining_number unit.joining))
unit_parameter waves param.Last unit = Some (AFloat (mean_of unit.last))
unit_parameter waves p unit = own_parameter waves p unit.generator

-- the unit generator with a parameter set, where it has it, it isn't read only, and the value has
-- its type; what a delay line can't have is told apart beforehand
unfoldable pub with_unit_parameter : List SoundFile → Param → Datum → UnitState → Option UnitState
with_unit_parameter waves param.Gain (AFloat x) unit = Some (record unit { gain = x })
with_unit_parameter waves param.Gain v unit = None
with_unit_parameter waves param.Op (AnInt n) unit =
    Some (record unit { joining = joining_of n unit.joining })
with_unit_parameter waves param.Op v unit = None
with_unit_parameter waves param.Last v unit = None
with_unit_parameter waves p v unit =
    option_map (λ g. record unit { generator = g }) (with_own_parameter waves p v unit.generator)
