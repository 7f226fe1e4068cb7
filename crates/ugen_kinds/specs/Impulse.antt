-- Impulse: a number that comes at one tick.
use Rattle.std.specs.Prelude.{ℤ, pos, Option, Some, None}
use Rattle.ck_values.specs.Datum.{Datum, AFloat}
use Rattle.ugen_names.specs.declared.param.Param.{Param}
use Rattle.ugen_names.specs.declared.param.Param.TheVariants as param
use Rattle.ugen_kinds.specs.declared.impulse.Impulse.{Impulse}

abbrev pub first_impulse : Impulse
first_impulse = record { next = pos 0 }

-- it is heard once
abbrev pub impulse_tick : Impulse → Impulse × ℤ
impulse_tick i = (record i { next = pos 0 }, i.next)

abbrev pub impulse_parameter : Param → Impulse → Option Datum
impulse_parameter param.Next i = Some (AFloat i.next)
impulse_parameter _ i = None

abbrev pub with_impulse_parameter : Param → Datum → Impulse → Option Impulse
with_impulse_parameter param.Next (AFloat x) i = Some (record i { next = x })
with_impulse_parameter _ _ i = None
