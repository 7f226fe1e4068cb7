-- Step: a number that comes at each tick.
use Rattle.std.specs.Prelude.{ℤ, Option, Some, None}
use Rattle.ck_values.specs.Datum.{Datum, AFloat}
use Rattle.fixed_point.specs.Fix.{one}
use Rattle.ugen_names.specs.declared.param.Param.{Param}
use Rattle.ugen_names.specs.declared.param.Param.TheVariants as param
use Rattle.ugen_kinds.specs.declared.step.Step.{Step}

abbrev pub first_step : Step
first_step = record { next = one }

abbrev pub step_tick : Step → Step × ℤ
step_tick s = (s, s.next)

abbrev pub step_parameter : Param → Step → Option Datum
step_parameter param.Next s = Some (AFloat s.next)
step_parameter _ s = None

abbrev pub with_step_parameter : Param → Datum → Step → Option Step
with_step_parameter param.Next (AFloat x) s = Some (record s { next = x })
with_step_parameter _ _ s = None
