-- What a delay line can't have is a parameter of it all the same.
use Rattle.std.proofs.Common.{◌≡◌, true, List}
use Rattle.std.specs.Prelude.{IsSome}
use Rattle.ck_values.specs.Datum.{Datum}
use Rattle.ugen_names.specs.declared.param.Param.{Param}
use Rattle.ugen_names.specs.declared.param.Param.TheVariants as param
use Rattle.ugen_kinds.specs.SoundFile.{SoundFile}
use Rattle.ugen_kinds.specs.Generator.{is_past_limit, with_own_parameter}
use Rattle.ugen_kinds.proofs.Limits.{mapped_some, own_past, gain_past, op_past, last_past}
use Rattle.ugen_sample.specs.declared.unit.UnitState.{UnitState}
use Rattle.ugen_sample.specs.Parameters.{with_unit_parameter}

pub unit_past : (waves : List SoundFile) (p : Param) (d : Datum) (unit : UnitState)
    → is_past_limit p d unit.generator ≡ true → IsSome (with_unit_parameter waves p d unit)
unfolding with_unit_parameter
unit_past waves param.Gain d unit past = absurd (gain_past d unit.generator past)
unit_past waves param.Op d unit past = absurd (op_past d unit.generator past)
unit_past waves param.Last d unit past = absurd (last_past d unit.generator past)
unit_past waves p d unit past =
    mapped_some (λ g. record unit { generator = g }) (with_own_parameter waves p d unit.generator)
    (own_past waves p d unit.generator past)
