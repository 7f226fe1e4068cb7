-- OnePole: a filter with one pole. All are raw numbers.
use Rattle.std.specs.Prelude.{ℤ, pos, Option, Some, None}
use Rattle.ck_values.specs.Datum.{Datum, AFloat}
use Rattle.fixed_point.specs.Fix.{one, difference_of, product_of, negation_of, magnitude_of}
use Rattle.ugen_names.specs.declared.param.Param.{Param}
use Rattle.ugen_names.specs.declared.param.Param.TheVariants as param
use Rattle.ugen_kinds.specs.declared.one_pole.OnePole.{OnePole}

-- a pole is set: the gain at no frequency is 1
abbrev pub with_pole : ℤ → OnePole → OnePole
with_pole pole f =
    record f { pole = pole; b0 = difference_of one (magnitude_of pole); a1 = negation_of pole }

-- at first the pole is at 0.9
unfoldable pub first_one_pole : OnePole
first_one_pole =
    with_pole (pos 3_865_470_567) (record { pole = pos 0; b0 = pos 0; a1 = pos 0; y1 = pos 0 })

abbrev pub one_pole_output : OnePole → (input : ℤ) → ℤ
one_pole_output f x = difference_of (product_of f.b0 x) (product_of f.a1 f.y1)

abbrev pub one_pole_tick : OnePole → (input : ℤ) → OnePole × ℤ
one_pole_tick f x =
    let y = one_pole_output f x in
    (record f { y1 = y }, y)

abbrev pub one_pole_parameter : Param → OnePole → Option Datum
one_pole_parameter param.Pole f = Some (AFloat f.pole)
one_pole_parameter param.B0 f = Some (AFloat f.b0)
one_pole_parameter param.A1 f = Some (AFloat f.a1)
one_pole_parameter _ f = None

-- a coefficient that is set by its name leaves the pole as it reads
abbrev pub with_one_pole_parameter : Param → Datum → OnePole → Option OnePole
with_one_pole_parameter param.Pole (AFloat x) f = Some (with_pole x f)
with_one_pole_parameter param.B0 (AFloat x) f = Some (record f { b0 = x })
with_one_pole_parameter param.A1 (AFloat x) f = Some (record f { a1 = x })
with_one_pole_parameter _ _ f = None
