-- OneZero: a filter with one zero. All are raw numbers.
use Rattle.std.specs.Prelude.{ℤ, pos, negsuc, ◌-◌, ◌^◌, Option, Some, None}
use Rattle.ck_values.specs.Datum.{Datum, AFloat}
use Rattle.fixed_point.specs.Fix.{one, sum_of, product_of, quotient_of, negation_of, magnitude_of}
use Rattle.ugen_names.specs.declared.param.Param.{Param}
use Rattle.ugen_names.specs.declared.param.Param.TheVariants as param
use Rattle.ugen_kinds.specs.declared.one_zero.OneZero.{OneZero}

-- a zero is set: the greatest gain is 1
abbrev pub with_zero : ℤ → OneZero → OneZero
with_zero z f =
    let b0 = quotient_of one (sum_of one (magnitude_of z)) in
    record f { zero_at = z; b0 = b0; b1 = negation_of (product_of z b0) }

-- at first the zero is at -1
unfoldable pub first_one_zero : OneZero
first_one_zero =
    with_zero (negsuc (2 ^ 32 - 1)) (record { zero_at = pos 0; b0 = pos 0; b1 = pos 0; x1 = pos 0 })

abbrev pub one_zero_tick : OneZero → (input : ℤ) → OneZero × ℤ
one_zero_tick f x = (record f { x1 = x }, sum_of (product_of f.b0 x) (product_of f.b1 f.x1))

abbrev pub one_zero_parameter : Param → OneZero → Option Datum
one_zero_parameter param.Zero f = Some (AFloat f.zero_at)
one_zero_parameter param.B0 f = Some (AFloat f.b0)
one_zero_parameter param.B1 f = Some (AFloat f.b1)
one_zero_parameter _ f = None

-- a coefficient that is set by its name leaves the zero as it reads
abbrev pub with_one_zero_parameter : Param → Datum → OneZero → Option OneZero
with_one_zero_parameter param.Zero (AFloat x) f = Some (with_zero x f)
with_one_zero_parameter param.B0 (AFloat x) f = Some (record f { b0 = x })
with_one_zero_parameter param.B1 (AFloat x) f = Some (record f { b1 = x })
with_one_zero_parameter _ _ f = None
