-- Pan2: a place between both sides.
use Rattle.std.specs.Prelude.{ℤ, pos, neg_ℤ, Option, Some, None}
use Rattle.std.specs.Int.{int_max, int_min}
use Rattle.ck_values.specs.Datum.{Datum, AFloat}
use Rattle.fixed_point.specs.Fix.{one, sum_of, difference_of, product_of}
use Rattle.ugen_names.specs.declared.param.Param.{Param}
use Rattle.ugen_names.specs.declared.param.Param.TheVariants as param
use Rattle.ugen_kinds.specs.declared.output.Output.{Output}
use Rattle.ugen_kinds.specs.declared.pan2.Pan2.{Pan2}

abbrev pub first_pan : Pan2
first_pan = record { pan = pos 0 }

-- the input on both sides: on its own side whole, and on the other the less of it
abbrev pub panned : Pan2 → (input : ℤ) → Output
panned p x =
    record {
      left = product_of x (int_min one (difference_of one p.pan));
      right = product_of x (int_min one (sum_of one p.pan));
    }

-- the nearest raw number from -1 to 1
abbrev pub within_sides : ℤ → ℤ
within_sides x = int_max (neg_ℤ one) (int_min x one)

abbrev pub pan_parameter : Param → Pan2 → Option Datum
pan_parameter param.Pan p = Some (AFloat p.pan)
pan_parameter _ p = None

abbrev pub with_pan_parameter : Param → Datum → Pan2 → Option Pan2
with_pan_parameter param.Pan (AFloat x) p = Some (record p { pan = within_sides x })
with_pan_parameter _ _ p = None
