-- BiQuad: a filter of two inputs and two outputs before. All are raw numbers; sums go from the left,
-- each product is floored and each sum clamped.
use Rattle.std.specs.Prelude.{ℤ, pos, Option, Some, None}
use Rattle.ck_values.specs.Datum.{Datum, AFloat}
use Rattle.fixed_point.specs.Fix.{one, sum_of, difference_of, product_of}
use Rattle.ugen_names.specs.declared.param.Param.{Param}
use Rattle.ugen_names.specs.declared.param.Param.TheVariants as param
use Rattle.ugen_kinds.specs.declared.biquad.BiQuad.{BiQuad}

-- at first it gives its input
abbrev pub first_biquad : BiQuad
first_biquad =
    record {
      b0 = one;
      b1 = pos 0;
      b2 = pos 0;
      a1 = pos 0;
      a2 = pos 0;
      x1 = pos 0;
      x2 = pos 0;
      y1 = pos 0;
      y2 = pos 0;
    }

-- the share of the inputs in an output
abbrev pub biquad_inputs : BiQuad → (input : ℤ) → ℤ
biquad_inputs f x =
    sum_of (sum_of (product_of f.b0 x) (product_of f.b1 f.x1)) (product_of f.b2 f.x2)

abbrev pub biquad_output : BiQuad → (input : ℤ) → ℤ
biquad_output f x =
    difference_of (difference_of (biquad_inputs f x) (product_of f.a1 f.y1)) (product_of f.a2 f.y2)

abbrev pub biquad_tick : BiQuad → (input : ℤ) → BiQuad × ℤ
biquad_tick f x =
    let y = biquad_output f x in
    (record f { x1 = x; x2 = f.x1; y1 = y; y2 = f.y1 }, y)

abbrev pub biquad_parameter : Param → BiQuad → Option Datum
biquad_parameter param.B0 f = Some (AFloat f.b0)
biquad_parameter param.B1 f = Some (AFloat f.b1)
biquad_parameter param.B2 f = Some (AFloat f.b2)
biquad_parameter param.A1 f = Some (AFloat f.a1)
biquad_parameter param.A2 f = Some (AFloat f.a2)
biquad_parameter _ f = None

abbrev pub with_biquad_parameter : Param → Datum → BiQuad → Option BiQuad
with_biquad_parameter param.B0 (AFloat x) f = Some (record f { b0 = x })
with_biquad_parameter param.B1 (AFloat x) f = Some (record f { b1 = x })
with_biquad_parameter param.B2 (AFloat x) f = Some (record f { b2 = x })
with_biquad_parameter param.A1 (AFloat x) f = Some (record f { a1 = x })
with_biquad_parameter param.A2 (AFloat x) f = Some (record f { a2 = x })
with_biquad_parameter _ _ f = None
