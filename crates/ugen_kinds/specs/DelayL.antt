-- DelayL: a delay line that is read between two samples.
use Rattle.std.specs.Prelude.{suc, ◌-◌, ℤ, pos, ◌^◌, Option, Some, option_map}
use Rattle.ck_values.specs.Datum.{Datum, AFloat}
use Rattle.fixed_point.specs.Fix.{sum_of, difference_of, product_of}
use Rattle.ugen_names.specs.declared.param.Param.{Param}
use Rattle.ugen_names.specs.declared.param.Param.TheVariants as param
use Rattle.ugen_kinds.specs.declared.delay_l.DelayL.{DelayL}
use Rattle.ugen_kinds.specs.Line.{Line, first_line, pushed, from_back, delayed, up_to, line_parameter, with_line_parameter}

abbrev pub first_delay_l : DelayL
first_delay_l = record { line = first_line; fraction = pos 0 }

-- between two items: the first, and so much of the way to the second
abbrev pub between : (fraction first second : ℤ) → ℤ
between fraction a b = sum_of a (product_of (difference_of b a) fraction)

abbrev pub delay_l_tick : DelayL → (input : ℤ) → DelayL × ℤ
delay_l_tick d input =
    let line = pushed input d.line in (
      record d { line = line },
      between d.fraction (delayed line) (from_back (suc line.delay) line.items),
    )

-- the fraction is below 1
abbrev pub with_fraction : ℤ → DelayL → DelayL
with_fraction x d = record d { fraction = up_to (pos (2 ^ 32 - 1)) x }

abbrev pub with_line_between : DelayL → Line → DelayL
with_line_between d l = record d { line = l }

abbrev pub delay_l_parameter : Param → DelayL → Option Datum
delay_l_parameter param.Frac d = Some (AFloat d.fraction)
delay_l_parameter p d = line_parameter p d.line

abbrev pub with_delay_l_parameter : Param → Datum → DelayL → Option DelayL
with_delay_l_parameter param.Frac (AFloat x) d = Some (with_fraction x d)
with_delay_l_parameter p v d = option_map (with_line_between d) (with_line_parameter p v d.line)
