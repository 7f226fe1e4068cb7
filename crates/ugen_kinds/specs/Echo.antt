-- Echo: a delay line whose output is mixed with the input.
use Rattle.std.specs.Prelude.{ℤ, pos, ◌^◌, Option, Some, option_map}
use Rattle.ck_values.specs.Datum.{Datum, AFloat}
use Rattle.fixed_point.specs.Fix.{one, sum_of, difference_of, product_of}
use Rattle.ugen_names.specs.declared.param.Param.{Param}
use Rattle.ugen_names.specs.declared.param.Param.TheVariants as param
use Rattle.ugen_kinds.specs.declared.echo.Echo.{Echo}
use Rattle.ugen_kinds.specs.Line.{Line, first_line, pushed, delayed, up_to, line_parameter, with_line_parameter}

abbrev pub first_echo : Echo
first_echo = record { line = first_line; mix = pos (2 ^ 31) }

-- the input less its share, and the share of the delayed
abbrev pub mixed : (mix input delayed : ℤ) → ℤ
mixed mix x d = sum_of (difference_of x (product_of x mix)) (product_of d mix)

abbrev pub echo_tick : Echo → (input : ℤ) → Echo × ℤ
echo_tick e input =
    let line = pushed input e.line in
    (record e { line = line }, mixed e.mix input (delayed line))

abbrev pub with_mix : ℤ → Echo → Echo
with_mix x e = record e { mix = up_to one x }

abbrev pub with_line : Echo → Line → Echo
with_line e l = record e { line = l }

abbrev pub echo_parameter : Param → Echo → Option Datum
echo_parameter param.Mix e = Some (AFloat e.mix)
echo_parameter p e = line_parameter p e.line

abbrev pub with_echo_parameter : Param → Datum → Echo → Option Echo
with_echo_parameter param.Mix (AFloat x) e = Some (with_mix x e)
with_echo_parameter p v e = option_map (with_line e) (with_line_parameter p v e.line)
