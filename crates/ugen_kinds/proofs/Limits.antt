-- What a delay line can't have is a parameter of it all the same.
use Rattle.std.proofs.Common.{◌≡◌, true, List, Option, Some, None, option_map, refl}
use Rattle.std.specs.Prelude.{IsSome}
use Rattle.ck_values.specs.Datum.{Datum, AFloat, ADur}
use Rattle.ugen_names.specs.declared.param.Param.{Param}
use Rattle.ugen_names.specs.declared.param.Param.TheVariants as param
use Rattle.ugen_kinds.specs.declared.generator.Generator.{Generator}
use Rattle.ugen_kinds.specs.declared.generator.Generator.TheVariants.{Delay, DelayL, Echo}
use Rattle.ugen_kinds.specs.declared.delay_l as between
use Rattle.ugen_kinds.specs.declared.echo as mixed
use Rattle.ugen_kinds.specs.SoundFile.{SoundFile}
use Rattle.ugen_kinds.specs.Line.{Line, is_past_line, with_line_parameter}
use Rattle.ugen_kinds.specs.DelayL.{with_line_between, with_delay_l_parameter}
use Rattle.ugen_kinds.specs.Echo.{with_line, with_echo_parameter}
use Rattle.ugen_kinds.specs.Generator.{is_past_limit, with_own_parameter}

pub mapped_some : {A B : Type 0} (f : A → B) (o : Option A) → IsSome o → IsSome (option_map f o)
mapped_some f None some = some
mapped_some f (Some a) some = refl

line_past : (p : Param) (d : Datum) (l : Line) → is_past_line p d l ≡ true
    → IsSome (with_line_parameter p d l)
line_past param.Max (ADur n) l past = refl
line_past param.Delay (ADur n) l past = refl
line_past _ _ l past = absurd cc

between_past : (p : Param) (d : Datum) (b : between.DelayL.DelayL) → is_past_line p d b.line ≡ true
    → IsSome (with_delay_l_parameter p d b)
between_past param.Frac (AFloat x) b past = refl
between_past p d b past =
    mapped_some (with_line_between b) (with_line_parameter p d b.line) (line_past p d b.line past)

echo_past : (p : Param) (d : Datum) (e : mixed.Echo.Echo) → is_past_line p d e.line ≡ true
    → IsSome (with_echo_parameter p d e)
echo_past param.Mix (AFloat x) e past = refl
echo_past p d e past =
    mapped_some (with_line e) (with_line_parameter p d e.line) (line_past p d e.line past)

pub own_past : (waves : List SoundFile) (p : Param) (d : Datum) (g : Generator)
    → is_past_limit p d g ≡ true → IsSome (with_own_parameter waves p d g)
unfolding with_own_parameter
own_past waves p d (Delay l) past =
    mapped_some Delay (with_line_parameter p d l) (line_past p d l past)
own_past waves p d (DelayL b) past =
    mapped_some DelayL (with_delay_l_parameter p d b) (between_past p d b past)
own_past waves p d (Echo e) past =
    mapped_some Echo (with_echo_parameter p d e) (echo_past p d e past)
own_past waves p d _ past = absurd cc

-- what every unit generator has is never past a limit
pub gain_past : (d : Datum) (g : Generator) → is_past_limit param.Gain d g ≡ true → ⊥
gain_past d (Delay l) past = absurd cc
gain_past d (DelayL b) past = absurd cc
gain_past d (Echo e) past = absurd cc
gain_past d _ past = absurd cc

pub op_past : (d : Datum) (g : Generator) → is_past_limit param.Op d g ≡ true → ⊥
op_past d (Delay l) past = absurd cc
op_past d (DelayL b) past = absurd cc
op_past d (Echo e) past = absurd cc
op_past d _ past = absurd cc

pub last_past : (d : Datum) (g : Generator) → is_past_limit param.Last d g ≡ true → ⊥
last_past d (Delay l) past = absurd cc
last_past d (DelayL b) past = absurd cc
last_past d (Echo e) past = absurd cc
last_past d _ past = absurd cc
