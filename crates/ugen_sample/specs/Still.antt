-- What makes no sound by itself.
use Rattle.std.specs.Prelude.{◌≡◌, Bool, true, false, Option, Some, None}
use Rattle.ugen_kinds.specs.declared.generator.Generator.{Generator}
use Rattle.ugen_kinds.specs.declared.generator.Generator.TheVariants.{Dac, Blackhole, Gain}
use Rattle.ugen_kinds.specs.Output.{silence}
use Rattle.ugen_sample.specs.declared.unit.UnitState.{UnitState}

-- it keeps nothing, and gives its input
abbrev pub is_plain : Generator → Bool
is_plain Dac = true
is_plain Blackhole = true
is_plain Gain = true
is_plain _ = false

-- such a one whose last output was 0
abbrev pub IsStill : Option UnitState → Type 0
IsStill None = Unit {0}
IsStill (Some unit) = (is_plain unit.generator ≡ true) × (unit.last ≡ silence)
