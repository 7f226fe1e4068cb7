-- The sample of one channel: each unit generator gives one number, and it stands on both sides.
use Rattle.std.specs.Prelude.{◌≡◌, ℕ, ℤ, pos, Bool, true, false, List, [], ◌∷◌, map, fold, Option, Some, None, slice_set}
use Rattle.std.specs.Option.{option_map}
use Rattle.fixed_point.specs.Fix.{product_of}
use Rattle.ugen_kinds.specs.declared.generator.Generator.{Generator}
use Rattle.ugen_kinds.specs.declared.generator.Generator.TheVariants.{Dac, Pan2}
use Rattle.ugen_kinds.specs.SoundFile.{no_waves}
use Rattle.ugen_kinds.specs.Output.{both}
use Rattle.ugen_kinds.specs.Generator.{tick_of}
use Rattle.ugen_sample.specs.declared.choices.Joining.{Joining}
use Rattle.ugen_sample.specs.declared.choices.Joining.TheVariants.{Through, Off}
use Rattle.ck_values.specs.declared.side.Side.TheVariants as side
use Rattle.ugen_sample.specs.Connection.{Connection}
use Rattle.ugen_sample.specs.Order.{sources_of, order}
use Rattle.ugen_sample.specs.declared.unit.UnitState.{UnitState}
use Rattle.ugen_sample.specs.UnitState.{Units, unit_at}
use Rattle.ugen_sample.specs.Sample.{dac, input_of, is_fed}

-- the sample ------------------------------------------------------------------------------------

abbrev pub number_of : Option UnitState → ℤ
number_of None = pos 0
number_of (Some unit) = unit.last.left

-- the number that the unit generator at a place gave last
abbrev pub mono_last : Units → ℕ → ℤ
mono_last units n = number_of (unit_at units n)

-- what a tick gives
abbrev pub mono_tick : Generator → (input : ℤ) → (is_fed : Bool) → Generator × ℤ
mono_tick g x is_fed =
    let t = tick_of no_waves g x is_fed in
    (t.0, t.1.left)

abbrev pub mono_result : Joining → Generator → (input : ℤ) → (is_fed : Bool) → Generator × ℤ
mono_result Off g x is_fed = (g, pos 0)
mono_result Through g x is_fed = (g, x)
mono_result _ g x is_fed = mono_tick g x is_fed

abbrev pub mono_gives : UnitState → Generator × ℤ → UnitState
mono_gives unit (g, y) = record unit { generator = g; last = both (product_of y unit.gain) }

unfoldable pub mono_sounded : (numbers : List ℤ) → UnitState → UnitState
mono_sounded vs unit =
    mono_gives unit (mono_result unit.joining unit.generator (input_of unit.joining vs) (is_fed vs))

abbrev pub mono_made : (sources : ℕ → List ℕ) → Units → ℕ → Units
mono_made sources units n =
    slice_set units n
    (option_map (mono_sounded (map (mono_last units) (sources n))) (unit_at units n))

unfoldable pub mono_sampled : (roots : List ℕ) → List Connection → Units → Units
mono_sampled roots connections units =
    fold (mono_made (sources_of connections)) units (order roots connections)

-- what has one channel ----------------------------------------------------------------------------

abbrev pub is_pan : Generator → Bool
is_pan (Pan2 p) = true
is_pan _ = false

-- no Pan2, and the same number on both sides
abbrev pub IsMono : Option UnitState → Type 0
IsMono None = Unit {0}
IsMono (Some unit) = (is_pan unit.generator ≡ false) × (unit.last.left ≡ unit.last.right)

abbrev pub IsDac : Option UnitState → Type 0
IsDac None = Unit {0}
IsDac (Some unit) = unit.generator ≡ Dac

pub record AreMono (units : Units) : Type 0 where
  pub each : (n : ℕ) → IsMono (unit_at units n)
  pub output : IsDac (unit_at units dac)

-- no connection has a side
abbrev pub HaveNoSides : List Connection → Type 0
HaveNoSides [] = Unit {0}
HaveNoSides (c ∷ cs) = (c.side ≡ side.Both) × HaveNoSides cs
