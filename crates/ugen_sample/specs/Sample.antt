-- One sample of all unit generators.
use Rattle.std.specs.Prelude.{ℕ, ℤ, pos, nat_eq, Bool, true, false, ◌&&◌, List, [], ◌∷◌, map, filter, fold, Option, Some, None, slice_set}
use Rattle.std.specs.Ordering.{int_eq}
use Rattle.fixed_point.specs.Fix.{sum_of, difference_of, product_of, quotient_of}
use Rattle.ugen_kinds.specs.declared.generator.Generator.{Generator}
use Rattle.ugen_kinds.specs.declared.output.Output.{Output}
use Rattle.ugen_kinds.specs.SoundFile.{SoundFile}
use Rattle.ugen_kinds.specs.Output.{both, silence, mean_of, at_gain}
use Rattle.ugen_kinds.specs.Generator.{tick_of}
use Rattle.ugen_sample.specs.declared.choices.Channel.{Channel}
use Rattle.ugen_sample.specs.declared.choices.Channel.TheVariants.{Mean, Left, Right}
use Rattle.ck_values.specs.declared.side.Side.{Side}
use Rattle.ck_values.specs.declared.side.Side.TheVariants as side
use Rattle.ugen_sample.specs.declared.choices.Joining.{Joining}
use Rattle.ugen_sample.specs.declared.choices.Joining.TheVariants.{Through, Off, Sum, Difference, Product, Quotient}
use Rattle.ugen_sample.specs.Connection.{Connection}
use Rattle.ugen_sample.specs.Order.{sources_of, order}
use Rattle.ugen_sample.specs.declared.unit.UnitState.{UnitState}
use Rattle.ugen_sample.specs.UnitState.{Units, unit_at}

-- what is read -----------------------------------------------------------------------------------

-- whether a connection to this side is heard on the left one, and on the right one
abbrev pub is_left : Side → Bool
is_left side.Right = false
is_left _ = true

abbrev pub is_right : Side → Bool
is_right side.Left = false
is_right _ = true

abbrev pub sources_by : (Side → Bool) → List Connection → ℕ → List ℕ
sources_by test connections n =
    map (λ c. c.from) (filter (λ c. nat_eq c.to n && test c.side) connections)

-- the sources that a unit generator hears on a channel, in order of connection
abbrev pub sources_on : List Connection → Channel → ℕ → List ℕ
sources_on connections Mean n = sources_of connections n
sources_on connections Left n = sources_by is_left connections n
sources_on connections Right n = sources_by is_right connections n

-- the number of an output on a channel
abbrev pub number_on : Channel → Output → ℤ
number_on Left o = o.left
number_on Right o = o.right
number_on Mean o = mean_of o

abbrev pub output_of : Option UnitState → Output
output_of None = silence
output_of (Some unit) = unit.last

-- the output that the unit generator at a place gave last
abbrev pub last_of : Units → ℕ → Output
last_of units n = output_of (unit_at units n)

-- the numbers that these gave last on a channel
abbrev pub numbers_of : Units → Channel → List ℕ → List ℤ
numbers_of units channel ms = map (λ m. number_on channel (last_of units m)) ms

-- how numbers are joined -------------------------------------------------------------------------

-- v divided by each of these in turn, and 0 once one of them is 0
abbrev pub divided : ℤ → List ℤ → ℤ
divided v [] = v
divided v (w ∷ ws) = elim (int_eq w (pos 0)) [
  | true ↦ pos 0
  | false ↦ divided (quotient_of v w) ws
]

-- the numbers joined, from the left
abbrev pub joined : Joining → ℤ → List ℤ → ℤ
joined Through v vs = fold sum_of v vs
joined Off v vs = pos 0
joined Sum v vs = fold sum_of v vs
joined Difference v vs = fold difference_of v vs
joined Product v vs = fold product_of v vs
joined Quotient v vs = divided v vs

-- the input, which is 0 where there is no number
unfoldable pub input_of : Joining → List ℤ → ℤ
input_of joining [] = pos 0
input_of joining (v ∷ vs) = joined joining v vs

-- whether there is a source
abbrev pub is_fed : List ℤ → Bool
is_fed [] = false
is_fed (v ∷ vs) = true

-- what is made of it -----------------------------------------------------------------------------

-- what comes of an input: only its own tick changes what a unit generator keeps, which is left out
-- where nothing shall be heard or the input goes past it
abbrev pub result_of : List SoundFile → Joining → Generator → (input : ℤ) → (is_fed : Bool)
    → Generator × Output
result_of waves Off g x is_fed = (g, silence)
result_of waves Through g x is_fed = (g, both x)
result_of waves _ g x is_fed = tick_of waves g x is_fed

-- the unit generator keeps that, and its output is that one at its gain
abbrev pub gives : UnitState → Generator × Output → UnitState
gives unit (g, y) = record unit { generator = g; last = at_gain unit.gain y }

-- `dac` gives what it hears on each side
abbrev pub both_heard : Joining → (heard : Channel → List ℤ) → Output
both_heard joining heard =
    record { left = input_of joining (heard Left); right = input_of joining (heard Right) }

-- the place of `dac`
abbrev pub dac : ℕ
dac = 0

-- the unit generator at a place makes an output from what it hears on each channel: `dac` from both
-- sides, and any other from the means
unfoldable pub sounded : List SoundFile → ℕ → UnitState → (heard : Channel → List ℤ) → UnitState
sounded waves n unit heard = elim (nat_eq n dac) [
  | true ↦ gives unit (unit.generator, both_heard unit.joining heard)
  | false ↦
      gives unit (result_of waves unit.joining unit.generator
      (input_of unit.joining (heard Mean)) (is_fed (heard Mean)))
]

abbrev pub sounded_where : List SoundFile → ℕ → Option UnitState → (heard : Channel → List ℤ)
    → Option UnitState
sounded_where waves n None heard = None
sounded_where waves n (Some unit) heard = Some (sounded waves n unit heard)

-- the unit generator at a place makes its output from those that its sources gave last: at this
-- sample where they stand before it in the order, and else at the one before
abbrev pub made_from : List SoundFile → (sources : Channel → ℕ → List ℕ) → Units → ℕ → Units
made_from waves sources units n =
    slice_set units n (sounded_where waves n (unit_at units n)
    (λ channel. numbers_of units channel (sources channel n)))

-- a sample: each that is reached from these roots makes its output, in the order of pull, and the
-- others stay as they are
unfoldable pub sampled : List SoundFile → (roots : List ℕ) → List Connection → Units → Units
sampled waves roots connections units =
    fold (made_from waves (sources_on connections)) units (order roots connections)
