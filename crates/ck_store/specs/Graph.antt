-- Unit generators in a store: how they are made, connected, set and heard.
use Rattle.std.specs.Prelude.{ℕ, zero, suc, ℤ, Bool, ◌&&◌, nat_eq, nat_lt, List, [], ◌∷◌, ◌++◌, length, Option, Some, slice_get, slice_set}
use Rattle.ck_base.specs.declared.limits.TheConstants.{MAX_CONNECTIONS}
use Rattle.ck_values.specs.declared.trap.Trap.TheVariants.{NullPointer, Connections, DelayLimit}
use Rattle.ugen_names.specs.declared.param.Param.{Param}
use Rattle.ck_values.specs.declared.side.Side.{Side}
use Rattle.ck_values.specs.declared.side.Side.TheVariants.{Both}
use Rattle.ugen_names.specs.declared.table.UgenKind.{UgenKind}
use Rattle.ck_values.specs.Datum.{Datum, ARef}
use Rattle.ugen_kinds.specs.declared.generator.Generator.{Generator}
use Rattle.ugen_kinds.specs.SoundFile.{no_waves}
use Rattle.ugen_kinds.specs.Generator.{is_past_limit, keyed, staged}
use Rattle.ugen_sample.specs.Connection.{Connection, same_side}
use Rattle.ugen_sample.specs.declared.unit.UnitState.{UnitState}
use Rattle.ugen_sample.specs.UnitState.{Units, first_unit, unit_at}
use Rattle.ugen_sample.specs.Parameters.{unit_parameter, with_unit_parameter}
use Rattle.ugen_sample.specs.Order.{roots}
use Rattle.ugen_sample.specs.Sample.{sampled}
use Rattle.ck_store.specs.Store.{Object, UnitGenerator, Store, Try, Gives, Fails, Misfit}
use Rattle.ck_store.specs.Objects.{Made, added}
use Rattle.ck_store.specs.Steps.{and_then, found, pick}

-- the place of a unit generator among all of them
abbrev pub place_of : Option Object → Try ℕ
place_of (Some (UnitGenerator place)) = Gives place
place_of _ = Misfit

-- the place of the one that a value refers to; null is a trap
unfoldable pub place_at : List Object → Datum → Try ℕ
place_at objects (ARef zero) = Fails NullPointer
place_at objects (ARef (suc n)) = place_of (slice_get objects n)
place_at objects v = Misfit

-- a unit generator: its place among all, and what it keeps
pub record Located : Type 0 where
  pub place : ℕ
  pub unit : UnitState

-- the unit generator that a value refers to; null is a trap
unfoldable pub unit_of : Store → Datum → Try Located
unit_of store r =
    and_then (place_at store.objects r) (λ n. and_then (found (unit_at store.units n)) (λ unit.
    Gives (record { place = n; unit = unit })))

-- the unit generator of this kind that a shred makes, as the last one of all
unfoldable pub unit_made : UgenKind → (maker : ℕ) → Store → Try Made
unit_made kind maker store =
    let unit = first_unit kind maker (suc (length store.objects)) in
    added (UnitGenerator (length store.units))
    (record store { units = store.units ++ Some unit ∷ [] })

-- one more connection from one unit generator to another, at the end of all: to both sides, as no
-- other can be made yet. 4,096 may be there
unfoldable pub connected : (from to : Datum) → Store → Try Store
connected a b store =
    and_then (unit_of store a) (λ from. and_then (unit_of store b) (λ to.
    pick (nat_lt (length store.connections) MAX_CONNECTIONS)
    (Gives (record store {
      connections =
          store.connections ++ record { from = from.place; to = to.place; side = Both } ∷ [];
    }))
    (Fails Connections)))

-- the connection leads from one place to this side of another
abbrev pub leads : (from to : ℕ) → Side → Connection → Bool
leads from to side c = nat_eq c.from from && nat_eq c.to to && same_side c.side side

-- the connections without the earliest one that passes a test
abbrev pub without_first : (Connection → Bool) → List Connection → List Connection
without_first test [] = []
without_first test (c ∷ rest) = pick (test c) rest (c ∷ without_first test rest)

-- the store without the earliest connection from one unit generator to another, where there is one
unfoldable pub disconnected : (from to : Datum) → Store → Try Store
disconnected a b store =
    and_then (unit_of store a) (λ from. and_then (unit_of store b) (λ to. Gives (record store {
      connections = without_first (leads from.place to.place Both) store.connections;
    })))

-- the value of a parameter of a unit generator
unfoldable pub parameter_of : Param → (unit : Datum) → Store → Try Datum
parameter_of p u store = and_then (unit_of store u) (λ at. found (unit_parameter no_waves p at.unit))

-- a value, and the store that it was read from
pub record ReadBack : Type 0 where
  pub value : Datum
  pub store : Store

-- the store with another state of the unit generator at a place
abbrev pub with_unit : (place : ℕ) → UnitState → Store → Store
with_unit n unit store = record store { units = slice_set store.units n (Some unit) }

-- the unit generator with a parameter set; what its delay line can't have is a trap
abbrev pub unit_set : Param → (value : Datum) → UnitState → Try UnitState
unit_set p v unit =
    pick (is_past_limit p v unit.generator) (Fails DelayLimit)
    (found (with_unit_parameter no_waves p v unit))

-- a parameter of a unit generator is set, and read back
unfoldable pub parameter_set : Param → (unit value : Datum) → Store → Try ReadBack
parameter_set p u v store =
    and_then (unit_of store u) (λ at. and_then (unit_set p v at.unit) (λ unit.
    and_then (found (unit_parameter no_waves p unit)) (λ w.
    Gives (record { value = w; store = with_unit at.place unit store }))))

-- what a unit generator keeps is changed, where it can be
unfoldable pub generator_changed : (Generator → Option Generator) → (unit : Datum) → Store → Try Store
generator_changed change u store =
    and_then (unit_of store u) (λ at. and_then (found (change at.unit.generator)) (λ generator.
    Gives (with_unit at.place (record at.unit { generator = generator }) store)))

-- the key of an envelope is pressed or let go
abbrev pub unit_keyed : (is_on : Bool) → (unit : Datum) → Store → Try Store
unit_keyed is_on u store = generator_changed (keyed is_on) u store

-- an ADSR is given its stages
abbrev pub unit_staged : (attack decay sustain release : ℤ) → (unit : Datum) → Store → Try Store
unit_staged attack decay sustain release u store =
    generator_changed (staged attack decay sustain release) u store

-- what a sample makes of unit generators that are connected so
abbrev pub units_sounded : List Connection → Units → Units
units_sounded connections units = sampled no_waves roots connections units

-- all unit generators that are reached from there have made a sample
abbrev pub sounded : Store → Store
sounded store = record store { units = units_sounded store.connections store.units }
