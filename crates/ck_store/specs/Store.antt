-- What a running program works on.
use Rattle.std.specs.Prelude.{◌≡◌, ℕ, ◌+◌, ℤ, pos, List, [], ◌∷◌, Bool, map, Option, Some, option_map, option_and_then, slice_get}
use Rattle.ck_values.specs.declared.kind.Elem.{Elem}
use Rattle.ck_values.specs.declared.kind.Kind.{Kind}
use Rattle.ck_values.specs.declared.trap.Trap.{Trap}
use Rattle.ugen_names.specs.declared.table.UgenKind.{UgenKind}
use Rattle.ck_values.specs.Datum.{Datum, first_value}
use Rattle.rand_pcg.specs.Lcg.{Lcg}
use Rattle.ugen_sample.specs.Connection.{Connection}
use Rattle.ugen_kinds.specs.Generator.{kind_of}
use Rattle.ugen_kinds.specs.Words.{first_words}
use Rattle.ugen_sample.specs.UnitState.{Units, unit_at, first_units}

-- an object: an instance of a class, an array, or a unit generator, by its place among all unit
-- generators
pub data Object : Type 0 where
  Instance : (class : ℕ) → (fields : List Datum) → Object
  Items : Elem → (of_arrays : Bool) → (items : List Datum) → Object
  UnitGenerator : (place : ℕ) → Object

-- what an object stays as long as there is a store: its class, what its items are, or the kind of
-- the unit generator at its place
pub data Shape : Type 0 where
  OfClass : ℕ → Shape
  OfItems : Elem → (of_arrays : Bool) → Shape
  OfUnit : UgenKind → Shape

-- the shape of an object beside these unit generators: none where no unit generator is at its place
abbrev pub shape : Units → Object → Option Shape
shape units (Instance class fields) = Some (OfClass class)
shape units (Items elem of_arrays items) = Some (OfItems elem of_arrays)
shape units (UnitGenerator place) =
    option_map (λ unit. OfUnit (kind_of unit.generator)) (unit_at units place)

-- the shapes of objects by their places; the object numbered k is at place k - 1
abbrev pub Shapes : Type 0
Shapes = ℕ → Option Shape

abbrev pub shape_at : Units → List Object → Shapes
shape_at units objects n = option_and_then (shape units) (slice_get objects n)

-- later objects have all the earlier ones, each of its shape
pub record Keeps (before after : Shapes) : Type 0 where
  pub each : (n : ℕ) (x : Shape) → before n ≡ Some x → after n ≡ Some x

-- the store: the time in samples, the objects in order of their numbers from 1, the statics, the unit
-- generators by their places, the connections in order, the generator of random words, the sporks
-- made at this sample, and the number of the next shred
pub record Store : Type 0 where
  pub now : ℤ
  pub objects : List Object
  pub statics : List Datum
  pub units : Units
  pub connections : List Connection
  pub words : Lcg
  pub sporks : ℕ
  pub next_shred : ℕ

-- the shapes of its objects
abbrev pub shapes_of : Store → Shapes
shapes_of store = shape_at store.units store.objects

-- the unit generators of every run: the output, and what pulls without being heard
abbrev pub first_objects : List Object
first_objects = UnitGenerator 0 ∷ UnitGenerator 1 ∷ []

-- the store at the start of a run of so many files with statics of these kinds
abbrev pub first_store : ℕ → List Kind → Store
first_store files kinds = record {
  now = pos 0;
  objects = first_objects;
  statics = map first_value kinds;
  units = first_units;
  connections = [];
  words = first_words;
  sporks = 0;
  next_shred = files + 1;
}

-- what a slice records, to be applied when it stops
pub data Act : Type 0 where
  Printed : (line : List ℕ) → Act
  Sporked : (number fun : ℕ) → (arguments : List Datum) → Act
  WokeOne : (event : ℕ) → Act
  WokeAll : (event : ℕ) → Act
  Removed : (number : ℤ) → Act

-- what a shred asks for when its slice stops: to go on at a time or on an event, or to end
pub data Request : Type 0 where
  At : (time : ℤ) → Request
  On : (event : ℕ) → Request
  End : Request

-- what a slice works on
pub record State : Type 0 where
  pub store : Store
  pub acts : List Act
  pub turns : ℕ

-- what a step gives: its result, a trap, or nothing where an operand is none that it can take
pub data Try (A : Type 0) : Type 0 where
  Gives : A → Try A
  Fails : Trap → Try A
  Misfit : Try A

-- the operands are some that the step can take
abbrev pub IsFitting : {A : Type 0} → Try A → Type 0
IsFitting (Gives a) = Unit {0}
IsFitting (Fails trap) = Unit {0}
IsFitting Misfit = ⊥
