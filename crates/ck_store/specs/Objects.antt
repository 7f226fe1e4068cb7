-- Objects of classes: how they are made, their fields, and the functions in their slots.
use Rattle.std.specs.Prelude.{ℕ, zero, suc, List, [], ◌∷◌, ◌++◌, length, map, Option, Some, None, nat_lt, slice_get, slice_set}
use Rattle.ck_base.specs.declared.limits.TheConstants.{MAX_OBJECTS}
use Rattle.ck_values.specs.declared.trap.Trap.TheVariants.{NullPointer, ObjectLimit}
use Rattle.ck_values.specs.Datum.{Datum, ARef, first_value}
use Rattle.ck_typed.specs.declared.class.Class.{Class}
use Rattle.ck_store.specs.Store.{Object, Instance, Store, Try, Gives, Fails, Misfit}
use Rattle.ck_store.specs.Steps.{and_then, found, pick}

-- an instance: its class and its fields
pub record Inside : Type 0 where
  pub class : ℕ
  pub fields : List Datum

abbrev pub inside_of : Option Object → Try Inside
inside_of (Some (Instance class fields)) = Gives (record { class = class; fields = fields })
inside_of _ = Misfit

-- the instance that a value refers to; null is a trap
unfoldable pub referred : List Object → Datum → Try Inside
referred objects (ARef zero) = Fails NullPointer
referred objects (ARef (suc n)) = inside_of (slice_get objects n)
referred objects v = Misfit

-- a field of the object that a value refers to
unfoldable pub field_of : Store → (object : Datum) → ℕ → Try Datum
field_of store r i = and_then (referred store.objects r) (λ o. found (slice_get o.fields i))

-- the store with another object in the place of the one that a value refers to
abbrev pub with_object : Store → (object : Datum) → Object → Store
with_object store (ARef (suc n)) o = record store { objects = slice_set store.objects n o }
with_object store _ o = store

-- the store with one field replaced
unfoldable pub with_field : Store → (object : Datum) → ℕ → Datum → Try Store
with_field store r i v =
    and_then (referred store.objects r) (λ o. and_then (found (slice_get o.fields i)) (λ old.
    Gives (with_object store r (Instance o.class (slice_set o.fields i v)))))

-- an object that was made: what refers to it, and the store with it
pub record Made : Type 0 where
  pub reference : Datum
  pub store : Store

-- one more object, at the end of all; 2^48 may be made
unfoldable pub added : Object → Store → Try Made
added o store =
    pick (nat_lt (length store.objects) MAX_OBJECTS)
    (Gives (record {
      reference = ARef (suc (length store.objects));
      store = record store { objects = store.objects ++ o ∷ [] };
    }))
    (Fails ObjectLimit)

-- an object of a class is made, its fields with their first values
unfoldable pub object_made : List Class → (class : ℕ) → Store → Try Made
object_made classes c store =
    and_then (found (slice_get classes c)) (λ class.
    added (Instance c (map first_value class.fields)) store)

-- the function in a slot of the object that a value refers to
unfoldable pub method_of : List Class → List Object → (receiver : Datum) → (slot : ℕ) → Try ℕ
method_of classes objects r slot =
    and_then (referred objects r) (λ o.
    and_then (found (slice_get classes o.class)) (λ class. found (slice_get class.virtuals slot)))

-- the function of the statements in a class's own braces, where there are any
abbrev pub own_body : Option ℕ → List ℕ
own_body None = []
own_body (Some f) = f ∷ []

abbrev pub with_class : {A : Type 0} → Option Class → A → (Class → A) → A
with_class None other go = other
with_class (Some class) other go = go class

-- those of a class and of its ancestors, the eldest first; so many are looked at, and class 0,
-- which has none, ends the line
abbrev pub bodies_within : List Class → (most class : ℕ) → List ℕ
bodies_within classes zero c = []
bodies_within classes (suc n) zero = []
bodies_within classes (suc n) (suc c) =
    with_class (slice_get classes (suc c)) [] (λ class.
    bodies_within classes n class.parent ++ own_body class.body)

-- the functions that run when an object of a class is made
unfoldable pub bodies_of : List Class → (class : ℕ) → List ℕ
bodies_of classes c = bodies_within classes (length classes) c
