-- The objects of a heap, as a store has them.
use Rattle.std.specs.Prelude.{◌≡◌, ℕ, Bool, List, map, Some}
use Rattle.ck_values.specs.declared.kind.Elem.{Elem}
use Rattle.ck_values.specs.declared.reference.Ref.{Ref}
use Rattle.ck_values.specs.declared.value.Value.{Value}
use Rattle.ck_values.specs.Datum.{all_meant}
use Rattle.ck_store.specs.Store.{Object, Instance, Items, UnitGenerator, Store}
use Rattle.object_heap.specs.Objects.{Objects, object}
use Rattle.object_heap.specs.declared.body.Body.{Body}
use Rattle.object_heap.specs.declared.body.Body.TheVariants as body

-- the object that a body stands for
abbrev pub shown_body : Body → Object
shown_body (body.Instance class fields) = Instance class (all_meant fields)
shown_body (body.Array elem two items) = Items elem two (all_meant items)
shown_body (body.Ugen node) = UnitGenerator node

-- the objects of a heap
abbrev pub objects_of : Objects → List Object
objects_of heap = map shown_body heap.bodies

-- a store with the objects of a heap
abbrev pub with_heap : Store → Objects → Store
with_heap store heap = record store { objects = objects_of heap }

-- a reference refers to an array with these items
pub record IsArrayOf (heap : Objects) (r : Ref) (items : List Value) : Type 0 where
  pub elem : Elem
  pub two : Bool
  pub is : object heap r ≡ Some (body.Array elem two items)

-- each unit generator is as it was
pub record KeepsUnits (old new : Objects) : Type 0 where
  pub kept : (at : Ref) (node : ℕ) → object old at ≡ Some (body.Ugen node)
      → object new at ≡ Some (body.Ugen node)
