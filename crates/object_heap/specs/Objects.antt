-- Objects by their numbers.
use Rattle.std.specs.Prelude.{◌≡◌, ◌<◌, ◌≤◌, ℕ, ◌+◌, ◌-◌, nat_lt, List, [], ◌∷◌, ◌++◌, length, Option, None, slice_get, slice_set, if◌then◌else◌}
use Rattle.ck_base.specs.declared.limits.TheConstants.{MAX_OBJECTS}
use Rattle.ck_values.specs.declared.reference.Ref.{Ref}
use Rattle.ck_values.specs.declared.value.Value.{Value}
use Rattle.object_heap.specs.declared.body.Body.{Body}
use Rattle.object_heap.specs.declared.body.Body.TheVariants.{Instance, Array, Ugen}
use Rattle.object_heap.specs.declared.heap.MakeEnd.{MakeEnd}
use Rattle.object_heap.specs.declared.heap.MakeEnd.TheVariants.{Limit, Memory}

-- the first number, and the bodies of the objects in order of their numbers
pub record Objects : Type 0 where
  pub first : ℕ
  pub bodies : List Body

-- the next object's number
abbrev pub next : Objects → ℕ
next h = h.first + length h.bodies

-- the body of the object that a reference refers to
abbrev pub object : Objects → Ref → Option Body
object h at =
    if nat_lt at.serial h.first then None else slice_get h.bodies (at.serial - h.first)

-- an object was made: fewer were made than may be, it has the next number, and all others are as
-- they were
pub record MakesObject (old : Objects) (body : Body) (at : Ref) (new : Objects) : Type 0 where
  pub room : next old ≤ MAX_OBJECTS
  pub number : at.serial ≡ next old
  pub slot : at.slot ≡ length old.bodies
  pub objects : new ≡ record old { bodies = old.bodies ++ body ∷ [] }

-- none was made: as many were made as may be, or else there is not enough memory
abbrev pub MakesNone : MakeEnd → Objects → Body → Type 0
MakesNone (Limit back) old body = (MAX_OBJECTS < next old) × (back ≡ body)
MakesNone (Memory back) old body = (next old ≤ MAX_OBJECTS) × (back.value ≡ body)

-- the fields or the items of an object
abbrev pub values_of : Body → List Value
values_of (Instance class fields) = fields
values_of (Array elem two items) = items
values_of (Ugen node) = []

-- the body with other ones
abbrev pub with_values : Body → List Value → Body
with_values (Instance class fields) values = Instance class values
with_values (Array elem two items) values = Array elem two values
with_values (Ugen node) values = Ugen node

-- the body is an array's
abbrev pub IsArray : Body → Type 0
IsArray (Instance class fields) = ⊥
IsArray (Array elem two items) = Unit {0}
IsArray (Ugen node) = ⊥

-- the objects with another body in the place of one
abbrev pub with_body : Objects → Ref → Body → Objects
with_body h at body = record h { bodies = slice_set h.bodies (at.serial - h.first) body }
