-- What a contract sees of a counted heap.
use Rattle.std.specs.Prelude.{◌≡◌, ◌≢◌, ℕ, ◌+◌, ◌-◌, ◌<◌, ◌≤◌, List, [], ◌∷◌, Option, Some, None, IsSome, is_some, count_by}
use Rattle.ck_base.specs.declared.limits.TheConstants.{MAX_OBJECTS}
use Rattle.ck_values.specs.declared.reference.Ref.{Ref}
use Rattle.ck_values.specs.declared.value.Value.{Value}
use Rattle.object_heap.specs.declared.body.Body.{Body}
use Rattle.object_heap.specs.declared.heap.MakeEnd.{MakeEnd}
use Rattle.object_heap.specs.declared.heap.MakeEnd.TheVariants.{Limit, Memory}
use Rattle.object_heap.specs.Objects.{values_of}
use Rattle.counted_heap.specs.Places.{hit, hits, places}
use Rattle.counted_heap.specs.Cells.{Cells, inner, count_at, body_at}

-- the cells, and the number of the next object
pub record Counted : Type 0 where
  pub cells : Cells
  pub next : ℕ

-- the body of the live object that a reference refers to, by number and slot
abbrev pub object : Counted → Ref → Option Body
object h r = body_at h.cells r

-- its count, 0 where no live object is referred to
abbrev pub count : Counted → Ref → ℕ
count h r = count_at h.cells r

-- how often r is held from outside the heap: its count, less how often the objects refer to it
unfoldable pub outside : Counted → Ref → ℕ
outside h r = count h r - inner h.cells r

-- how often r stands in a list of holds
abbrev pub times_held : Ref → List Ref → ℕ
times_held r [] = 0
times_held r (q ∷ qs) = hit r q + times_held r qs

-- the list has each reference as often as it is held from outside
abbrev pub AreHolds : Counted → List Ref → Type 0
AreHolds h holds = (r : Ref) → outside h r ≡ times_held r holds

-- the number of live objects
abbrev pub live : Counted → ℕ
live h = count_by is_some h.cells

-- each object is as it was, and there is no new one
pub record SameObjects (old new : Counted) : Type 0 where
  pub each : (r : Ref) → object new r ≡ object old r
  pub next : new.next ≡ old.next
  pub live : live new ≡ live old

-- the holds from outside are as they were
abbrev pub SameHolds : Counted → Counted → Type 0
SameHolds old new = (r : Ref) → outside new r ≡ outside old r

-- a value's reference, if it isn't null, is held from outside
abbrev pub IsAmong : Counted → Value → Type 0
IsAmong h v = (r : Ref) → hits r v ≤ outside h r

-- each reference in the values is held from outside as often as it stands there
abbrev pub AreAmong : Counted → List Value → Type 0
AreAmong h vs = (r : Ref) → places r vs ≤ outside h r

-- the reference of a value enters the holds from outside, or leaves them
abbrev pub Enters : Counted → Counted → Value → Type 0
Enters old new v = (r : Ref) → outside new r ≡ outside old r + hits r v

abbrev pub Leaves : Counted → Counted → Value → Type 0
Leaves old new v = (r : Ref) → outside new r + hits r v ≡ outside old r

-- at has this body now, and each other object is as it was
pub record Rewrites (old new : Counted) (at : Ref) (body : Body) : Type 0 where
  pub here : object new at ≡ Some body
  pub there : (r : Ref) → r ≢ at → object new r ≡ object old r
  pub next : new.next ≡ old.next
  pub live : live new ≡ live old

-- an object was made: it has the next number, each other object is as it was, its references left
-- the holds from outside, and a hold of itself entered
pub record Makes (old new : Counted) (at : Ref) (body : Body) : Type 0 where
  pub room : old.next ≤ MAX_OBJECTS
  pub number : at.serial ≡ old.next
  pub some : 0 < at.serial
  pub fresh : object old at ≡ None
  pub here : object new at ≡ Some body
  pub one : count new at ≡ 1
  pub there : (r : Ref) → r ≢ at → object new r ≡ object old r
  pub next : new.next ≡ old.next + 1
  pub live : live new ≡ live old + 1
  pub moves : (r : Ref) →
      outside new r + places r (values_of body) ≡ outside old r + hit r at

-- none was made: as many were made as may be, or else there is not enough memory
abbrev pub MakesNone : MakeEnd → Counted → Body → Type 0
MakesNone (Limit back) old body = (MAX_OBJECTS < old.next) × (back ≡ body)
MakesNone (Memory back) old body = (old.next ≤ MAX_OBJECTS) × (back.value ≡ body)

-- a chained object was taken out, and each other one is as it was
pub record Takes (old new : Counted) (body : Body) : Type 0 where
  pub gone : Ref
  pub was : object old gone ≡ Some body
  pub chained : count old gone ≡ 0
  pub here : object new gone ≡ None
  pub there : (r : Ref) → r ≢ gone → object new r ≡ object old r
  pub next : new.next ≡ old.next
  pub live : live new + 1 ≡ live old

-- no live object is chained
abbrev pub NoneChained : Counted → Type 0
NoneChained h = (r : Ref) → IsSome (object h r) → 0 < count h r

-- the law of each counted heap
pub record IsLawful (h : Counted) : Type 0 where
  -- the next number is at most one past the last that may be given
  pub room : (0 < h.next) × (h.next ≤ MAX_OBJECTS + 1)
  -- a live object has a number that was given out
  pub numbered : (r : Ref) → IsSome (object h r) → (0 < r.serial) × (r.serial < h.next)
  -- two references to live objects of one number are the same
  pub one :
      (q r : Ref) → IsSome (object h q) → IsSome (object h r) → q.serial ≡ r.serial → q ≡ r
  -- a live object's count covers what each live object refers to
  pub fields :
      (r : Ref) (b : Body) → object h r ≡ Some b → (q : Ref)
      → places q (values_of b) ≤ count h q
  -- a count is the number of the heap's own fields and items, and of the holds from outside
  pub split : (r : Ref) → outside h r + inner h.cells r ≡ count h r
  -- which are a list
  pub listed : (holds : List Ref) × AreHolds h holds
  -- and what has a count is live
  pub live : (r : Ref) → 0 < count h r → IsSome (object h r)
