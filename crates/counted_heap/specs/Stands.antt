-- The objects of a plain heap that a counted one stands for.
use Rattle.std.specs.Prelude.{◌≡◌, ℕ, ◌-◌, ◌<◌, nat_lt, Option, Some, None, slice_get, if◌then◌else◌}
use Rattle.ck_values.specs.declared.reference.Ref.{Ref}
use Rattle.object_heap.specs.declared.body.Body.{Body}
use Rattle.object_heap.specs.Objects.{Objects, next, values_of}
use Rattle.counted_heap.specs.Counted.{Counted, object}
use Rattle.counted_heap.specs.Places.{places}

-- the body of the object of this number
abbrev pub numbered : Objects → ℕ → Option Body
numbered s n = if nat_lt n s.first then None else slice_get s.bodies (n - s.first)

-- the object numbered x refers to the one numbered y
pub record Points (s : Objects) (x y : ℕ) : Type 0 where
  pub body : Body
  pub at : numbered s x ≡ Some body
  pub to : Ref
  pub number : to.serial ≡ y
  pub has : 0 < places to (values_of body)

-- references lead from x to y
pub data Leads (s : Objects) : ℕ → ℕ → Type 0 where
  Step : {x y : ℕ} → Points s x y → Leads s x y
  More : {x y z : ℕ} → Leads s x y → Points s y z → Leads s x z

-- no live object has this number
abbrev pub IsDead : Counted → ℕ → Type 0
IsDead h m = (r : Ref) → r.serial ≡ m → object h r ≡ None

-- as many were made, each live object has the body that the plain heap has under its number, and
-- no object of a cycle of references went
pub record StandsFor (h : Counted) (s : Objects) : Type 0 where
  pub made : h.next ≡ next s
  pub content : (r : Ref) (b : Body) → object h r ≡ Some b → numbered s r.serial ≡ Some b
  pub no_cycle : (m : ℕ) → IsDead h m → Leads s m m → ⊥

-- whatever the old heap stands for, the new one stands for what comes of it
abbrev pub StandsOn : Counted → Counted → (Objects → Objects) → Type 0
StandsOn old new change = (s : Objects) → StandsFor old s → StandsFor new (change s)
