-- What is reached from the holds from outside, and from cycles of references.
use Rattle.std.specs.Prelude.{◌≡◌, ◌⊎◌, ◌↔◌, ℕ, ◌<◌, List, [], ◌∷◌, length, IsSome}
use Rattle.ck_values.specs.declared.reference.Ref.{Ref}
use Rattle.object_heap.specs.Objects.{Objects}
use Rattle.counted_heap.specs.Counted.{Counted, object, outside, live}
use Rattle.counted_heap.specs.Stands.{Points, Leads, StandsFor}

-- m is the number of a live object
pub record IsLive (h : Counted) (m : ℕ) : Type 0 where
  pub it : Ref
  pub number : it.serial ≡ m
  pub live : IsSome (object h it)

-- the object numbered m is held from outside
abbrev pub IsRooted : Counted → ℕ → Type 0
IsRooted h m = (r : Ref) × (r.serial ≡ m) × (0 < outside h r)

-- m is reached from a hold from outside, or from a cycle of references
pub data Reached (h : Counted) (s : Objects) : ℕ → Type 0 where
  Rooted : {m : ℕ} → IsRooted h m → Reached h s m
  Round : {m : ℕ} → Leads s m m → Reached h s m
  Along : {x m : ℕ} → Reached h s x → Points s x m → Reached h s m

-- y stands in the list
abbrev pub In : ℕ → List ℕ → Type 0
In y [] = ⊥
In y (x ∷ xs) = (y ≡ x) ⊎ In y xs

-- no number stands there twice
abbrev pub Distinct : List ℕ → Type 0
Distinct [] = Unit {0}
Distinct (x ∷ xs) = (In x xs → ⊥) × Distinct xs

-- the live objects are those that are reached
abbrev pub LiveAreReached : Counted → Type 0
LiveAreReached h = (s : Objects) → StandsFor h s → (m : ℕ) → IsLive h m ↔ Reached h s m

-- and they are as many as the numbers that are reached
abbrev pub LiveIsNumber : Counted → Type 0
LiveIsNumber h = (s : Objects) → StandsFor h s → (ms : List ℕ) → Distinct ms
    → ((m : ℕ) → In m ms ↔ Reached h s m) → live h ≡ length ms
