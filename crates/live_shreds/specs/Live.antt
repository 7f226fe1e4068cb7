-- Live shreds in order of their numbers, and who ends with whom.
use Rattle.std.specs.Prelude.{◌≡◌, ℕ, ◌<◌, nat_eq, ◌&&◌, List, Option, find, count_by}
use Rattle.std.specs.BTreeMap.{BTreeMap, IsOrdered, values}
use Rattle.std.specs.List.{AllByRecursion, IsAmong}
use Rattle.std.specs.Ordering.{nat_cmp}
use Rattle.keyed_lists.specs.Keyed
use Rattle.shred_state.specs.Frames.{Standing}

-- the live shred with a number
abbrev pub numbered : ℕ → List Standing → Option Standing
numbered n shreds = find (λ s. nat_eq s.number n) shreds

-- the first child of a shred
abbrev pub child_of : ℕ → List Standing → Option Standing
child_of n shreds = find (λ s. nat_eq s.parent n) shreds

-- all but the shred with a number, in the same order
abbrev pub without : ℕ → List Standing → List Standing
without = Keyed.without (λ s. s.number)

-- all have lower numbers than this one
abbrev pub AreBelow : ℕ → List Standing → Type 0
AreBelow n shreds = AllByRecursion (λ s. s.number < n) shreds

-- a shred ends with one of this number: it is that one, or a live shred whose parent ends with it
pub data EndsWith (shreds : List Standing) (n : ℕ) : ℕ → Type 0 where
  Itself : EndsWith shreds n n
  Child : (s : Standing) → IsAmong shreds s → EndsWith shreds n s.parent
      → EndsWith shreds n s.number

-- how often a shred stands among these as the child of another
abbrev pub times_child : {T : Type 0} → (number parent : T → ℕ) → (p n : ℕ) → List T → ℕ
times_child number parent p n items = count_by (λ it. nat_eq (number it) n && nat_eq (parent it) p) items

-- a shred stands under its number, and has a higher one than its parent
pub record IsNamed (entry : ℕ × Standing) : Type 0 where
  pub name : entry.1.number ≡ entry.0
  pub older : entry.1.parent < entry.1.number

-- the shreds by their numbers, and the children of each: the same shreds of the same parents
pub record AreTied (shreds : BTreeMap ℕ Standing) (children : List (ℕ × ℕ)) : Type 0 where
  pub ordered : IsOrdered nat_cmp shreds
  pub named : AllByRecursion IsNamed shreds.entries
  pub tied : (p n : ℕ) → times_child (λ s. s.number) (λ s. s.parent) p n (values shreds)
      ≡ times_child (λ c. c.1) (λ c. c.0) p n children
