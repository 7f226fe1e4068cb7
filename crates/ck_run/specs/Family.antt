-- The live shreds of a run, and who sporked whom.
use Rattle.std.specs.Prelude.{◌≡◌, ◌⊎◌, ℕ, suc, ◌<◌, ◌≤◌, Bool, true, false, ◌||◌, nat_eq, List, [], ◌∷◌, ◌++◌, All}
use Rattle.ck_run.specs.Run.{Shred, has}

module _ {P : Type 0} where
  -- the shreds stand in order of their numbers, which are at least the one and below the other
  abbrev pub AreInOrder : (from below : ℕ) → List (Shred P) → Type 0
  AreInOrder from below [] = Unit {0}
  AreInOrder from below (shred ∷ rest) =
      (from ≤ shred.number) × (shred.number < below) × AreInOrder (suc shred.number) below rest

  -- the parent is none, or one of these
  abbrev pub HasParent : (parents : List ℕ) → Shred P → Type 0
  HasParent parents shred = (shred.parent ≡ 0) ⊎ (has parents shred.parent ≡ true)

  -- each parent stands before its children, where these stand before the first
  abbrev pub AreParented : (before : List ℕ) → List (Shred P) → Type 0
  AreParented before [] = Unit {0}
  AreParented before (shred ∷ rest) =
      HasParent before shred × AreParented (before ++ shred.number ∷ []) rest

  -- the live shreds are a family: numbered from 1 on and below the next number, parents before
  -- their children
  pub record IsFamily (next : ℕ) (shreds : List (Shred P)) : Type 0 where
    pub order : AreInOrder 1 next shreds
    pub parents : AreParented [] shreds

  -- these end with the shred of a number: it, and exactly the live shreds whose parent ends
  abbrev pub AreThoseThatEnd : (number : ℕ) → (ends : ℕ → Bool) → List (Shred P) → Type 0
  AreThoseThatEnd n ends shreds =
      (ends 0 ≡ false)
      × All (λ shred. ends shred.number ≡ (nat_eq shred.number n || ends shred.parent)) shreds
