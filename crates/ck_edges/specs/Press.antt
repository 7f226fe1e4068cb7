-- The sheets of a press: each has a name, the bytes written, and whether it was ended.
use Rattle.std.specs.Prelude.{◌≡◌, ℕ, Bool, true, false}
use Rattle.std.specs.Prelude.{List, [], ◌∷◌, ◌++◌, Option, Some, None}

pub record Sheet : Type 0 where
  pub name : List ℕ
  pub bytes : List ℕ
  pub ended : Bool

-- the sheets with a new one of this name, as yet empty
abbrev pub with_begun : List ℕ → List Sheet → List Sheet
with_begun name sheets = sheets ++ record { name = name; bytes = []; ended = false } ∷ []

-- the sheets with these bytes at the end of the last one
abbrev pub with_written : List ℕ → List Sheet → List Sheet
with_written bytes [] = []
with_written bytes (sheet ∷ []) =
    record sheet { bytes = sheet.bytes ++ bytes } ∷ []
with_written bytes (sheet ∷ next ∷ sheets) = sheet ∷ with_written bytes (next ∷ sheets)

-- the sheets with the last one ended
abbrev pub with_ended : List Sheet → List Sheet
with_ended [] = []
with_ended (sheet ∷ []) = record sheet { ended = true } ∷ []
with_ended (sheet ∷ next ∷ sheets) = sheet ∷ with_ended (next ∷ sheets)

-- the new sheets are the old ones after this change; what isn't told stays untold
abbrev pub Changes : Option (List Sheet) → Option (List Sheet)
    → (List Sheet → List Sheet) → Type 0
Changes None new change = new ≡ None
Changes (Some sheets) new change = new ≡ Some (change sheets)

-- some front of the bytes was added to the last sheet
abbrev pub WritesFront : Option (List Sheet) → Option (List Sheet) → List ℕ → Type 0
WritesFront old new bytes =
    (front rest : List ℕ) × (bytes ≡ front ++ rest) × Changes old new (with_written front)
