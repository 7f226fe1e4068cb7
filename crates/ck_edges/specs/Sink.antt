-- What writing adds to what a sink has taken, as far as it tells that.
use Rattle.std.specs.Prelude.{◌≡◌, ℕ, List, ◌++◌, Option, Some, None}

-- the new text is the old one with these bytes at its end; what isn't told stays untold
abbrev pub Appends : Option (List ℕ) → Option (List ℕ) → List ℕ → Type 0
Appends None new bytes = new ≡ None
Appends (Some text) new bytes = new ≡ Some (text ++ bytes)

-- some front of the bytes was added
abbrev pub AppendsFront : Option (List ℕ) → Option (List ℕ) → List ℕ → Type 0
AppendsFront old new bytes =
    (front rest : List ℕ) × (bytes ≡ front ++ rest) × Appends old new front
