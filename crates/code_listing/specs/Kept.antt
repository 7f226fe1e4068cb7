-- What a line that could not be added leaves.
use Rattle.std.specs.Prelude.{◌≡◌, ℕ, List, length, take}

-- what was there still stands at the front
abbrev pub Keeps : (old new : List ℕ) → Type 0
Keeps old new = take (length old) new ≡ old
