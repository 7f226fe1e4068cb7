-- Calls that are to fail, by their numbers.
use Rattle.std.specs.Prelude.{ℕ, ◌==◌, min, nat_le, List, [], ◌∷◌, Option, Some, None}
use Rattle.std.specs.Prelude.{if◌then◌else◌}

-- after how many bytes at most the call of this number fails, where it is listed
abbrev pub fails_after : List (ℕ × ℕ) → ℕ → Option ℕ
fails_after [] call = None
fails_after (fail ∷ fails) call =
    if fail.0 == call then Some fail.1 else fails_after fails call

-- how many of so many bytes a write takes into this room: where it is to fail, as many as its most
-- and the room allow, or else all, or none that haven't room together
abbrev pub front_length : Option ℕ → ℕ → ℕ → ℕ
front_length (Some most) room bytes = min (min most room) bytes
front_length None room bytes = if nat_le bytes room then bytes else 0
