-- Counts, of faults and of calls, which stand still at their end.
use Rattle.std.specs.Prelude.{◌≡◌, ◌⊎◌, ◌<◌, ◌+◌, ℕ, min}

-- the greatest number that a count reaches; it stands still there
abbrev pub last_count : ℕ
last_count = 18446744073709551615

-- the count after one more; it stands still at the greatest
abbrev pub next_count : ℕ → ℕ
next_count before = min (before + 1) last_count

-- the count of faults rose in a call, or stands at its end after it
abbrev pub HasRisen : ℕ → ℕ → Type 0
HasRisen before after = (before < after) ⊎ (after ≡ last_count)
