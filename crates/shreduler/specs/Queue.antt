-- Shreds that are due at some time.
use Rattle.std.specs.Prelude.{ℕ, ℤ, int_lt, int_le, if◌then◌else◌}
use Rattle.std.specs.Prelude.{not, List, [], ◌∷◌, ◌++◌, map, filter, Option, Some, None}
use Rattle.std.specs.Int.{int_min}
use Rattle.keyed_lists.specs.Keyed

-- a shred that is due at a time
pub record Due : Type 0 where
  pub time : ℤ
  pub shred : ℕ

-- what a shred in the queue of a time stands for
abbrev pub due_of : ℤ × ℕ → Due
due_of entry = record { time = entry.0; shred = entry.1 }

abbrev pub all_due : List (ℤ × ℕ) → List Due
all_due entries = map due_of entries

-- what tells those that are due apart
abbrev pub shred_of : Due → ℕ
shred_of due = due.shred

-- how often a shred is due
abbrev pub times_due : ℕ → List Due → ℕ
times_due = Keyed.times shred_of

-- all but this shred, in the same order
abbrev pub without : ℕ → List Due → List Due
without = Keyed.without shred_of

-- one that comes is due after all that are due by its time
abbrev pub arrived : Due → List Due → List Due
arrived d due = filter (λ e. not (int_lt d.time e.time)) due ++ d ∷ filter (λ e. int_lt d.time e.time) due

-- the sooner of two, the first one where they are due together
abbrev pub sooner : Due → Option Due → Due
sooner d None = d
sooner d (Some e) = if int_lt e.time d.time then e else d

-- the first one of least time, where that time has come
abbrev pub first_due : (now : ℤ) → List Due → Option Due
first_due now [] = None
first_due now (d ∷ rest) =
    if int_le d.time now then Some (sooner d (first_due now rest)) else first_due now rest

-- the earlier of two times
abbrev pub earlier : ℤ → Option ℤ → ℤ
earlier time None = time
earlier time (Some other) = int_min time other

-- the least time at which one is due
abbrev pub next_time : List Due → Option ℤ
next_time [] = None
next_time (d ∷ rest) = Some (earlier d.time (next_time rest))
