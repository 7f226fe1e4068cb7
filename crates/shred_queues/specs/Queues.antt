-- Shreds in queues: by rising key, and among equal keys in order of arrival.
use Rattle.std.specs.Prelude.{◌≡◌, ℕ, ◌<◌, false, not, List, [], ◌∷◌, ◌++◌, map, filter}
use Rattle.std.specs.List.{AllByRecursion}
use Rattle.std.specs.Ordering.{is_lt, is_gt}
use Rattle.std.specs.declared.cmp.Ordering.{Ordering}
use Rattle.shred_queues.specs.declared.queues.Place.{Place}

module _ {K : Type 0} where
  -- places and shreds, as keys and shreds
  abbrev pub keyed : List (Place K × ℕ) → List (K × ℕ)
  keyed entries = map (λ e. (e.0.key, e.1)) entries

  -- the tickets of all are before the next one
  abbrev pub AreBefore : (next : ℕ) → List (Place K × ℕ) → Type 0
  AreBefore next entries = AllByRecursion (λ e. e.0.ticket < next) entries

  module _ (cmp : K → K → Ordering) where
    -- a shred comes into the queue of a key: behind all of this key and of lower ones
    abbrev pub arrived : K → ℕ → List (K × ℕ) → List (K × ℕ)
    arrived key shred entries =
        filter (λ e. not (is_lt (cmp key e.0))) entries
        ++ (key, shred) ∷ filter (λ e. is_lt (cmp key e.0)) entries

    -- no key comes behind a later one
    abbrev pub IsRising : List (K × ℕ) → Type 0
    IsRising [] = Unit {0}
    IsRising (e ∷ rest) = AllByRecursion (λ f. is_gt (cmp e.0 f.0) ≡ false) rest × IsRising rest
