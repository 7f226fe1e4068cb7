-- Shreds at places that have an order, each shred at one place.
use Rattle.std.specs.Prelude.{◌≡◌, ℕ, nat_eq, Bool, List, Option, Some, None, ◌∷◌}
use Rattle.std.specs.BTreeMap.{BTreeMap, IsOrdered, get, is_at}
use Rattle.std.specs.List.{find}
use Rattle.std.specs.List.Sorted.{IsStrictlySortedBy}
use Rattle.std.specs.Map.{lookup, keys_of}
use Rattle.std.specs.Option.{option_map}
use Rattle.std.specs.Ordering.{is_le, nat_cmp}
use Rattle.std.specs.declared.cmp.Ordering.{Ordering}
use Rattle.keyed_lists.specs.Keyed
use Rattle.shred_queues.specs.declared.places.Entry.{Entry}

module _ {P : Type 0} where
  -- what tells those that stand somewhere apart
  abbrev pub shred_of : P × ℕ → ℕ
  shred_of entry = entry.1

  -- how often a shred stands somewhere
  abbrev pub times : ℕ → List (P × ℕ) → ℕ
  times = Keyed.times shred_of

  -- each shred stands at one place at most
  abbrev pub AreApart : List (P × ℕ) → Type 0
  AreApart = Keyed.AreApart shred_of

  -- all but this shred, in the same order
  abbrev pub without : ℕ → List (P × ℕ) → List (P × ℕ)
  without = Keyed.without shred_of

  -- where a shred stands
  abbrev pub place_of : (shred : ℕ) → List (P × ℕ) → Option P
  place_of shred entries = option_map (λ e. e.0) (find (λ e. nat_eq e.1 shred) entries)

  -- where a first one stands apart from the others
  abbrev pub with_first : Option (Entry P) → List (P × ℕ) → List (P × ℕ)
  with_first None later = later
  with_first (Some first) later = (first.place, first.shred) ∷ later

  module _ (cmp : P → P → Ordering) where
    -- nothing stands at the place
    abbrev pub IsFree : P → List (P × ℕ) → Type 0
    IsFree place entries = lookup (is_at (cmp place)) entries ≡ None

    -- whether a place is not before another
    abbrev pub is_from : (start place : P) → Bool
    is_from start place = is_le (cmp start place)

    -- two maps hold the same: from each place to its shred, and from each shred to its place
    pub record AreTied (shreds : BTreeMap P ℕ) (places : BTreeMap ℕ P) : Type 0 where
      pub ordered : IsOrdered cmp shreds
      pub apart : AreApart shreds.entries
      pub found : (shred : ℕ) → get nat_cmp places shred ≡ place_of shred shreds.entries

    -- places in order, each shred at one at most
    pub record AreOrderly (entries : List (P × ℕ)) : Type 0 where
      pub ordered : IsStrictlySortedBy cmp (keys_of entries)
      pub apart : AreApart entries
