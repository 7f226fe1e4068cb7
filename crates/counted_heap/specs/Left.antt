-- What counting leaves of objects by their numbers, where tests tell who is held from outside and
-- who refers to whom: in each round those go that aren't held, and to which none refers that is left.
use Rattle.std.specs.Prelude.{◌≡◌, ◌↔◌, ℕ, zero, suc, ◌||◌, Bool, true, List, filter, length}
use Rattle.std.specs.List.{list_any}
use Rattle.object_heap.specs.Objects.{Objects}
use Rattle.counted_heap.specs.Counted.{Counted, live}
use Rattle.counted_heap.specs.Stands.{Points, StandsFor}
use Rattle.counted_heap.specs.Reach.{IsRooted, Reached, In, Distinct}

module _ (is_held : ℕ → Bool) (refers : (x y : ℕ) → Bool) where
  -- whether one stays, where these are left
  abbrev pub stays : List ℕ → ℕ → Bool
  stays left m = is_held m || list_any (λ x. refers x m) left

  -- those that are left after so many rounds
  abbrev pub left_after : (rounds : ℕ) → List ℕ → List ℕ
  left_after zero left = left
  left_after (suc rounds) left = left_after rounds (filter (stays left) left)

  -- those that are left in the end: a round takes one, or none goes any more
  abbrev pub all_left : List ℕ → List ℕ
  all_left ms = left_after (length ms) ms

-- the live objects are as many as those that counting leaves of any numbers that have all that are
-- reached, by any tests that are right
abbrev pub LiveAreLeft : Counted → Type 0
LiveAreLeft h = (s : Objects) → StandsFor h s
    → (is_held : ℕ → Bool) → ((m : ℕ) → (is_held m ≡ true) ↔ IsRooted h m)
    → (refers : (x y : ℕ) → Bool) → ((x y : ℕ) → (refers x y ≡ true) ↔ Points s x y)
    → (ms : List ℕ) → Distinct ms → ((m : ℕ) → Reached h s m → In m ms)
    → live h ≡ length (all_left is_held refers ms)
