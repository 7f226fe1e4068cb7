-- How often numbers stand in lists, and sums over lists.
use Rattle.std.specs.Prelude.{ℕ, ◌+◌, nat_eq, List, [], ◌∷◌}
use Rattle.ck_store.specs.Steps.{pick}

-- 1 where the numbers are equal, else 0
unfoldable pub hit : ℕ → ℕ → ℕ
hit m n = pick (nat_eq m n) 1 0

-- how often m is the number of an item
abbrev pub times : {A : Type 0} → (number : A → ℕ) → (m : ℕ) → List A → ℕ
times number m [] = 0
times number m (x ∷ rest) = hit m (number x) + times number m rest

-- the sum of what the items weigh
abbrev pub weight : {A : Type 0} → (A → ℕ) → List A → ℕ
weight f [] = 0
weight f (x ∷ rest) = f x + weight f rest
