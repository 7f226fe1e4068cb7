-- Lists of items that are told apart by a number, their key.
use Rattle.std.specs.Prelude.{ℕ, ◌≤◌, not, nat_eq, List, filter, count_by}

-- how often a key stands in a list
abbrev pub times : {T : Type 0} → (key : T → ℕ) → ℕ → List T → ℕ
times key n items = count_by (λ it. nat_eq (key it) n) items

-- each key stands at most once
abbrev pub AreApart : {T : Type 0} → (key : T → ℕ) → List T → Type 0
AreApart key items = (n : ℕ) → times key n items ≤ 1

-- all but what has this key, in the same order
abbrev pub without : {T : Type 0} → (key : T → ℕ) → ℕ → List T → List T
without key n items = filter (λ it. not (nat_eq (key it) n)) items
