-- A list that stands for another, item by item, in which each key stands at most once.
use Rattle.std.proofs.Common.{◌≡◌, ℕ, ◌+◌, ◌≤◌, ◌⊎◌, inl, inr, Bool, true, false, cond, not}
use Rattle.std.proofs.Common.{nat_eq, List, [], ◌∷◌, ◌++◌, map, filter, refl, sym, ap, ◌∙◌}
use Rattle.std.proofs.Common.{arith}
use Rattle.std.proofs.lemmas.Bool.{eq-eqb, ne_eqb, cases_eq}
use Rattle.std.proofs.lemmas.List.{map-append}
use Rattle.std.proofs.lemmas.List.Sums.{sum_by_push, sum_by-cons}
use Rattle.std.proofs.lemmas.List.Filters.{sum_by-filter_both}
use Rattle.keyed_lists.specs.Keyed.{times, AreApart, without}

-- 1 where the key is the one, else 0
abbrev pub hits : ℕ → ℕ → ℕ
hits n m = cond (nat_eq m n) 1 0

pub hits-same : (n m : ℕ) → m ≡ n → hits n m ≡ 1
hits-same n m same = ap (λ b. cond b 1 0) (eq-eqb m n same)

module _ {T : Type 0} (key : T → ℕ) where
  pub times-cons : (n : ℕ) (it : T) (items : List T)
      → times key n (it ∷ items) ≡ hits n (key it) + times key n items
  times-cons n it items = sum_by-cons (λ (it : T). hits n (key it)) it items

  -- a key that doesn't stand in a list is not missed
  pub without_none : (n : ℕ) (items : List T) → times key n items ≡ 0 → without key n items ≡ items
  without_none n [] none = refl
  without_none n (it ∷ items) none =
      let other : nat_eq (key it) n ≡ false =
      ne_eqb (key it) n
      (λ same. omega (arith, none, times-cons n it items, hits-same n (key it) same)) in
      ap (λ b. cond (not b) (it ∷ without key n items) (without key n items)) other
      ∙ ap (λ items. it ∷ items)
      (without_none n items (omega (arith, none, times-cons n it items)))

module _ {E T : Type 0} (of : E → T) (key : T → ℕ) where
  -- an item whose key doesn't stand in the list may be pushed
  pub apart_pushed : (entries items : List E) (e : E) → items ≡ entries ++ e ∷ []
      → AreApart key (map of entries) → times key (key (of e)) (map of entries) ≡ 0
      → AreApart key (map of items)
  apart_pushed entries items e is apart none n =
      let pushed : times key n (map of items)
      ≡ times key n (map of entries) + hits n (key (of e)) =
      ap (times key n) (ap (map of) is ∙ map-append of entries (e ∷ []))
      ∙ sum_by_push (λ (it : T). hits n (key it)) (map of entries) (of e) in
      by (cases_eq (key (of e)) n) pushed
    where
      by : (key (of e) ≡ n) ⊎ (key (of e) ≡ n → ⊥)
          → times key n (map of items) ≡ times key n (map of entries) + hits n (key (of e))
          → times key n (map of items) ≤ 1
      by (inl same) pushed =
          let none_now : times key n (map of entries) ≡ 0 =
          ap (λ m. times key m (map of entries)) (sym same) ∙ none in
          omega (arith, pushed, hits-same n (key (of e)) same, none_now)
      by (inr other) pushed =
          let no_more : hits n (key (of e)) ≡ 0 =
          ap (λ b. cond b 1 0) (ne_eqb (key (of e)) n other) in
          omega (arith, pushed, no_more, apart n)

  -- the entries of other keys
  abbrev pub is_other : ℕ → E → Bool
  is_other n e = not (nat_eq (key (of e)) n)

  pub map-without : (n : ℕ) (entries : List E)
      → map of (filter (is_other n) entries) ≡ without key n (map of entries)
  map-without n [] = refl
  map-without n (e ∷ entries) = by (nat_eq (key (of e)) n) (map-without n entries)
    where
      by : (b : Bool) → map of (filter (is_other n) entries) ≡ without key n (map of entries)
          → map of (cond (not b) (e ∷ filter (is_other n) entries) (filter (is_other n) entries))
          ≡ cond (not b) (of e ∷ without key n (map of entries)) (without key n (map of entries))
      by true ih = ih
      by false ih = ap (λ items. of e ∷ items) ih

  -- what is left of the list that contracts see
  pub left_of : (n : ℕ) (entries left : List E) (items : List T)
      → left ≡ filter (is_other n) entries → map of entries ≡ items
      → map of left ≡ without key n items
  left_of n entries left items is view =
      ap (map of) is ∙ map-without n entries ∙ ap (without key n) view

  -- no key stands more often once one was taken out
  pub apart_without : (n : ℕ) (entries left : List E) → left ≡ filter (is_other n) entries
      → AreApart key (map of entries) → AreApart key (map of left)
  apart_without n entries left is apart m =
      let same : times key m (map of left) ≡ times key m (without key n (map of entries)) =
      ap (times key m) (ap (map of) is ∙ map-without n entries) in
      omega (
        arith,
        same,
        apart m,
        sum_by-filter_both (λ (it : T). nat_eq (key it) n) (λ it. not (nat_eq (key it) n))
            (λ it. refl)
            (λ it. hits m (key it)) (map of entries),
      )
