-- A search in a table, row by row.
use Rattle.std.proofs.Common.{◌≡◌, ℕ, zero, suc, ◌+◌, ◌<◌, Bool, true, false, ◌||◌, cond, List, [], ◌∷◌, length, drop, get_or, map, Some, refl, sym, ap, ◌∙◌, arith, add-one}
use Rattle.std.specs.Prelude.{find}
use Rattle.std.specs.List.{list_any}

module _ {R C : Type 0} (f : R → C) (d : R) where
  from_row : (rs : List R) (i : ℕ) → i < length rs → drop i (map f rs) ≡ f (get_or rs i d) ∷ drop (i + 1) (map f rs)
  from_row [] i lt = absurd (omega (arith, lt))
  from_row (x ∷ rs) zero lt = refl
  from_row (x ∷ rs) (suc i) lt = rw add-one (from_row rs i (omega (arith, lt)) ∙ rw add-one refl)

  module _ (cs : List C) (rs : List R) (are : map f rs ≡ cs) (test : C → Bool) (i : ℕ) (lt : i < length rs) where
    cut : drop i cs ≡ f (get_or rs i d) ∷ drop (i + 1) cs
    cut = ap (drop i) (sym are) ∙ from_row rs i lt ∙ ap (λ l. f (get_or rs i d) ∷ drop (i + 1) l) are

    pub any_here : test (f (get_or rs i d)) ≡ true → list_any test (drop i cs) ≡ true
    any_here so = ap (list_any test) cut ∙ ap (λ b. b || list_any test (drop (i + 1) cs)) so

    pub any_later : test (f (get_or rs i d)) ≡ false → list_any test (drop i cs) ≡ list_any test (drop (i + 1) cs)
    any_later so = ap (list_any test) cut ∙ ap (λ b. b || list_any test (drop (i + 1) cs)) so

    pub found_here : test (f (get_or rs i d)) ≡ true → find test (drop i cs) ≡ Some (f (get_or rs i d))
    found_here so = ap (find test) cut ∙ ap (λ b. cond b (Some (f (get_or rs i d))) (find test (drop (i + 1) cs))) so

    pub found_later : test (f (get_or rs i d)) ≡ false → find test (drop i cs) ≡ find test (drop (i + 1) cs)
    found_later so = ap (find test) cut ∙ ap (λ b. cond b (Some (f (get_or rs i d))) (find test (drop (i + 1) cs))) so
