-- Look-ups in a table, row by row.
use Rattle.std.proofs.Common.{◌≡◌, ℕ, suc, zero, ◌+◌, ◌<◌, List, [], ◌∷◌, length, get_or, drop, map, true, false, nat_eq, Some, refl, ◌∙◌, arith, add-one, Bool}
use Rattle.std.specs.List.{list_all, starts_with}
use Rattle.std.specs.Str.{bytes_eq}
use Rattle.ck_lexer.proofs.Runs.{both-left, both-right}
use Rattle.ck_lexer.specs.Tables.{look_up, first_front}

module _ {R A : Type 0} (f : R → List ℕ × A) (d : R) where
  -- the rows from i on are the row at i and the rows behind it
  pub drop-row : (rows : List R) (i : ℕ) → i < length rows → drop i (map f rows) ≡ f (get_or rows i d) ∷ drop (i + 1) (map f rows)
  drop-row [] i h = absurd (omega arith)
  drop-row (r ∷ rs) zero h = refl
  drop-row (r ∷ rs) (suc i) h = rw add-one (drop-row rs i (omega arith) ∙ rw add-one refl)

  pub look_up-here : (rows : List R) (i : ℕ) (w : List ℕ) → i < length rows → bytes_eq (f (get_or rows i d)).0 w ≡ true → look_up (drop i (map f rows)) w ≡ Some (f (get_or rows i d)).1
  look_up-here rows i w h e = rw (drop-row rows i h) (rw e refl)

  pub look_up-past : (rows : List R) (i : ℕ) (w : List ℕ) → i < length rows → bytes_eq (f (get_or rows i d)).0 w ≡ false → look_up (drop i (map f rows)) w ≡ look_up (drop (i + 1) (map f rows)) w
  look_up-past rows i w h e = rw (drop-row rows i h) (rw e refl)

  pub first_front-here : (rows : List R) (i : ℕ) (w : List ℕ) → i < length rows → starts_with nat_eq w (f (get_or rows i d)).0 ≡ true → first_front (drop i (map f rows)) w ≡ Some ((f (get_or rows i d)).1, length (f (get_or rows i d)).0)
  first_front-here rows i w h e = rw (drop-row rows i h) (rw e refl)

  pub first_front-past : (rows : List R) (i : ℕ) (w : List ℕ) → i < length rows → starts_with nat_eq w (f (get_or rows i d)).0 ≡ false → first_front (drop i (map f rows)) w ≡ first_front (drop (i + 1) (map f rows)) w
  first_front-past rows i w h e = rw (drop-row rows i h) (rw e refl)

  -- past the last row there is none
  pub drop-rows : (rows : List R) (i : ℕ) → length rows ≡ i → drop i (map f rows) ≡ []
  drop-rows [] zero h = refl
  drop-rows [] (suc i) h = refl
  drop-rows (r ∷ rs) zero h = absurd (omega arith)
  drop-rows (r ∷ rs) (suc i) h = drop-rows rs i (omega arith)

  -- what each row has
  pub list_all-row : (test : R → Bool) (rows : List R) (i : ℕ) → i < length rows → list_all test rows ≡ true → test (get_or rows i d) ≡ true
  list_all-row test [] i h a = absurd (omega arith)
  list_all-row test (r ∷ rs) zero h a = both-left (test r) _ a
  list_all-row test (r ∷ rs) (suc i) h a = list_all-row test rs i (omega arith) (both-right (test r) _ a)
