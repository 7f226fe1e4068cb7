-- A search in a table of names, row by row.
use Rattle.std.proofs.Common.{◌≡◌, ℕ, zero, suc, ◌+◌, ◌<◌, true, false, List, [], ◌∷◌, length, drop, get_or, map, Some, if◌then◌else◌, refl, sym, ap, ◌∙◌, arith, add-one}
use Rattle.std.specs.Str.{bytes_eq}
use Rattle.ck_syntax.specs.Tree.{Name}
use Rattle.type_table.specs.Names.{lookup}

module _ {R A : Type 0} (f : R → Name × A) (d : R) where
  from_row : (rs : List R) (i : ℕ) → i < length rs → drop i (map f rs) ≡ f (get_or rs i d) ∷ drop (i + 1) (map f rs)
  from_row [] i lt = absurd (omega (arith, lt))
  from_row (x ∷ rs) zero lt = refl
  from_row (x ∷ rs) (suc i) lt = rw add-one (from_row rs i (omega (arith, lt)) ∙ rw add-one refl)

  module _ (named : List (Name × A)) (rs : List R) (are : map f rs ≡ named) (n : Name) (i : ℕ) (lt : i < length rs) where
    cut : drop i named ≡ f (get_or rs i d) ∷ drop (i + 1) named
    cut = ap (drop i) (sym are) ∙ from_row rs i lt ∙ ap (λ l. f (get_or rs i d) ∷ drop (i + 1) l) are

    pub name_here : bytes_eq n (f (get_or rs i d)).0 ≡ true → lookup n (drop i named) ≡ Some (f (get_or rs i d)).1
    name_here so = ap (lookup n) cut ∙ ap (λ b. if b then Some (f (get_or rs i d)).1 else lookup n (drop (i + 1) named)) so

    pub name_later : bytes_eq n (f (get_or rs i d)).0 ≡ false → lookup n (drop i named) ≡ lookup n (drop (i + 1) named)
    name_later so = ap (lookup n) cut ∙ ap (λ b. if b then Some (f (get_or rs i d)).1 else lookup n (drop (i + 1) named)) so
