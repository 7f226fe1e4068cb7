-- The brackets of a declarator, one after another.
use Rattle.std.proofs.Common.{◌≡◌, ℕ, zero, suc, ◌+◌, ◌<◌, true, false, List, [], ◌∷◌, length, drop, get_or, refl, sym, ap, ◌∙◌, arith, add-one}
use Rattle.std.proofs.lemmas.Bool.Decides.{nat_tests}
use Rattle.std.specs.Bool.{◌==◌}
use Rattle.ck_syntax.specs.declared.expr.Bracket.{Bracket, Empty, Size'}
use Rattle.ck_syntax.specs.declared.expr.Bracket.TheVariants.{Size}
use Rattle.ck_syntax.specs.Tree.{Brackets, no_brackets, and_empty, and_size}
use Rattle.ck_syntax.specs.View.{view_expr, view_kind, brackets_of}
use Rattle.type_table.specs.Types.{has_none, count, all_empty, all_sized}

some_brackets : (before : Brackets) (bs : List Bracket) → has_none before ≡ false
    → has_none (brackets_of before bs) ≡ false
some_brackets before [] some = some
some_brackets before (Empty ∷ bs) some = some_brackets (and_empty before) bs refl
some_brackets before (Size' l k ∷ bs) some = some_brackets (and_size before (view_kind l k)) bs refl

pub none : (bs : List Bracket) → (length bs == 0) ≡ has_none (brackets_of no_brackets bs)
none [] = refl
none (Empty ∷ bs) =
    let some : (length {A = Bracket} (Empty ∷ bs) == 0) ≡ false = grind (arith, nat_tests) in
    some ∙ sym (some_brackets (and_empty no_brackets) bs refl)
none (Size' l k ∷ bs) =
    let some : (length {A = Bracket} (Size' l k ∷ bs) == 0) ≡ false = grind (arith, nat_tests) in
    some ∙ sym (some_brackets (and_size no_brackets (view_kind l k)) bs refl)

count_behind : (before : Brackets) (bs : List Bracket) → count (brackets_of before bs) ≡ count before + length bs
count_behind before [] = omega arith
count_behind before (Empty ∷ bs) = count_behind (and_empty before) bs ∙ omega arith
count_behind before (Size' l k ∷ bs) = count_behind (and_size before (view_kind l k)) bs ∙ omega arith

pub counted : (bs : List Bracket) → length bs ≡ count (brackets_of no_brackets bs)
counted bs = omega (arith, count_behind no_brackets bs)

not_empty_behind : (before : Brackets) (bs : List Bracket) → all_empty before ≡ false
    → all_empty (brackets_of before bs) ≡ false
not_empty_behind before [] is = is
not_empty_behind before (Empty ∷ bs) is = not_empty_behind (and_empty before) bs is
not_empty_behind before (Size' l k ∷ bs) is = not_empty_behind (and_size before (view_kind l k)) bs refl

empty_behind : (before : Brackets) (bs : List Bracket) → all_empty before ≡ true
    → all_empty (brackets_of before bs) ≡ all_empty (brackets_of no_brackets bs)
empty_behind before [] is = is
empty_behind before (Empty ∷ bs) is =
    empty_behind (and_empty before) bs is ∙ sym (empty_behind (and_empty no_brackets) bs refl)
empty_behind before (Size' l k ∷ bs) is =
    not_empty_behind (and_size before (view_kind l k)) bs refl
    ∙ sym (not_empty_behind (and_size no_brackets (view_kind l k)) bs refl)

not_sized_behind : (before : Brackets) (bs : List Bracket) → all_sized before ≡ false
    → all_sized (brackets_of before bs) ≡ false
not_sized_behind before [] is = is
not_sized_behind before (Empty ∷ bs) is = not_sized_behind (and_empty before) bs refl
not_sized_behind before (Size' l k ∷ bs) is = not_sized_behind (and_size before (view_kind l k)) bs is

sized_behind : (before : Brackets) (bs : List Bracket) → all_sized before ≡ true
    → all_sized (brackets_of before bs) ≡ all_sized (brackets_of no_brackets bs)
sized_behind before [] is = is
sized_behind before (Size' l k ∷ bs) is =
    sized_behind (and_size before (view_kind l k)) bs is
    ∙ sym (sized_behind (and_size no_brackets (view_kind l k)) bs refl)
sized_behind before (Empty ∷ bs) is =
    not_sized_behind (and_empty before) bs refl ∙ sym (not_sized_behind (and_empty no_brackets) bs refl)

cut : (bs : List Bracket) (i : ℕ) (b : Bracket) → i < length bs → b ≡ get_or bs i b → drop i bs ≡ b ∷ drop (i + 1) bs
cut [] i b lt is = absurd (omega (arith, lt))
cut (x ∷ bs) zero b lt is = ap (λ y. y ∷ bs) (sym is)
cut (x ∷ bs) (suc i) b lt is = rw add-one (cut bs i b (omega (arith, lt)) is ∙ rw add-one refl)

module _ (bs : List Bracket) (i : ℕ) (b : Bracket) (lt : i < length bs) (is : b ≡ get_or bs i b) where
  pub empty_next : b ≡ Empty
      → all_empty (brackets_of no_brackets (drop i bs))
      ≡ all_empty (brackets_of no_brackets (drop (i + 1) bs))
  empty_next e =
      ap (λ l. all_empty (brackets_of no_brackets l)) (cut bs i b lt is)
      ∙ ap (λ x. all_empty (brackets_of no_brackets (x ∷ drop (i + 1) bs))) e
      ∙ empty_behind (and_empty no_brackets) (drop (i + 1) bs) refl

  pub size_stops : (s : _) → b ≡ Size s → all_empty (brackets_of no_brackets (drop i bs)) ≡ false
  size_stops s e =
      ap (λ l. all_empty (brackets_of no_brackets l)) (cut bs i b lt is)
      ∙ ap (λ x. all_empty (brackets_of no_brackets (x ∷ drop (i + 1) bs))) e
      ∙ not_empty_behind (and_size no_brackets (view_expr s)) (drop (i + 1) bs) refl

  pub size_next : (s : _) → b ≡ Size s
      → all_sized (brackets_of no_brackets (drop i bs))
      ≡ all_sized (brackets_of no_brackets (drop (i + 1) bs))
  size_next s e =
      ap (λ l. all_sized (brackets_of no_brackets l)) (cut bs i b lt is)
      ∙ ap (λ x. all_sized (brackets_of no_brackets (x ∷ drop (i + 1) bs))) e
      ∙ sized_behind (and_size no_brackets (view_expr s)) (drop (i + 1) bs) refl

  pub empty_stops : b ≡ Empty → all_sized (brackets_of no_brackets (drop i bs)) ≡ false
  empty_stops e =
      ap (λ l. all_sized (brackets_of no_brackets l)) (cut bs i b lt is)
      ∙ ap (λ x. all_sized (brackets_of no_brackets (x ∷ drop (i + 1) bs))) e
      ∙ not_sized_behind (and_empty no_brackets) (drop (i + 1) bs) refl
