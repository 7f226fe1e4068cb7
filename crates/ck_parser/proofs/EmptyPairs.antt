-- How many pairs of brackets there are, where none has a size, one after another.
use Rattle.std.proofs.Common.{◌≡◌, ℕ, zero, suc, ◌+◌, ◌<◌, List, [], ◌∷◌, length, drop, get_or}
use Rattle.std.proofs.Common.{false, if◌then◌else◌, Option, Some, None, refl, sym, ◌∙◌, ap, arith, add-one}
use Rattle.std.specs.Option.{option_map}
use Rattle.parse_exprs.specs.Machine.{each_pairs, empty_pairs}
use Rattle.ck_syntax.specs.Tree.{Brackets, no_brackets, and_empty, and_size}
use Rattle.ck_syntax.specs.View.{brackets_of, view_declr, view_kind, view_tail}
use Rattle.ck_syntax.proofs.Views.{view-Brackets}
use Rattle.ck_syntax.specs.declared.declaration.DeclHead.{DeclHead}
use Rattle.ck_syntax.specs.declared.expr.Declarator.{Declarator}
use Rattle.ck_syntax.specs.declared.expr.DeclaratorTail as tail
use Rattle.ck_syntax.specs.declared.expr.Bracket.{Bracket, Empty, Size'}
use Rattle.ck_syntax.specs.declared.expr.Bracket.TheVariants.{Size}

-- the pairs from here on, behind so many
abbrev pub pairs_on : ℕ → List Bracket → Option ℕ
pairs_on n [] = Some n
pairs_on n (Empty ∷ bs) = pairs_on (n + 1) bs
pairs_on n (Size' l k ∷ bs) = None

sized : (before : Brackets) (bs : List Bracket) → empty_pairs before ≡ None
    → empty_pairs (brackets_of before bs) ≡ None
sized before [] h = h
sized before (Empty ∷ bs) h = sized (and_empty before) bs (ap (option_map suc) h)
sized before (Size' l k ∷ bs) h = sized (and_size before (view_kind l k)) bs refl

pub counted : (n : ℕ) (before : Brackets) (bs : List Bracket) → empty_pairs before ≡ Some n
    → empty_pairs (brackets_of before bs) ≡ pairs_on n bs
counted n before [] h = h
counted n before (Empty ∷ bs) h =
    counted (n + 1) (and_empty before) bs (ap (option_map suc) h ∙ rw add-one refl)
counted n before (Size' l k ∷ bs) h = sized (and_size before (view_kind l k)) bs refl

cut : (bs : List Bracket) (i : ℕ) (b : Bracket) → i < length bs → b ≡ get_or bs i b
    → drop i bs ≡ b ∷ drop (i + 1) bs
cut [] i b lt is = absurd (omega (arith, lt))
cut (x ∷ bs) zero b lt is = ap (λ y. y ∷ bs) (sym is)
cut (x ∷ bs) (suc i) b lt is = rw add-one (cut bs i b (omega (arith, lt)) is ∙ rw add-one refl)

module _ (bs : List Bracket) (i : ℕ) (b : Bracket) (lt : i < length bs) (is : b ≡ get_or bs i b) where
  pub empty_next : b ≡ Empty → pairs_on i (drop i bs) ≡ pairs_on (i + 1) (drop (i + 1) bs)
  empty_next e = ap (pairs_on i) (cut bs i b lt is)
      ∙ ap (λ x. pairs_on i (x ∷ drop (i + 1) bs)) e

  pub size_stops : (s : _) → b ≡ Size s → pairs_on i (drop i bs) ≡ None
  size_stops s e = ap (pairs_on i) (cut bs i b lt is)
      ∙ ap (λ x. pairs_on i (x ∷ drop (i + 1) bs)) e

pub pairs_of_item : (h : DeclHead) (x : Declarator) (bs : List Bracket) → h.is_static ≡ false
    → x.tail ≡ tail.Brackets bs
    → each_pairs h (view_declr x) ≡ empty_pairs (brackets_of no_brackets bs)
pairs_of_item h x bs s e = ap (λ y. each_pairs h (view_tail x.name y)) e
    ∙ ap (each_pairs h) (view-Brackets x.name bs)
    ∙ ap (λ b. if b then None else empty_pairs (brackets_of no_brackets bs)) s
