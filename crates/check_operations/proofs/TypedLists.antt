-- Lists of typed expressions.
use Rattle.std.proofs.Common.{◌≡◌, ◌∙◌, ℕ, ◌+◌, ◌<◌, ◌≤◌, Bool, true, false, List, [], ◌∷◌, ◌++◌, ◌&&◌, length, take, get_or, refl, sym, ap, arith}
use Rattle.std.proofs.lemmas.List.{take_all}
use Rattle.std.proofs.lemmas.List.Folds.{list_all_more, list_all_at}
use Rattle.std.specs.List.{list_all}
use Rattle.ck_values.specs.declared.kind.Elem.{Elem}
use Rattle.ck_values.specs.declared.kind.Kind.{Kind}
use Rattle.ck_typed.specs.declared.expr.TypedExpr.{TypedExpr}
use Rattle.ck_typed.specs.Tree.{Expr, Exprs, no_exprs, more_exprs}
use Rattle.ck_typed.specs.View.{view_expr, exprs_of}
use Rattle.type_table.specs.Table.{Table}
use Rattle.check_scope.specs.Expressions.{taken_as, all_taken_as, mismatch, new_array}
use Rattle.check_scope.specs.Denotations.{Typed}
use Rattle.check_scope.specs.Scope.{Scope}
use Rattle.check_scope.specs.View.{view_typed, all_typed}
use Rattle.check_scope.specs.declared.typed.Typed.{Typed as TypedValue}

-- what all values are, each of them is
all_of : (p : Typed → Bool) (xs : List TypedValue) → list_all p (all_typed xs) ≡ list_all (λ x. p (view_typed x)) xs
all_of p [] = refl
all_of p (x ∷ xs) = ap (λ rest. p (view_typed x) && rest) (all_of p xs)

-- the first values are all so, and one more
pub all_more : (p : Typed → Bool) (xs : List TypedValue) (i : ℕ) (x : TypedValue) → i < length xs → x ≡ get_or xs i x
    → p (view_typed x) ≡ true
    → list_all (λ y. p (view_typed y)) (take i xs) ≡ true → list_all (λ y. p (view_typed y)) (take (i + 1) xs) ≡ true
all_more p xs i x lt is so_is all = list_all_more (λ y. p (view_typed y)) xs i x lt
    ∙ ap (λ b. b && p (view_typed (get_or xs i x))) all ∙ ap (λ y. p (view_typed y)) (sym is) ∙ so_is

pub all_done : (p : Typed → Bool) (xs : List TypedValue) (i : ℕ) → length xs ≤ i
    → list_all (λ y. p (view_typed y)) (take i xs) ≡ true → list_all p (all_typed xs) ≡ true
all_done p xs i past all = all_of p xs ∙ ap (list_all (λ y. p (view_typed y))) (sym (take_all i xs past)) ∙ all

pub all_stop : (p : Typed → Bool) (xs : List TypedValue) (i : ℕ) (x : TypedValue) → i < length xs → x ≡ get_or xs i x
    → p (view_typed x) ≡ false → list_all p (all_typed xs) ≡ false
all_stop p xs i x lt is not_so = all_of p xs ∙ list_all_at (λ y. p (view_typed y)) xs i x lt
    (ap (λ y. p (view_typed y)) (sym is) ∙ not_so)

-- one more at the end
abbrev and_last : Exprs → Expr → Exprs
and_last no_exprs e = more_exprs e no_exprs
and_last (more_exprs first rest) e = more_exprs first (and_last rest e)

exprs_more : (es : List TypedExpr) (e : TypedExpr) → exprs_of (es ++ e ∷ []) ≡ and_last (exprs_of es) (view_expr e)
exprs_more [] e = refl
exprs_more (first ∷ es) e = ap (more_exprs (view_expr first)) (exprs_more es e)

taken_more : (xs : List TypedValue) (x : TypedValue) (k : Kind)
    → all_taken_as (all_typed (xs ++ x ∷ [])) k ≡ and_last (all_taken_as (all_typed xs) k) (taken_as (view_typed x) k)
taken_more [] x k = refl
taken_more (first ∷ xs) x k = ap (more_exprs (taken_as (view_typed first) k)) (taken_more xs x k)

-- one more value taken over
pub one_more_taken : (done more : List TypedExpr) (e : TypedExpr) (xs : List TypedValue) (x : TypedValue) (k : Kind)
    → more ≡ done ++ e ∷ [] → view_expr e ≡ taken_as (view_typed x) k
    → exprs_of done ≡ all_taken_as (all_typed xs) k → exprs_of more ≡ all_taken_as (all_typed (xs ++ x ∷ [])) k
one_more_taken done more e xs x k longer taken so =
    ap exprs_of longer ∙ exprs_more done e ∙ ap (λ es. and_last es (view_expr e)) so
    ∙ ap (and_last (all_taken_as (all_typed xs) k)) taken ∙ sym (taken_more xs x k)

-- more than two sizes
pub many_sizes : (t : Table) (s : Scope) (l : ℕ) (e : Elem) (xs : List TypedValue) (before last : TypedValue)
    → 0 < length xs → new_array t s l e (all_typed ((xs ++ before ∷ []) ++ last ∷ [])) ≡ mismatch s l
many_sizes t s l e [] before last some = absurd (omega (arith, some))
many_sizes t s l e (x ∷ []) before last some = refl
many_sizes t s l e (x ∷ y ∷ []) before last some = refl
many_sizes t s l e (x ∷ y ∷ z ∷ xs) before last some = refl
