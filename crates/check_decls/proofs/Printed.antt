-- Values that are printed.
use Rattle.std.proofs.Common.{◌≡◌, ◌∙◌, ℕ, ◌+◌, ◌<◌, ◌≤◌, Bool, true, false, List, [], ◌∷◌, ◌++◌}
use Rattle.std.proofs.Common.{◌||◌, length, map, take, get_or, refl, sym, ap, arith}
use Rattle.std.proofs.lemmas.List.{take_all}
use Rattle.std.proofs.lemmas.List.Folds.{list_any_more, list_any_at}
use Rattle.std.specs.List.{list_any}
use Rattle.ck_values.specs.declared.kind.Kind.{Kind}
use Rattle.ck_typed.specs.declared.expr.TypedExpr.{TypedExpr}
use Rattle.ck_typed.specs.Tree.{Expr, Exprs, no_exprs, more_exprs}
use Rattle.ck_typed.specs.View.{view_expr, exprs_of}
use Rattle.check_scope.specs.Denotations.{is_void}
use Rattle.check_scope.specs.Scope.{is_empty}
use Rattle.check_scope.specs.View.{view_typed, all_typed}
use Rattle.check_scope.specs.declared.typed.Typed.{Typed}
use Rattle.program_laws.specs.Statements.{exprs, kinds}

abbrev pub no_value : Typed → Bool
no_value x = is_void x.kind

void_in : (xs : List Typed) → list_any (λ x. is_void x.kind) (all_typed xs) ≡ list_any no_value xs
void_in [] = refl
void_in (x ∷ xs) = ap (λ rest. is_void x.kind || rest) (void_in xs)

-- none so far, and this one isn't void either
pub none_more : (xs : List Typed) (i : ℕ) (x : Typed) → i < length xs → x ≡ get_or xs i x
    → is_void x.kind ≡ false → list_any no_value (take i xs) ≡ false
    → list_any no_value (take (i + 1) xs) ≡ false
none_more xs i x lt is not_void none =
    list_any_more no_value xs i x lt ∙ ap (λ b. b || no_value (get_or xs i x)) none
    ∙ ap no_value (sym is) ∙ not_void

pub none_done : (xs : List Typed) (i : ℕ) → length xs ≤ i → list_any no_value (take i xs) ≡ false
    → list_any (λ x. is_void x.kind) (all_typed xs) ≡ false
none_done xs i past none = void_in xs ∙ ap (list_any no_value) (sym (take_all i xs past)) ∙ none

pub one_void : (xs : List Typed) (i : ℕ) (x : Typed) → i < length xs → x ≡ get_or xs i x
    → is_void x.kind ≡ true → list_any (λ x. is_void x.kind) (all_typed xs) ≡ true
one_void xs i x lt is void =
    void_in xs ∙ list_any_at no_value xs i x lt (ap no_value (sym is) ∙ void)

-- there is one
pub some_typed : (xs : List Typed) → 0 < length xs → is_empty (all_typed xs) ≡ false
some_typed [] none = absurd (omega (arith, none))
some_typed (x ∷ xs) more = refl

-- the kinds of values
abbrev pub kind_of : Typed → Kind
kind_of x = x.kind

kinds_of : (xs : List Typed) → kinds (all_typed xs) ≡ map kind_of xs
kinds_of [] = refl
kinds_of (x ∷ xs) = ap (λ (rest : List Kind). x.kind ∷ rest) (kinds_of xs)

pub kinds_done : (done : List Kind) (xs : List Typed) (i : ℕ) → length xs ≤ i
    → done ≡ map kind_of (take i xs) → done ≡ kinds (all_typed xs)
kinds_done done xs i past so = so ∙ ap (map kind_of) (take_all i xs past) ∙ sym (kinds_of xs)

-- the expressions of values, and one more at the end
abbrev and_last : Exprs → Expr → Exprs
and_last no_exprs e = more_exprs e no_exprs
and_last (more_exprs first rest) e = more_exprs first (and_last rest e)

exprs_of-more : (es : List TypedExpr) (e : TypedExpr)
    → exprs_of (es ++ e ∷ []) ≡ and_last (exprs_of es) (view_expr e)
exprs_of-more [] e = refl
exprs_of-more (first ∷ es) e = ap (more_exprs (view_expr first)) (exprs_of-more es e)

exprs-more : (xs : List Typed) (x : Typed)
    → exprs (all_typed (xs ++ x ∷ [])) ≡ and_last (exprs (all_typed xs)) (view_typed x).expr
exprs-more [] x = refl
exprs-more (first ∷ xs) x = ap (more_exprs (view_typed first).expr) (exprs-more xs x)

pub one_more_item : (done more : List TypedExpr) (e : TypedExpr) (xs : List Typed) (x : Typed)
    → more ≡ done ++ e ∷ [] → view_expr e ≡ (view_typed x).expr
    → exprs_of done ≡ exprs (all_typed xs) → exprs_of more ≡ exprs (all_typed (xs ++ x ∷ []))
one_more_item done more e xs x longer same so =
    ap exprs_of longer ∙ exprs_of-more done e ∙ ap (λ es. and_last es (view_expr e)) so
    ∙ ap (and_last (exprs (all_typed xs))) same ∙ sym (exprs-more xs x)
