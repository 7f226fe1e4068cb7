-- The lists in trees.
use Rattle.std.proofs.Common.{◌≡◌, ℕ, suc, ◌+◌, ◌<◌, List, [], ◌∷◌, ◌++◌, length, map, drop, drop-cons, add-one, get_or, if◌then◌else◌, refl, sym, ap, ◌∙◌}
use Rattle.std.specs.List.{list_any}
use Rattle.std.specs.Str.{bytes_eq}
use Rattle.ck_scheme.specs.Texts.{expr_texts, exprs_texts, stmt_texts, stmts_texts, default_texts, funs_texts, once_each}
use Rattle.ck_typed.specs.View.{view_expr, exprs_of, view_stmt, stmts_of, view_fun}
use Rattle.ck_typed.specs.declared.expr.TypedExpr.{TypedExpr}
use Rattle.ck_typed.specs.declared.expr.TypedExpr.TheViews as exprs
use Rattle.ck_typed.specs.declared.program.TypedFun.{TypedFun}
use Rattle.ck_typed.specs.declared.stmt.TypedStmt.{TypedStmt}
use Rattle.ck_typed.specs.declared.stmt.TypedStmt.TheViews as stmts
use Rattle.ck_typed.proofs.Views.{view_exprs-row, view_stmts-row}

pub ruleset expr_rows = (exprs.the_lemmas, view_exprs-row)

-- the strings of one list after another
pub once_each-append : (before a b : List (List ℕ))
    → once_each before (a ++ b) ≡ once_each (once_each before a) b
once_each-append before [] b = refl
once_each-append before (t ∷ a) b =
    once_each-append (if list_any (bytes_eq t) before then before else before ++ t ∷ []) a b

pub ruleset expr_walks = (expr_rows, once_each-append)

pub ruleset stmt_walks = (expr_rows, stmts.the_lemmas, view_stmts-row, once_each-append)

-- the first item, and those after it
pub next_of : {X : Type 0} (xs : List X) (i : ℕ) (x : X) → i < length xs → x ≡ get_or xs i x
    → drop i xs ≡ x ∷ drop (i + 1) xs
next_of xs i x within is =
    rw (add-one, drop-cons xs i x within) (ap (λ y. y ∷ drop (suc i) xs) (sym is))

-- the strings of the next item, and of those after it
pub exprs_next : (texts : List (List ℕ)) (es : List TypedExpr) (i : ℕ) (e : TypedExpr)
    → i < length es → e ≡ get_or es i e
    → once_each texts (exprs_texts (exprs_of (drop i es)))
    ≡ once_each (once_each texts (expr_texts (view_expr e)))
    (exprs_texts (exprs_of (drop (i + 1) es)))
exprs_next texts es i e within is =
    ap (λ (rest : List TypedExpr). once_each texts (exprs_texts (exprs_of rest)))
    (next_of es i e within is)
    ∙ once_each-append texts (expr_texts (view_expr e)) (exprs_texts (exprs_of (drop (i + 1) es)))

pub stmts_next : (texts : List (List ℕ)) (ts : List TypedStmt) (i : ℕ) (t : TypedStmt)
    → i < length ts → t ≡ get_or ts i t
    → once_each texts (stmts_texts (stmts_of (drop i ts)))
    ≡ once_each (once_each texts (stmt_texts (view_stmt t)))
    (stmts_texts (stmts_of (drop (i + 1) ts)))
stmts_next texts ts i t within is =
    ap (λ (rest : List TypedStmt). once_each texts (stmts_texts (stmts_of rest)))
    (next_of ts i t within is)
    ∙ once_each-append texts (stmt_texts (view_stmt t)) (stmts_texts (stmts_of (drop (i + 1) ts)))

pub strings_next : (texts : List (List ℕ)) (fns : List TypedFun) (i : ℕ) (fn : TypedFun)
    → i < length fns → fn ≡ get_or fns i fn
    → once_each texts (funs_texts (map view_fun (drop i fns)))
    ≡ once_each (once_each (once_each texts (stmt_texts (view_stmt fn.body)))
    (default_texts fn.result)) (funs_texts (map view_fun (drop (i + 1) fns)))
strings_next texts fns i fn within is =
    let body = stmt_texts (view_stmt fn.body) in
    let rest = funs_texts (map view_fun (drop (i + 1) fns)) in
    ap (λ (some : List TypedFun). once_each texts (funs_texts (map view_fun some)))
    (next_of fns i fn within is)
    ∙ once_each-append texts (body ++ default_texts fn.result) rest
    ∙ ap (λ before. once_each before rest)
    (once_each-append texts body (default_texts fn.result))
