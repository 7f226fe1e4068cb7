use Rattle.std.proofs.Common.{rules, ◌≡◌, ◌∙◌, ◌&&◌, true, false, refl, sym, ap}
use Rattle.ck_syntax.specs.Tree.{no_exprs, no_brackets}
use Rattle.ck_syntax.specs.View.{view_expr, view_kind, exprs_of, view_tail}
use Rattle.ck_syntax.proofs.Views.{view-Array, view-Call, view-New, view-Brackets}
use Rattle.type_table.proofs.Walks.{ran_stop, ran_all}
use Rattle.built_forms.specs.Built.{expr_built, exprs_built, bracket_built, declr_built}
use Rattle.built_forms.proofs.Runs.{one_expr, exprs_run, one_bracket, brackets_run}
use Rattle.built_forms.proofs.exprs.+expressions.Goals as goal

pub are_brackets_built-returns-then-not-is_bracket_built : goal.are_brackets_built-returns-then-not-is_bracket_built
are_brackets_built-returns-then-not-is_bracket_built t c =
    let no : bracket_built c.bracket-item.result ≡ false = search rules in
    sym (brackets_run no_brackets c.args.all.now
    ∙ ran_stop one_bracket true c.args.all.now c.loop-bracket.bracket-index true c.bracket-item.result false
    c.loop-bracket-test.true c.bracket-item.is no (λ y. refl) c.loop-bracket.invariant)

pub are_brackets_built-returns : goal.are_brackets_built-returns
are_brackets_built-returns t c =
    sym (brackets_run no_brackets c.args.all.now
    ∙ ran_all one_bracket true c.args.all.now c.loop-bracket.bracket-index true
    c.loop-bracket-test.false c.loop-bracket.invariant)

pub are_exprs_built-returns-then-not-is_expr_built : goal.are_exprs_built-returns-then-not-is_expr_built
are_exprs_built-returns-then-not-is_expr_built t c =
    let no : expr_built (view_expr c.e-item.result) ≡ false = search rules in
    sym (exprs_run no_exprs c.args.all.now ∙ ran_stop one_expr true c.args.all.now c.loop-e.e-index true c.e-item.result
    false
    c.loop-e-test.true c.e-item.is no (λ y. refl) c.loop-e.invariant)

pub are_exprs_built-returns : goal.are_exprs_built-returns
are_exprs_built-returns t c =
    sym (exprs_run no_exprs c.args.all.now ∙ ran_all one_expr true c.args.all.now c.loop-e.e-index true
    c.loop-e-test.false c.loop-e.invariant)

pub is_declarator_built-returns-in-Brackets : goal.is_declarator_built-returns-in-Brackets
is_declarator_built-returns-in-Brackets t c =
    let n = c.args.declarator.now.name in
    let is = ap (λ y. declr_built (view_tail n y)) c.in-Brackets.is ∙ ap declr_built (view-Brackets n _) in
    search (rules, is)

pub is_expr_built-returns-in-Array : goal.is_expr_built-returns-in-Array
is_expr_built-returns-in-Array t c =
    let l = c.args.e.now.line in
    let is = ap (λ k. expr_built (view_kind l k)) c.in-Array.is ∙ ap expr_built (view-Array l _) in
    search (rules, is)

pub is_expr_built-returns-in-New : goal.is_expr_built-returns-in-New
is_expr_built-returns-in-New t c =
    let l = c.args.e.now.line in
    let is = ap (λ k. expr_built (view_kind l k)) c.in-New.is ∙ ap expr_built (view-New l c.in-New.base _) in
    search (rules, is)

pub is_expr_built-returns-then-is_expr_built-3 : goal.is_expr_built-returns-then-is_expr_built-3
is_expr_built-returns-then-is_expr_built-3 t c =
    let l = c.args.e.now.line in
    let is = ap (λ k. expr_built (view_kind l k)) c.in-Call.is
    ∙ ap expr_built (view-Call l c.in-Call.callee c.in-Call.arguments) in
    let yes : expr_built (view_expr c.in-Call.callee.value) ≡ true = search rules in
    let all : c.are_exprs_built-then-is_expr_built-3.result
    ≡ exprs_built (exprs_of no_exprs c.in-Call.arguments) = search rules in
    all ∙ sym (is ∙ ap (λ b. b && exprs_built (exprs_of no_exprs c.in-Call.arguments)) yes)
