use Rattle.std.proofs.Common.{rules, ◌≡◌, ◌∙◌, true, false, refl, sym, ap}
use Rattle.ck_syntax.specs.Tree.{no_stmts}
use Rattle.ck_syntax.specs.View.{view_stmt, view_stmt_kind}
use Rattle.ck_syntax.proofs.Views.{view-Block}
use Rattle.type_table.proofs.Walks.{ran_stop, ran_all}
use Rattle.built_forms.specs.Built.{stmt_built}
use Rattle.built_forms.proofs.Runs.{one_stmt, stmts_run}
use Rattle.built_forms.proofs.stmts.+statements.Goals as goal

pub are_stmts_built-returns-then-not-is_stmt_built : goal.are_stmts_built-returns-then-not-is_stmt_built
are_stmts_built-returns-then-not-is_stmt_built t c =
    let no : stmt_built (view_stmt c.s-item.result) ≡ false = search rules in
    sym (stmts_run no_stmts c.args.all.now ∙ ran_stop one_stmt true c.args.all.now c.loop-s.s-index true c.s-item.result
    false
    c.loop-s-test.true c.s-item.is no (λ y. refl) c.loop-s.invariant)

pub are_stmts_built-returns : goal.are_stmts_built-returns
are_stmts_built-returns t c =
    sym (stmts_run no_stmts c.args.all.now ∙ ran_all one_stmt true c.args.all.now c.loop-s.s-index true
    c.loop-s-test.false c.loop-s.invariant)

pub is_stmt_built-returns-in-Block : goal.is_stmt_built-returns-in-Block
is_stmt_built-returns-in-Block t c =
    let l = c.args.s.now.line in
    let is = ap (λ k. stmt_built (view_stmt_kind l k)) c.in-Block.is ∙ ap stmt_built (view-Block l _) in
    search (rules, is)
