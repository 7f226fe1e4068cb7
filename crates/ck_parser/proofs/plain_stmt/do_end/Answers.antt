use Rattle.std.proofs.lemmas.Result.{err_from_is_err_and}
use Rattle.ck_lexer.specs.declared.mark.Mark.TheVariants as m
use Rattle.parse_exprs.specs.Machine.{a_test}
use Rattle.parse_exprs.specs.Tokens.{a_mark}
use Rattle.ck_parser.proofs.MadeStmt.{stops_in, with_test, in_do_while, in_do_until, no_until}
use Rattle.parse_exprs.proofs.Steps.{onward, inside, stops_onward, past_sign, no_sign}
use Rattle.ck_syntax.specs.Tree as t
use Rattle.ck_syntax.specs.View.{view_expr, view_stmt}
use Rattle.ck_parser.proofs.plain_stmt.do_end.Goals as goal

pub returns-in_err-behind-clause-reads : goal.returns-in_err-behind-clause-reads
returns-in_err-behind-clause-reads c =
    let p = err_from_is_err_and c.from_residual-in_err-behind.result
    c.from_residual-in_err-behind.ensures.1 in
    rw (p.1, p.2) (no_until (view_stmt c.args.body.value) c.args.tokens.now c.args.depth
    c.args.line _ c.in_default.ensures.token c.in_err-behind.ensures.token)

pub returns-in_err-test-clause-reads : goal.returns-in_err-test-clause-reads
returns-in_err-test-clause-reads c =
    let p = err_from_is_err_and c.from_residual.result c.from_residual.ensures.1 in
    rw (p.1, p.2) (stops_in _ (λ k. a_test c.args.depth k)
    (λ k. with_test c.args.depth c.args.line
    (t.do_while c.args.line (view_stmt c.args.body.value)) k) c.args.tokens.now
    c.in-Some.behind.now _ (in_do_while c.args.depth c.args.line c.in-Some.ensures.token
    c.requires) c.in_err-test.ensures.reads)

pub returns-in_err-test-2-clause-reads : goal.returns-in_err-test-2-clause-reads
returns-in_err-test-2-clause-reads c =
    let p = err_from_is_err_and c.from_residual-in_err-test-2.result
    c.from_residual-in_err-test-2.ensures.1 in
    rw (p.1, p.2) (stops_in _ (λ k. a_test c.args.depth k)
    (λ k. with_test c.args.depth c.args.line
    (t.do_until c.args.line (view_stmt c.args.body.value)) k) c.args.tokens.now
    c.in_ok-behind.behind.now _ (in_do_until c.args.depth c.args.line c.in_default.ensures.token
    c.in_ok-behind.ensures.token c.requires) c.in_err-test-2.ensures.reads)

pub returns-in_err-rest-clause-reads : goal.returns-in_err-rest-clause-reads
returns-in_err-rest-clause-reads c =
    let p = err_from_is_err_and c.from_residual-in_err-rest.result
    c.from_residual-in_err-rest.ensures.1 in
    rw (p.1, p.2) (stops_onward _ (onward (in_do_while c.args.depth c.args.line
    c.in-Some.ensures.token c.requires) (inside
    (λ k. with_test c.args.depth c.args.line
    (t.do_while c.args.line (view_stmt c.args.body.value)) k) c.in_ok-test.ensures.reads))
    (no_sign c.in_ok-test.close.now (a_mark m.Semicolon) c.args.depth
    (λ k. k (t.do_while c.args.line (view_stmt c.args.body.value)
    (view_expr c.in_ok-test.test.value))) _ c.in_err-rest.ensures.token))

pub returns-in_ok-do_while-clause-reads : goal.returns-in_ok-do_while-clause-reads
returns-in_ok-do_while-clause-reads c = rw c.in_ok-do_while.ensures
    (onward (onward (in_do_while c.args.depth c.args.line c.in-Some.ensures.token c.requires)
    (inside (λ k. with_test c.args.depth c.args.line
    (t.do_while c.args.line (view_stmt c.args.body.value)) k) c.in_ok-test.ensures.reads))
    (past_sign (a_mark m.Semicolon) c.args.depth
    (λ k. k (t.do_while c.args.line (view_stmt c.args.body.value)
    (view_expr c.in_ok-test.test.value))) c.in_ok-rest.ensures.token c.requires))

pub returns-in_err-rest-2-clause-reads : goal.returns-in_err-rest-2-clause-reads
returns-in_err-rest-2-clause-reads c =
    let p = err_from_is_err_and c.from_residual-in_err-rest-2.result
    c.from_residual-in_err-rest-2.ensures.1 in
    rw (p.1, p.2) (stops_onward _ (onward (in_do_until c.args.depth c.args.line
    c.in_default.ensures.token c.in_ok-behind.ensures.token c.requires)
    (inside (λ k. with_test c.args.depth c.args.line
    (t.do_until c.args.line (view_stmt c.args.body.value)) k) c.in_ok-test-2.ensures.reads))
    (no_sign c.in_ok-test-2.close.now (a_mark m.Semicolon) c.args.depth
    (λ k. k (t.do_until c.args.line (view_stmt c.args.body.value)
    (view_expr c.in_ok-test-2.test.value))) _ c.in_err-rest-2.ensures.token))

pub returns-in_ok-do_until-clause-reads : goal.returns-in_ok-do_until-clause-reads
returns-in_ok-do_until-clause-reads c = rw c.in_ok-do_until.ensures
    (onward (onward (in_do_until c.args.depth c.args.line c.in_default.ensures.token
    c.in_ok-behind.ensures.token c.requires)
    (inside (λ k. with_test c.args.depth c.args.line
    (t.do_until c.args.line (view_stmt c.args.body.value)) k) c.in_ok-test-2.ensures.reads))
    (past_sign (a_mark m.Semicolon) c.args.depth
    (λ k. k (t.do_until c.args.line (view_stmt c.args.body.value)
    (view_expr c.in_ok-test-2.test.value))) c.in_ok-rest-2.ensures.token c.requires))
