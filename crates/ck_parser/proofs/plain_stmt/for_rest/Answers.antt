use Rattle.std.proofs.lemmas.Result.{err_from_is_err_and}
use Rattle.ck_lexer.specs.declared.mark.Mark.TheVariants as m
use Rattle.parse_exprs.specs.Machine.{an_expr_stmt}
use Rattle.parse_exprs.specs.Operands.{optional}
use Rattle.ck_parser.specs.Statements.{a_for_rest}
use Rattle.parse_exprs.specs.Tokens.{a_mark}
use Rattle.ck_parser.proofs.MadeStmt.{stops_in}
use Rattle.parse_exprs.proofs.Steps.{onward, inside, stops_inside}
use Rattle.ck_syntax.specs.View.{view_stmt}
use Rattle.ck_parser.proofs.plain_stmt.for_rest.Goals as goal

pub returns-in_err-test-clause-reads : goal.returns-in_err-test-clause-reads
returns-in_err-test-clause-reads c =
    let p = err_from_is_err_and c.from_residual.result c.from_residual.ensures.1 in
    rw (p.1, p.2) (stops_inside (λ k. an_expr_stmt c.args.depth k) c.args.tokens.now
    (λ k y. optional c.args.depth (a_mark m.RightParen) (k y)) _ c.in_err-test.ensures.reads)

pub returns-in_err-step-clause-reads : goal.returns-in_err-step-clause-reads
returns-in_err-step-clause-reads c =
    let p = err_from_is_err_and c.from_residual-in_err-step.result
    c.from_residual-in_err-step.ensures.1 in
    rw (p.1, p.2) (stops_in (λ k. a_for_rest c.args.depth k)
    (λ k. optional c.args.depth (a_mark m.RightParen) k)
    (λ k. k (view_stmt c.in_ok-test.test.value)) c.args.tokens.now c.in_ok-test.behind.now _
    (inside (λ k y. optional c.args.depth (a_mark m.RightParen) (k y)) c.in_ok-test.ensures.reads)
    c.in_err-step.ensures.reads)

pub returns-clause-reads : goal.returns-clause-reads
returns-clause-reads c = onward
    (inside (λ k y. optional c.args.depth (a_mark m.RightParen) (k y)) c.in_ok-test.ensures.reads)
    (inside (λ k. k (view_stmt c.in_ok-test.test.value)) c.in_ok-step.ensures.reads)
