use Rattle.std.proofs.lemmas.Result.{err_from_is_err_and}
use Rattle.ck_lexer.specs.declared.mark.Mark.TheVariants as m
use Rattle.parse_exprs.specs.Machine.{chucks, simple_end}
use Rattle.parse_exprs.specs.Tokens.{a_mark}
use Rattle.parse_exprs.proofs.Steps.{onward, inside, stops_inside, stops_onward, past_sign, no_sign}
use Rattle.ck_syntax.specs.Tree as t
use Rattle.ck_syntax.specs.View.{view_expr}
use Rattle.ck_parser.proofs.plain_stmt.simple_stmt.Goals as goal

pub returns-in_err-expr-clause-reads : goal.returns-in_err-expr-clause-reads
returns-in_err-expr-clause-reads c =
    let p = err_from_is_err_and c.from_residual.result c.from_residual.ensures.1 in
    rw (p.1, p.2) (stops_inside (λ k. chucks c.args.at (view_expr c.args.left.value) k)
    c.args.tokens.now (λ k. simple_end c.args.depth k) _ c.in_err-expr.ensures.reads)

pub returns-in_err-rest-clause-reads : goal.returns-in_err-rest-clause-reads
returns-in_err-rest-clause-reads c =
    let p = err_from_is_err_and c.from_residual-in_err-rest.result
    c.from_residual-in_err-rest.ensures.1 in
    let e = view_expr c.in_ok-expr.expr.value in
    rw (p.1, p.2) (stops_onward _ (inside (λ k. simple_end c.args.depth k)
    c.in_ok-expr.ensures.reads) (no_sign c.in_ok-expr.close.now (a_mark m.Semicolon)
    c.args.depth (λ k. k (t.simple (t.expr_line e) e)) _ c.in_err-rest.ensures.token))

pub returns-clause-reads : goal.returns-clause-reads
returns-clause-reads c =
    let e = view_expr c.in_ok-expr.expr.value in
    rw c.in_ok-simple.ensures (onward (inside (λ k. simple_end c.args.depth k)
    c.in_ok-expr.ensures.reads) (past_sign (a_mark m.Semicolon) c.args.depth
    (λ k. k (t.simple (t.expr_line e) e)) c.in_ok-rest.ensures.token c.requires.shallow))
