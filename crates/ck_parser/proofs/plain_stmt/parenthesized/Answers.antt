use Rattle.std.proofs.Common.{suc}
use Rattle.std.proofs.lemmas.Result.{err_from_is_err_and}
use Rattle.ck_lexer.specs.declared.mark.Mark.TheVariants as m
use Rattle.parse_exprs.specs.Tokens.{a_mark}
use Rattle.ck_parser.proofs.MadeStmt.{then_reads, closed, in_parens, deep_parens}
use Rattle.parse_exprs.proofs.Steps.{no_sign}
use Rattle.ck_parser.proofs.plain_stmt.parenthesized.Goals as goal

pub returns-in_err-open-clause-reads : goal.returns-in_err-open-clause-reads
returns-in_err-open-clause-reads c =
    let p = err_from_is_err_and c.from_residual.result c.from_residual.ensures.1 in
    rw (p.1, p.2) (no_sign c.args.tokens.now (a_mark m.LeftParen) (suc c.args.depth)
    (λ k. closed (suc c.args.depth) k) _ c.in_err-open.ensures.token)

pub returns-in_err-inside-clause-reads : goal.returns-in_err-inside-clause-reads
returns-in_err-inside-clause-reads c =
    let p = err_from_is_err_and c.from_residual-in_err-inside.result
    c.from_residual-in_err-inside.ensures.1 in
    rw (p.1, p.2) (deep_parens c.args.depth _ c.in_ok-open.ensures.token c.in_err-inside.ensures)

pub returns-clause-reads : goal.returns-clause-reads
returns-clause-reads c = then_reads _ _ _ _ _ _ _
    (in_parens c.args.depth c.in_ok-inside.inside c.in_ok-open.ensures.token
    c.in_ok-inside.ensures.0 c.in_ok-inside.ensures.1) c.closed_expr.ensures.reads
