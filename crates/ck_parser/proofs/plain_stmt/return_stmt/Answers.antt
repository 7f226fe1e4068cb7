use Rattle.std.proofs.lemmas.Result.{err_from_is_err_and}
use Rattle.ck_lexer.specs.declared.mark.Mark.TheVariants as m
use Rattle.parse_exprs.specs.Operands.{optional}
use Rattle.parse_exprs.specs.Tokens.{a_mark}
use Rattle.parse_exprs.proofs.Steps.{inside, stops_inside}
use Rattle.ck_syntax.specs.Tree as t
use Rattle.ck_parser.proofs.plain_stmt.return_stmt.Goals as goal

pub returns-in_err-value-clause-reads : goal.returns-in_err-value-clause-reads
returns-in_err-value-clause-reads c =
    let p = err_from_is_err_and c.from_residual.result c.from_residual.ensures.1 in
    rw (p.1, p.2) (stops_inside (λ k. optional c.args.depth (a_mark m.Semicolon) k)
    c.args.tokens.now (λ k e. k (t.return c.args.line e)) _ c.in_err-value.ensures.reads)

pub returns-clause-reads : goal.returns-clause-reads
returns-clause-reads c = rw c.in_ok-return_value.ensures
    (inside (λ k e. k (t.return c.args.line e)) c.in_ok-value.ensures.reads)
