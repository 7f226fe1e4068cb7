use Rattle.std.proofs.lemmas.Result.{err_from_is_err_and}
use Rattle.ck_lexer.specs.declared.mark.Mark.TheVariants as m
use Rattle.parse_exprs.specs.Machine.{sign, some_exprs}
use Rattle.ck_parser.specs.Statements.{ends}
use Rattle.parse_exprs.specs.Tokens.{a_mark}
use Rattle.parse_exprs.proofs.Steps.{onward, inside, stops_inside, stops_onward, past_sign, no_sign}
use Rattle.ck_syntax.specs.Tree as t
use Rattle.ck_syntax.specs.View.{exprs_of}
use Rattle.ck_parser.proofs.plain_stmt.print_stmt.Goals as goal

pub returns-in_err-items-clause-reads : goal.returns-in_err-items-clause-reads
returns-in_err-items-clause-reads c =
    let p = err_from_is_err_and c.from_residual.result c.from_residual.ensures.1 in
    rw (p.1, p.2) (stops_inside (λ k. some_exprs c.args.depth
    (λ es. sign c.args.depth (a_mark m.PrintClose) (k es))) c.args.tokens.now
    (λ k es. ends c.args.depth (k (t.print c.args.line es))) _ c.in_err-items.ensures.reads)

pub returns-in_err-rest-clause-reads : goal.returns-in_err-rest-clause-reads
returns-in_err-rest-clause-reads c =
    let p = err_from_is_err_and c.from_residual-in_err-rest.result
    c.from_residual-in_err-rest.ensures.1 in
    rw (p.1, p.2) (stops_onward _ (inside (λ k es.
    ends c.args.depth (k (t.print c.args.line es))) c.in_ok-items.ensures.reads)
    (no_sign c.in_ok-items.behind.now (a_mark m.Semicolon) c.args.depth
    (λ k. k (t.print c.args.line (exprs_of t.no_exprs c.in_ok-items.items))) _
    c.in_err-rest.ensures.token))

pub returns-clause-reads : goal.returns-clause-reads
returns-clause-reads c = rw c.in_ok-node.ensures
    (onward (inside (λ k es. ends c.args.depth (k (t.print c.args.line es)))
    c.in_ok-items.ensures.reads) (past_sign (a_mark m.Semicolon) c.args.depth
    (λ k. k (t.print c.args.line (exprs_of t.no_exprs c.in_ok-items.items)))
    c.in_ok-rest.ensures.token c.requires))
