use Rattle.std.proofs.Common.{refl}
use Rattle.std.proofs.lemmas.Result.{err_from_is_err_and}
use Rattle.ck_lexer.specs.declared.mark.Mark.TheVariants as m
use Rattle.ck_parser.specs.Statements.{ends, after_print, after_return}
use Rattle.parse_exprs.specs.Tokens.{opening, a_mark, opens_print, opens_return, opens_break}
use Rattle.parse_exprs.specs.Tokens.{opens_continue}
use Rattle.ck_parser.proofs.MadeStmt.{then_reads, stmt_first, expr_of_stmt, agrees_simple}
use Rattle.ck_parser.proofs.MadeStmt.{sees_simple_else, plain_at}
use Rattle.parse_exprs.proofs.Steps.{onward, stops_onward, past_sign, no_sign}
use Rattle.ck_syntax.specs.Tree as t
use Rattle.ck_parser.proofs.plain_stmt.plain_stmt.Goals as goal

pub returns-in-Print-clause-reads : goal.returns-in-Print-clause-reads
returns-in-Print-clause-reads c = then_reads _ _ _ _ _ _ _
    (stmt_first opens_print (λ k. after_print c.args.depth c.in-Some.token.now.line k)
    c.args.depth c.in-Some.ensures.token (rw c.in-Print.is at c.opening_of.ensures)
    c.requires.shallow (λ k. refl)) c.print_stmt.ensures.reads

pub returns-in-Return-clause-reads : goal.returns-in-Return-clause-reads
returns-in-Return-clause-reads c = then_reads _ _ _ _ _ _ _
    (stmt_first opens_return (λ k. after_return c.args.depth c.in-Some.token.now.line k)
    c.args.depth c.in-Some.ensures.token (rw c.in-Return.is at c.opening_of.ensures)
    c.requires.shallow (λ k. refl)) c.return_stmt.ensures.reads

pub returns-in_err-rest-in-Break-clause-reads : goal.returns-in_err-rest-in-Break-clause-reads
returns-in_err-rest-in-Break-clause-reads c =
    let p = err_from_is_err_and c.from_residual.result c.from_residual.ensures.1 in
    rw (p.1, p.2) (stops_onward _ (stmt_first opens_break
    (λ k. ends c.args.depth (k (t.break c.in-Some.token.now.line))) c.args.depth
    c.in-Some.ensures.token (rw c.in-Break.is at c.opening_of.ensures) c.requires.shallow
    (λ k. refl)) (no_sign c.in-Some.behind.now (a_mark m.Semicolon) c.args.depth
    (λ k. k (t.break c.in-Some.token.now.line)) _ c.in_err-rest-in-Break.ensures.token))

pub returns-in_ok-node-in-Break-clause-reads : goal.returns-in_ok-node-in-Break-clause-reads
returns-in_ok-node-in-Break-clause-reads c = rw c.in_ok-node-in-Break.ensures
    (onward (stmt_first opens_break (λ k. ends c.args.depth
    (k (t.break c.in-Some.token.now.line))) c.args.depth c.in-Some.ensures.token
    (rw c.in-Break.is at c.opening_of.ensures) c.requires.shallow (λ k. refl))
    (past_sign (a_mark m.Semicolon) c.args.depth (λ k. k (t.break c.in-Some.token.now.line))
    c.in_ok-rest-in-Break.ensures.token c.requires.shallow))

pub returns-in_err-rest-in-Continue-clause-reads : goal.returns-in_err-rest-in-Continue-clause-reads
returns-in_err-rest-in-Continue-clause-reads c =
    let p = err_from_is_err_and c.from_residual-in_err-rest-in-Continue.result
    c.from_residual-in_err-rest-in-Continue.ensures.1 in
    rw (p.1, p.2) (stops_onward _ (stmt_first opens_continue
    (λ k. ends c.args.depth (k (t.continue c.in-Some.token.now.line))) c.args.depth
    c.in-Some.ensures.token (rw c.in-Continue.is at c.opening_of.ensures) c.requires.shallow
    (λ k. refl)) (no_sign c.in-Some.behind.now (a_mark m.Semicolon) c.args.depth
    (λ k. k (t.continue c.in-Some.token.now.line)) _ c.in_err-rest-in-Continue.ensures.token))

pub returns-in_ok-node-in-Continue-clause-reads : goal.returns-in_ok-node-in-Continue-clause-reads
returns-in_ok-node-in-Continue-clause-reads c = rw c.in_ok-node-in-Continue.ensures
    (onward (stmt_first opens_continue (λ k.
    ends c.args.depth (k (t.continue c.in-Some.token.now.line))) c.args.depth
    c.in-Some.ensures.token (rw c.in-Continue.is at c.opening_of.ensures) c.requires.shallow
    (λ k. refl)) (past_sign (a_mark m.Semicolon) c.args.depth
    (λ k. k (t.continue c.in-Some.token.now.line)) c.in_ok-rest-in-Continue.ensures.token
    c.requires.shallow))

pub returns-in_default-opening_of-clause-reads : goal.returns-in_default-opening_of-clause-reads
returns-in_default-opening_of-clause-reads c =
    let x = c.in-Some.token.now in
    let n = c.in_default-opening_of in
    then_reads _ _ _ _ _ _ _ (expr_of_stmt c.args.tokens.now c.args.depth
    c.in-Some.ensures.token (agrees_simple (opening x.line x.kind) c.opening_of.result
    c.opening_of.ensures (plain_at c.args.tokens.now c.in-Some.ensures.token c.requires.plain)
    (sees_simple_else _ n.not-Print n.not-Return n.not-Break n.not-Continue)))
    c.expr_stmt.ensures.reads
