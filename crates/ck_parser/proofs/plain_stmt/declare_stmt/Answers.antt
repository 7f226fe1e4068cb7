use Rattle.std.proofs.lemmas.Result.{err_from_is_err_and}
use Rattle.ck_lexer.specs.declared.mark.Mark.TheVariants as m
use Rattle.ck_parser.specs.Statements.{ends, other_declrs}
use Rattle.parse_exprs.specs.Tokens.{a_mark}
use Rattle.ck_parser.proofs.MadeStmt.{then_reads, stops_in, declr_comma, declr_alone}
use Rattle.parse_exprs.proofs.Steps.{onward, inside, stops_onward, past_sign, no_sign}
use Rattle.ck_syntax.specs.Tree as t
use Rattle.ck_syntax.specs.View.{view_declr, declrs_of}
use Rattle.ck_parser.proofs.plain_stmt.declare_stmt.Goals as goal

pub returns-in_err-declarators-clause-reads : goal.returns-in_err-declarators-clause-reads
returns-in_err-declarators-clause-reads c =
    let p = err_from_is_err_and c.from_residual.result c.from_residual.ensures.1 in
    rw (p.1, p.2) (stops_in _ (λ k. other_declrs c.args.depth (view_declr c.args.first) k)
    (λ k xs. ends c.args.depth (k (t.declares c.args.line c.args.head xs))) c.args.tokens.now
    c.in-Some.behind.now _ (declr_comma c.args.depth c.args.line c.args.head
    (view_declr c.args.first) c.in-Some.ensures.token c.requires)
    c.in_err-declarators.ensures.reads)

pub returns-in_err-rest-clause-reads : goal.returns-in_err-rest-clause-reads
returns-in_err-rest-clause-reads c =
    let p = err_from_is_err_and c.from_residual-in_err-rest.result
    c.from_residual-in_err-rest.ensures.1 in
    rw (p.1, p.2) (stops_onward _ (onward (declr_comma c.args.depth c.args.line c.args.head
    (view_declr c.args.first) c.in-Some.ensures.token c.requires)
    (inside (λ k xs. ends c.args.depth (k (t.declares c.args.line c.args.head xs)))
    c.in_ok-declarators.ensures.reads))
    (no_sign c.in_ok-declarators.close.now (a_mark m.Semicolon) c.args.depth
    (λ k. k (t.declares c.args.line c.args.head
    (declrs_of t.no_declrs c.in_ok-declarators.declarators))) _ c.in_err-rest.ensures.token))

pub returns-in_ok-stmt-clause-reads : goal.returns-in_ok-stmt-clause-reads
returns-in_ok-stmt-clause-reads c = rw c.in_ok-stmt.ensures
    (onward (onward (declr_comma c.args.depth c.args.line c.args.head (view_declr c.args.first)
    c.in-Some.ensures.token c.requires) (inside
    (λ k xs. ends c.args.depth (k (t.declares c.args.line c.args.head xs)))
    c.in_ok-declarators.ensures.reads))
    (past_sign (a_mark m.Semicolon) c.args.depth
    (λ k. k (t.declares c.args.line c.args.head
    (declrs_of t.no_declrs c.in_ok-declarators.declarators))) c.in_ok-rest.ensures.token
    c.requires))

pub returns-in_ok-left-clause-reads : goal.returns-in_ok-left-clause-reads
returns-in_ok-left-clause-reads c = then_reads _ _ _ _ _ _ _
    (declr_alone c.args.tokens.now c.args.depth c.args.line c.args.head
    (view_declr c.args.first) c.in_default.ensures.token)
    (rw c.in_ok-left.ensures at c.simple_stmt.ensures.reads)
