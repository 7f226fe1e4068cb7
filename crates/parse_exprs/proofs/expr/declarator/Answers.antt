use Rattle.std.proofs.lemmas.Result.{err_from_is_err_and}
use Rattle.parse_exprs.proofs.MadeExpr.{no_declr_name, declr_fault, made_declr}
use Rattle.parse_exprs.proofs.expr.declarator.Goals as goal

pub returns-in_err-name-clause-reads : goal.returns-in_err-name-clause-reads
returns-in_err-name-clause-reads c =
    let p = err_from_is_err_and c.from_residual.result c.from_residual.ensures.1 in
    rw (p.1, p.2) (no_declr_name c.args.tokens.now c.args.depth _ c.in_err-name.ensures.token)

pub returns-in_err-tail-clause-reads : goal.returns-in_err-tail-clause-reads
returns-in_err-tail-clause-reads c =
    let p = err_from_is_err_and c.from_residual-in_err-tail.result
    c.from_residual-in_err-tail.ensures.1 in
    rw (p.1, p.2) (declr_fault c.args.depth _ c.in_ok-name.ensures.token c.requires
    (c.in_err-tail.ensures.reads _))

pub returns-clause-reads : goal.returns-clause-reads
returns-clause-reads c =
    made_declr c.args.depth c.in_ok-name.ensures.token c.requires (c.in_ok-tail.ensures.reads _)
